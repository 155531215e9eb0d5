-- Attributes one after the other, each after its gap. Assumes nothing: these are definitions.
use Rattle.std.specs.Prelude.{◌≡◌, List, [], ◌∷◌, ℕ, drop, Some}
use Rattle.xml_scan.specs.Post.{name_from}
use Rattle.xml_attributes.specs.declared.NextInTag.TheVariants as next
use Rattle.xml_attributes.specs.Next.{next_in_tag}

-- from place i up to place k, and their names
pub data Chain (text : List ℕ) (k : ℕ) : (i : ℕ) → List (List ℕ) → Type 0 where
  here : Chain text k k []
  on : {i begins name end : ℕ} {ns : List (List ℕ)} → next_in_tag i (drop i text) ≡ Some (next.Attribute begins name end) → Chain text k end ns →
      Chain text k i (name_from text begins ∷ ns)
