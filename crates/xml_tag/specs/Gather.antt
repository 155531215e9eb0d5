-- What a pass over a tag's attributes tells, from where the tag's name ends. Assumes nothing: these are definitions.
use Rattle.std.specs.Prelude.{◌≡◌, true, false, List, [], ℕ, drop, Option, Some, None}
use Rattle.xml.specs.Scan.{tail_at}
use Rattle.name_index.specs.Order.{differ}
use Rattle.xml_attributes.specs.Next.{next_in_tag}
use Rattle.xml_attributes.specs.declared.NextInTag.TheVariants as next
use Rattle.xml_repeats.specs.Batches.{Met}
use Rattle.xml_tag.specs.Post.{end_found}
use Rattle.xml_tag.specs.declared.Gathered.{Gathered}

-- attributes up to a place and the end of the tag after it; where no two share a place of the filter, their names differ
pub record Closed (text : List ℕ) (from : ℕ) (ss : List ℕ) (g : Gathered) : Type 0 where
  pub met : Met text from g.last g.count ss
  pub closes : next_in_tag g.last (drop g.last text) ≡ Some (next.Closer g.end g.lone)
  pub apart : g.shared ≡ false → differ met.row ≡ true

abbrev pub Gathers : (text : List ℕ) → (from : ℕ) → (starts : List ℕ) → Option Gathered → Type 0
Gathers text from ss (Some g) = Closed text from ss g
Gathers text from ss None = None ≡ end_found from (tail_at [] 0 (drop from text))
