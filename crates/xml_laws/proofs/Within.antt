-- A step has at least one byte, and no more than are there: it is over a construct of the grammar, which is written there.
-- Assumes nothing.
use mathlib.Core.Path.{◌≡◌, refl, sym, ◌∙◌, ap, subst}
use mathlib.Core.Bool.{Bool, true, false}
use mathlib.Core.List.{List, ◌∷◌, ◌++◌}
use mathlib.Core.Option.{some}
use Prim.Native.Nat.{ℕ, suc, ◌≤◌, ◌<◌}
use native.Mathlib.Omega.{arith}
use lib.ListN.{length, length-append}
use Rattle.xml.specs.Bytes.{less_than, tag_closes, lone_closes}
use Rattle.xml.specs.Grammar.{Place, text_of, Tag, tag_text, attributes_text}
use Rattle.xml.specs.Scan.{SizedTag, tag_at}
use Rattle.xml.specs.Reader.{Step, next, used}
use Rattle.xml_laws.specs.Steps.{is_stuck, ConstructsWritten, tag_construct, size_of, TagsWritten}
use Rattle.xml_laws.proofs.Tags.{tags_written}
use Rattle.xml_laws.proofs.Next.{constructs_written}
use Rattle.xml_laws.proofs.Readings.{begun, step_used}

pub record Within (cs : List ℕ) (s : Step) : Type 0 where
  pub least : 1 ≤ used s
  pub most : used s ≤ length cs

there : (p : Place) (cs : List ℕ) → is_stuck (next p cs) ≡ false → Within cs (next p cs)
unfolding ConstructsWritten
there p cs e =
    let t = constructs_written p cs e in
    let x = t.construct in
    let size : used (next p cs) ≡ length (text_of x) = ap used (sym t.step) ∙ step_used x in
    let some_byte : 1 ≤ length (text_of x) = omega (arith, ap length (begun x).are) in
    let all = length-append (text_of x) t.more in
    let whole = ap length t.written in
    record { least = omega (arith, size, some_byte); most = omega (arith, size, all, whole) }

pub step_within : (p : Place) (cs : List ℕ) (s : Step) → next p cs ≡ s → is_stuck s ≡ false → Within cs s
step_within p cs s e f = subst (Within cs) e (there p cs (ap is_stuck e ∙ f))

-- A TAG has at least < and >, holds its name between them, and stands in the text
pub record TagWithin (cs : List ℕ) (z : SizedTag) : Type 0 where
  pub least : 2 ≤ z.used
  pub name : z.name < z.used
  pub most : z.used ≤ length cs

closer : Bool → List ℕ
closer false = tag_closes
closer true = lone_closes

closed : (l : Bool) (t : Tag) → text_of (tag_construct l t) ≡ tag_text t ++ closer l
unfolding tag_construct text_of closer
closed false t = refl
closed true t = refl

closer_some : (l : Bool) → 1 ≤ length (closer l)
unfolding closer
closer_some false = omega arith
closer_some true = omega arith

tag_named : (t : Tag) → suc (length t.name) ≤ length (tag_text t)
unfolding tag_text
tag_named t = omega (arith, length-append t.name (attributes_text t.attributes ++ t.blank))

pub tag_within : (cs : List ℕ) (z : SizedTag) → tag_at (less_than ∷ cs) ≡ some z → TagWithin (less_than ∷ cs) z
unfolding TagsWritten size_of
tag_within cs z e =
    let t = tags_written cs z e in
    let named = tag_named t.tag in
    let some_byte = closer_some z.lone in
    let parts = ap length (closed z.lone t.tag) ∙ length-append (tag_text t.tag) (closer z.lone) in
    let used_is : length (text_of (tag_construct z.lone t.tag)) ≡ z.used = ap (λ y. y.used) t.size in
    let name_is : length t.tag.name ≡ z.name = ap (λ y. y.name) t.size in
    let whole = ap length t.written in
    let all = length-append (text_of (tag_construct z.lone t.tag)) t.more in
    record { least = omega arith; name = omega arith; most = omega arith }
