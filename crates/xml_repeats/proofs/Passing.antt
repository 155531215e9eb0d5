-- Attributes that are passed by: whether a name is one of a batch. Assumes nothing.
use mathlib.Core.Path.{◌≡◌, refl, ap, sym, ◌∙◌}
use mathlib.Core.Bool.{Bool, true, false}
use mathlib.Core.List.{List}
use Prim.Native.Nat.{ℕ, ◌≤◌, ◌<◌}
use Rattle.std.specs.Prelude.{Some}
use lib.ListN.{length, drop}
use Rattle.xml.specs.Grammar.{among}
use Rattle.xml_laws.proofs.Names.{all_new}
use Rattle.xml_scan.specs.Post.{name_from}
use Rattle.name_index.specs.Index.{Holds}
use Rattle.xml_attributes.specs.Next.{next_in_tag}
use Rattle.xml_attributes.specs.Chain.{Chain}
use Rattle.xml_attributes.specs.declared.NextInTag.TheVariants as next
use Rattle.xml_attributes.proofs.NextLaws.{chain_after}
use Rattle.xml_repeats.proofs.Chains.{chain_over, Stopped, chain_goes_on}

-- of a row from a place on and the names that an index holds: what is left to pass by says what all of it does
pub record Left (text : List ℕ) (to at : ℕ) (early late : List (List ℕ)) : Type 0 where
  pub rest : List (List ℕ)
  pub chain : Chain text to at rest
  pub new : all_new rest early ≡ all_new late early

abbrev pub Passing : (text : List ℕ) (from to : ℕ) (ss : List ℕ) (count at : ℕ) → Type 0
Passing text from to ss count at = (early late : List (List ℕ)) → Holds text ss count early → Chain text to from late → Left text to at early late

pub passing_start : (text : List ℕ) (from to : ℕ) (ss : List ℕ) (count : ℕ) → Passing text from to ss count from
passing_start text from to ss count early late held chain = record { rest = late; chain = chain; new = refl }

-- what the index says of the name that stands next
abbrev pub Told : (text ss : List ℕ) (count b : ℕ) (t : Bool) → Type 0
Told text ss count b t = (names : List (List ℕ)) → Holds text ss count names → t ≡ among (name_from text b) names

module _ {text : List ℕ} {from to : ℕ} {ss : List ℕ} {count at : ℕ} (h : Passing text from to ss count at) where
  module _ {b n e : ℕ} (is : next_in_tag at (drop at text) ≡ Some (next.Attribute b n e)) (l : at < to) {t : Bool} (told : Told text ss count b t) where
    -- it is one of them
    pub passing_held : t ≡ true → (early late : List (List ℕ)) → Holds text ss count early → Chain text to from late → false ≡ all_new late early
    unfolding all_new
    passing_held y early late held chain =
        let p = h early late held chain in
        let (rest, cut, later) = chain_after b n e is p.chain l in
        let m : among (name_from text b) early ≡ true = sym (told early held) ∙ y in
        sym (ap (λ r. all_new r early) cut ∙ rw m) ∙ p.new

    -- it is none of them
    pub passing_turn : t ≡ false → Passing text from to ss count e
    unfolding all_new
    passing_turn y early late held chain =
        let p = h early late held chain in
        let (rest, cut, later) = chain_after b n e is p.chain l in
        let m : among (name_from text b) early ≡ false = sym (told early held) ∙ y in
        record { rest = rest; chain = later; new = sym (ap (λ r. all_new r early) cut ∙ rw m) ∙ p.new }

  pub passing_broken : at < to → Stopped (next_in_tag at (drop at text)) →
      (early late : List (List ℕ)) → Holds text ss count early → Chain text to from late → false ≡ all_new late early
  passing_broken l u early late held chain = absurd (chain_goes_on (h early late held chain).chain l u)

  pub passing_end : to ≤ at → to ≤ length text → (early late : List (List ℕ)) → Holds text ss count early → Chain text to from late → true ≡ all_new late early
  unfolding all_new
  passing_end l w early late held chain =
      let p = h early late held chain in
      let none = chain_over p.chain w l in
      ap (λ r. all_new r early) (sym none) ∙ p.new
