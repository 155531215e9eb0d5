-- ]]> in character data: to count the ] before each byte, as a place does, says the same of a row as to look for ]]> in all
-- data that stands together. Assumes nothing.
use mathlib.Core.Path.{◌≡◌, refl, ap, sym, ◌∙◌}
use mathlib.Core.Bool.{Bool, true, false, ◌&&◌, not, and-false}
use mathlib.Core.List.{List, [], ◌∷◌}
use Prim.Native.Nat.{ℕ}
use borrow.Author.Tests.{eqb-true, eqb-false, eq-eqb, ne_eqb}
use lib.Dec.{eqb}
use Rattle.lists.proofs.Tests.{by_test}
use Rattle.lists.specs.Fronts.{starts_with}
use Rattle.xml.specs.Bytes.{bracket, greater_than}
use Rattle.xml.specs.Grammar.{Construct, datum, reference, cdata, comment, start, empty_element, stop, brackets_after}
use Rattle.xml.specs.Content.{data_front, data_right}

-- what a row asks of its data where so many ] stand before it
unfoldable pub brackets_right : (brackets : ℕ) → List Construct → Bool
brackets_right b [] = true
brackets_right b (datum c ∷ cs) = not (eqb c greater_than && eqb b 2) && brackets_right (brackets_after c b) cs
brackets_right b (reference n ∷ cs) = brackets_right 0 cs
brackets_right b (cdata bs ∷ cs) = brackets_right 0 cs
brackets_right b (comment bs ∷ cs) = brackets_right 0 cs
brackets_right b (start t ∷ cs) = brackets_right 0 cs
brackets_right b (empty_element t ∷ cs) = brackets_right 0 cs
brackets_right b (stop n bs ∷ cs) = brackets_right 0 cs

eqb_symmetric : (a b : ℕ) → eqb a b ≡ eqb b a
eqb_symmetric a b =
    by_test (eqb a b)
    (λ e. e ∙ sym (eq-eqb b a (sym (eqb-true a b e))))
    (λ e. e ∙ sym (ne_eqb b a (λ q. eqb-false a b e (sym q))))

-- the ] before it count as if they stood in it
record Counted (row : List Construct) : Type 0 where
  none : brackets_right 0 row ≡ data_right row
  one : brackets_right 1 row ≡ data_right (datum bracket ∷ row)
  two : brackets_right 2 row ≡ data_right (datum bracket ∷ datum bracket ∷ row)

-- a row that begins with no data
parted : (c : Construct) (cs : List Construct) → data_front (c ∷ cs) ≡ [] → ((b : ℕ) → brackets_right b (c ∷ cs) ≡ brackets_right 0 cs) → Counted cs → Counted (c ∷ cs)
unfolding data_right data_front starts_with
parted c cs f same k = record { none = same 0 ∙ rw f k.none; one = same 1 ∙ rw f k.none; two = same 2 ∙ rw f k.none }

data_counted : (c : ℕ) (cs : List Construct) → Counted cs → Counted (datum c ∷ cs)
unfolding brackets_right brackets_after data_right data_front starts_with
data_counted c cs k =
    by_test (eqb c bracket)
    (λ e. rw (eqb-true c bracket e) (record { none = k.one; one = k.two; two = k.two }))
    (λ e. let f : eqb bracket c ≡ false = rw (eqb_symmetric bracket c) e in
    record {
      none = rw (e, f, and-false (eqb c greater_than)) k.none;
      one = rw (e, f, and-false (eqb c greater_than)) k.none;
      two = rw (e, f, eqb_symmetric c greater_than) (ap (λ t. not (eqb greater_than c && true) && t) k.none);
    })

counted : (row : List Construct) → Counted row
unfolding brackets_right data_right data_front starts_with
counted [] = record { none = refl; one = refl; two = refl }
counted (datum c ∷ cs) = data_counted c cs (counted cs)
counted (reference n ∷ cs) = parted (reference n) cs refl (λ b. refl) (counted cs)
counted (cdata bs ∷ cs) = parted (cdata bs) cs refl (λ b. refl) (counted cs)
counted (comment bs ∷ cs) = parted (comment bs) cs refl (λ b. refl) (counted cs)
counted (start t ∷ cs) = parted (start t) cs refl (λ b. refl) (counted cs)
counted (empty_element t ∷ cs) = parted (empty_element t) cs refl (λ b. refl) (counted cs)
counted (stop n bs ∷ cs) = parted (stop n bs) cs refl (λ b. refl) (counted cs)

pub brackets_count : (row : List Construct) → brackets_right 0 row ≡ data_right row
brackets_count row = (counted row).none
