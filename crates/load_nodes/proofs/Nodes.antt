-- The nodes of a load, as the code finds where they begin. Assumes nothing.
use mathlib.Core.Path.{◌≡◌, ap, ◌∙◌}
use mathlib.Core.List.{List}
use Prim.Native.Nat.{ℕ, zero, suc, ◌+◌, ◌-◌, ◌≤◌, ◌<◌}
use native.Mathlib.Numerals.{add-one}
use native.Mathlib.Omega.{arith}
use borrow.Author.Tests.{eq-eqb, ne_eqb, eqb-true, eqb-false}
use lib.Dec.{eqb}
use lib.ListN.{set, replicate, length-set, length-replicate, get_or-replicate}
use lib.Seq.{get_or-set_same, get_or-set_other}
use Rattle.lists.proofs.Tests.{by_test}
use Rattle.powers.specs.Tables.{entry, table_length}
use Rattle.shape.specs.Sums.{cut}
use Rattle.load_model.specs.Begins.{next_begin, Front, begun, FirstBegins}

-- BEHIND THE FIRST NODES, height by height
pub first_none : (n : ℕ) (lows : List ℕ) → FirstBegins n 0 lows (replicate table_length n)
first_none n lows =
    record { size = length-replicate table_length n; next = λ h l. absurd (omega arith); none = λ h l m. get_or-replicate table_length h n 0 m }

pub first_more : (n j : ℕ) (lows bs : List ℕ) → j < table_length → FirstBegins n j lows bs → FirstBegins n (j + 1) lows (set bs j (next_begin 0 n (entry lows j)))
first_more n j lows bs l f =
    record {
      size = length-set bs j _ ∙ f.size;
      next = λ h m.
          by_test (eqb h j)
          (λ e. rw (eqb-true h j e) (get_or-set_same bs j _ 0 (omega (arith, f.size))))
          (λ e. let apart = eqb-false h j e in get_or-set_other bs j h _ 0 apart ∙ f.next h (omega arith));
      none = λ h m k. get_or-set_other bs j h _ 0 (λ e. omega arith) ∙ f.none h (omega arith) k;
    }

-- AT A PLACE: what is left comes to what the whole does
module _ (gaps lows : List ℕ) (n i : ℕ) where
  abbrev pub from_height : (j a : ℕ) → List ℕ → Front
  from_height j a bs = begun (table_length - j) j gaps lows n i a bs

  pub begun_stays : (j a : ℕ) (bs : List ℕ) → j < table_length → (entry bs j ≡ i → ⊥) → from_height j a bs ≡ record { label = a; begins = bs }
  unfolding begun
  begun_stays j a bs l other = let e : table_length - j ≡ suc (table_length - suc j) = omega arith in rw (e, ne_eqb (entry bs j) i other)

  pub begun_goes : (j a : ℕ) (bs : List ℕ) → j < table_length → entry bs j ≡ i →
      from_height j a bs ≡ from_height (j + 1) (cut (a + entry gaps j)) (set bs j (next_begin i n (entry lows j)))
  unfolding begun
  begun_goes j a bs l here =
      let e : table_length - j ≡ suc (table_length - suc j) = omega arith in
      rw (e, eq-eqb (entry bs j) i here, add-one j)

  pub begun_ends : (j a : ℕ) (bs : List ℕ) → table_length ≤ j → from_height j a bs ≡ record { label = a; begins = bs }
  unfolding begun
  begun_ends j a bs l = let e : table_length - j ≡ zero = omega arith in rw e

-- both parts of what has come of it
pub told : {f : Front} (a : ℕ) (bs : List ℕ) → record { label = a; begins = bs } ≡ f → (a ≡ f.label) × (bs ≡ f.begins)
told a bs e = (ap (λ (g : Front). g.label) e, ap (λ (g : Front). g.begins) e)
