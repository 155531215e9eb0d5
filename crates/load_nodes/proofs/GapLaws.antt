-- The gaps before the nodes of a load, as the code works them out height by height. Assumes nothing.
use mathlib.Core.Path.{◌≡◌, refl, ◌∙◌}
use mathlib.Core.List.{List}
use Prim.Native.Nat.{ℕ, suc, ◌+◌, ◌*◌, ◌-◌, ◌≤◌, ◌<◌}
use native.Mathlib.Numerals.{add-one}
use native.Mathlib.Omega.{arith}
use borrow.Author.Tests.{eqb-true, eqb-false}
use lib.Dec.{eqb}
use lib.ListN.{set, replicate, length-set}
use lib.Seq.{get_or-set_same, get_or-set_other}
use Rattle.lists.proofs.Tests.{by_test}
use Rattle.powers.specs.Tables.{entry, table_length}
use Rattle.powers.proofs.TableLaws.{noughts}
use Rattle.load_nodes.specs.Gaps.{gap, GapsOf, WidthsRise}

pub gaps_none : (r : ℕ) (w : List ℕ) → GapsOf r 0 w (replicate table_length 0)
gaps_none r w =
    record { size = refl; entries = record { each = λ k. rw (noughts table_length k) (omega arith) }; each = λ h l. absurd (omega arith) }

pub room_below : (r u h : ℕ) (w : List ℕ) → WidthsRise r u w → h < u → r * entry w h ≤ entry w (h + 1)
room_below r u h w rise l = rw add-one (rise.grows h l)

pub room_small : (r u h : ℕ) (w : List ℕ) → WidthsRise r u w → h < u → r * entry w h < 18446744073709551616
room_small r u h w rise l = omega (arith, room_below r u h w rise l, rise.entries.each (h + 1))

pub gaps_more : (r u h : ℕ) (w gs : List ℕ) → WidthsRise r u w → h < u → GapsOf r h w gs → GapsOf r (h + 1) w (set gs h (entry w (h + 1) - r * entry w h))
unfolding gap
gaps_more r u h w gs rise l g =
    record {
      size = length-set gs h _ ∙ g.size;
      entries = record {
        each = λ k. by_test (eqb k h)
            (λ e. rw (eqb-true k h e, get_or-set_same gs h (entry w (h + 1) - r * entry w h) 0 (omega (arith, rise.height, g.size))) (omega (arith, rise.entries.each (h + 1))))
            (λ e. rw (get_or-set_other gs h k (entry w (h + 1) - r * entry w h) 0 (eqb-false k h e)) (g.entries.each k));
      };
      each = λ k m. by_test (eqb k h)
          (λ e. rw (eqb-true k h e, add-one h) (get_or-set_same gs h (entry w (suc h) - r * entry w h) 0 (omega (arith, rise.height, g.size))))
          (λ e. let apart = eqb-false k h e in get_or-set_other gs h k (entry w (h + 1) - r * entry w h) 0 apart ∙ g.each k (omega arith));
    }
