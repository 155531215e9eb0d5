-- Demand 3 along next: the words after every history have the reference list's row along next and prior, and N in word 4. Assumes
-- nothing.
use mathlib.Core.Path.{◌≡◌, refl, sym, ◌∙◌}
use mathlib.Core.List.{List, [], ◌∷◌, map}
use Prim.Native.Nat.{ℕ}
use native.Mathlib.Omega.{arith}
use lib.ListN.{length}
use Rattle.lists.proofs.Tests.{by_test}
use Rattle.lists.specs.Lists.{numbers}
use Rattle.lists.proofs.Numbers.{length_numbers}
use Rattle.tree_laws.proofs.Rows.{length_insert}
use Rattle.calls.specs.Insert.{insert_kinds}
use Rattle.calls.specs.Load.{load_store}
use Rattle.calls.specs.Changes.{Change, load, insert, sheet, mark, after, Told}
use Rattle.calls.specs.Reference.{Reference, total, reference_load, reference_position, reference_insert, reference_change, reference_told, reference_after}
use Rattle.system.specs.System.{step}
use Rattle.system.specs.Histories.{afterwards}
use Rattle.system.specs.Feed.{told}
use Rattle.demands.specs.Promise.{RunsKeep, RunsAlong}
use Rattle.demands.proofs.Said.{book_row}
use Rattle.demands.proofs.RunsKeep.{runs_keep}

-- N IS THE LIST'S LENGTH, after every change
total_insert : (k y : ℕ) (a : Reference) → total a ≡ length a.row → total (reference_insert k y a) ≡ length (reference_insert k y a).row
unfolding reference_insert
total_insert k y a e =
    let n = length a.row in
    omega (arith, length_insert (reference_position y a.row) (numbers n k) a.row, length_numbers n k)

total_change : (c : Change) (a : Reference) → total a ≡ length a.row → total (reference_change c a) ≡ length (reference_change c a).row
unfolding reference_change reference_load
total_change (load s r b cs) a e = omega (arith, length_numbers 0 (length cs))
total_change (insert c y) a e = total_insert (length (insert_kinds c)) y a e
total_change (sheet cs y) a e = total_insert (length cs) y a e
total_change (mark x) a e = e

total_fed : (ts : List Told) (a : Reference) → total a ≡ length a.row → total (reference_after ts a) ≡ length (reference_after ts a).row
unfolding reference_after reference_told
total_fed [] a e = e
total_fed (t ∷ ts) a e =
    total_fed ts (reference_told t a) (by_test t.1 (λ q. rw q (total_change t.0 a e)) (λ q. rw q e))

pub runs_along : RunsAlong
unfolding RunsAlong RunsKeep reference_load
runs_along s r b n h ks old cs y reply new none =
    let whole = runs_keep s r b n h ks old cs y reply new none in
    let st = after (length old) (map (λ t. t.0) (told cs y)) (load_store s r b ks) in
    record {
      along = rw (← whole.kept.tags) (book_row (afterwards step cs y).words st whole.words.says);
      issued =
          total_fed (told cs y) (reference_load s r (length ks)) (omega (arith, length_numbers 0 (length ks)))
          ∙ sym whole.words.tags;
    }
