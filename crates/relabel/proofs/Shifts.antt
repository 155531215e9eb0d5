-- Labels shifted along next: where a shift ends, one step of it, and how far a loop that does so has come. Assumes nothing.
use mathlib.Core.Path.{◌≡◌, refl, ◌∙◌}
use mathlib.Core.Bool.{or-true}
use mathlib.Core.List.{List}
use Prim.Native.Nat.{ℕ, zero, suc, ◌+◌, ◌-◌, ◌≤◌, ◌<◌}
use native.Mathlib.Omega.{arith}
use borrow.Author.Tests.{le-leb, lt-leb}
use lib.Dec.{leb}
use lib.ListN.{length}
use Rattle.store_types.specs.Layout.{at_next, field, label_at, with_label, Records}
use Rattle.shape.specs.Sums.{cut}
use Rattle.edit_model.specs.Relabel.{Relabelled, counts_moved, shift}
use Rattle.words.proofs.Fields.{records_kept, length_with_label}
use Rattle.relabel.proofs.Rows.{label_keeps_next, moved_one}

-- IT ENDS after its last step, at no tag of n, or at a label that is not below the bound
pub shift_spent : (k n : ℕ) (ws : List ℕ) (x b d : ℕ) → k ≡ 0 → shift k n ws x b d ≡ record { words = ws; moved = 0 }
unfolding shift
shift_spent k n ws x b d e = rw e refl

pub shift_out : (k n : ℕ) (ws : List ℕ) (x b d : ℕ) → n ≤ x → shift k n ws x b d ≡ record { words = ws; moved = 0 }
unfolding shift
shift_out zero n ws x b d h = refl
shift_out (suc k) n ws x b d h = rw (le-leb n x h)

pub shift_far : (k n : ℕ) (ws : List ℕ) (x b d : ℕ) → b ≤ label_at ws x → shift k n ws x b d ≡ record { words = ws; moved = 0 }
unfolding shift
shift_far zero n ws x b d h = refl
shift_far (suc k) n ws x b d h = rw (le-leb b (label_at ws x) h, or-true (leb n x))

-- ONE STEP
shift_step : (k n : ℕ) (ws : List ℕ) (x b d : ℕ) → x < n → label_at ws x < b →
    let label = cut (label_at ws x + d) in
    let rest = shift k n (with_label ws x label) (field ws x at_next) b d in
    shift (suc k) n ws x b d ≡ record { words = rest.words; moved = counts_moved ws x label + rest.moved }
unfolding shift
shift_step k n ws x b d below small = rw (lt-leb n x below, lt-leb b (label_at ws x) small)

-- A LOOP ON ITS WAY: after so many steps, so many of the shifted tags count; what it does from here, with those, comes to
-- the whole
pub record Shifting (whole : Relabelled) (before ws : List ℕ) (n tag bound by steps done : ℕ) : Type 0 where
  pub records : Records ws n
  pub few : done ≤ steps
  pub long : length ws ≡ length before
  pub words : (shift (n - steps) n ws tag bound by).words ≡ whole.words
  pub moved : done + (shift (n - steps) n ws tag bound by).moved ≡ whole.moved

pub shift_start : (ws : List ℕ) (n x b d : ℕ) → Records ws n → Shifting (shift n n ws x b d) ws ws n x b d 0 0
shift_start ws n x b d there =
    let all : n - 0 ≡ n = omega arith in
    record { records = there; few = omega arith; long = refl; words = rw all; moved = rw all (omega arith) }

module _ {whole : Relabelled} {before ws : List ℕ} {n tag bound by steps done : ℕ} (h : Shifting whole before ws n tag bound by steps done) where
  pub shift_on : steps < n → tag < n → label_at ws tag < bound → (vs : List ℕ) (m next : ℕ) → vs ≡ with_label ws tag (cut (label_at ws tag + by)) →
      m ≡ counts_moved ws tag (cut (label_at ws tag + by)) → next ≡ field vs tag at_next → Shifting whole before vs n next bound by (steps + 1) (done + m)
  shift_on more below small vs m next e c f =
      let step : next ≡ field ws tag at_next = f ∙ rw e (label_keeps_next ws tag (cut (label_at ws tag + by)) tag) in
      let left : n - steps ≡ suc (n - (steps + 1)) = omega arith in
      let turn = rw (← left) at (shift_step (n - (steps + 1)) n ws tag bound by below small) in
      let long : length vs ≡ length ws = rw e (length_with_label ws tag (cut (label_at ws tag + by))) in
      record {
        records = records_kept h.records long;
        few = omega (arith, h.few, moved_one ws tag (cut (label_at ws tag + by)));
        long = long ∙ h.long;
        words = rw (e, step) (rw turn at h.words);
        moved = rw (e, step) (omega (arith, rw turn at h.moved));
      }

  pub shift_end : shift (n - steps) n ws tag bound by ≡ record { words = ws; moved = 0 } → (ws ≡ whole.words) × (done ≡ whole.moved)
  shift_end end = (rw end at h.words, omega (arith, rw end at h.moved))

-- where it stops, it has come to the whole of n's tags
pub stops : {before ws : List ℕ} {n tag bound by steps done : ℕ} (first m : ℕ) → n ≡ m → Shifting (shift n n before first bound by) before ws n tag bound by steps done →
    shift (n - steps) n ws tag bound by ≡ record { words = ws; moved = 0 } →
    (ws ≡ (shift m m before first bound by).words) × (done ≡ (shift m m before first bound by).moved)
stops first m e h end = rw (← e) (shift_end h end)
