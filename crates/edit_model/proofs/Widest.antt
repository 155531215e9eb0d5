-- No label of a book whose labels fit is the number that stands for no tag. Assumes nothing.
use mathlib.Core.Path.{◌≡◌}
use mathlib.Core.Bool.{true}
use Prim.Native.Nat.{ℕ, ◌<◌}
use native.Mathlib.Omega.{arith}
use lib.ListN.{length, get_or}
use Rattle.store_types.specs.Limits.{no_tag}
use Rattle.tree.specs.Book.{Book, height, labels_of}
use Rattle.tree.specs.Promise.{Widths, Sane, LabelsRise}
use Rattle.tree_laws.proofs.Labels.{rising_of, rising_below, labels_rise}
use Rattle.calls.specs.Store.{Store, width, height_fits}
use Rattle.calls_laws.proofs.Tests.{Sound}
use Rattle.calls_laws.proofs.Widths.{store_widths, narrower}

-- of a book that has the store's s and r and is numbered by its widths
pub labels_below : {st : Store} → Sound st → (k : Book) → Sane k → k.s ≡ st.book.s → k.r ≡ st.book.r → height_fits st (height k) ≡ true →
    (i : ℕ) → i < length (labels_of (width st) k) → get_or (labels_of (width st) k) i 0 < no_tag
unfolding LabelsRise
labels_below {st} h k fine es er fits i l =
    let w = width st in
    let widths : Widths k.s k.r w = rw (es, er) (store_widths st) in
    let rising = rising_of _ (labels_of w k) (labels_rise w k widths fine) in
    omega (arith, rising_below 0 (w (height k)) (labels_of w k) rising i l, narrower st (height k) h.degrees fits)
