-- Numbers after spaces, one at a time; the lines of a reply. Assumes nothing.
use mathlib.Core.Path.{◌≡◌, refl}
use mathlib.Core.List.{List, [], ◌∷◌, ◌++◌, append_assoc, append-nil}
use Prim.Native.Nat.{ℕ, ◌+◌, ◌-◌, ◌<◌, ◌≤◌}
use native.Mathlib.Numerals.{add-one}
use native.Mathlib.Omega.{arith}
use lib.ListN.{length, get_or, drop, drop_of_length-le, length-append}
use lib.Seq.{drop-cons}
use borrow.Rule.Slice.PartMut.{put_mid, Post-is}
use Rattle.reply_text.specs.Text.{decimal, spaced}
use Rattle.reply_text.specs.Post.{Written}
use Rattle.reply_text.proofs.Digits.{decimal_short}

-- one more number is written
pub spaced_next : (out ns : List ℕ) (i : ℕ) → i < length ns → ((out ++ (32 ∷ [])) ++ decimal (get_or ns i 0)) ++ spaced (drop (i + 1) ns) ≡ out ++ spaced (drop i ns)
unfolding spaced
spaced_next out ns i l = rw (add-one i, drop-cons ns i 0 l) (rw (append_assoc, append_assoc) refl)

-- no more are left
pub spaced_all : (ns : List ℕ) (i : ℕ) → length ns ≤ i → spaced (drop i ns) ≡ []
unfolding spaced
spaced_all ns i l = rw (drop_of_length-le ns l)

-- what `put_line` needs of these
pub ruleset line_steps = (spaced_next, spaced_all, decimal_short, append_assoc, append-nil, length-append)

-- bytes copied to a place of lent bytes that has as many
pub writes_copied : (out : List ℕ) (at : ℕ) (bs ys : List ℕ) → ys ≡ bs → Written out at bs (put_mid at (at + length bs - at) out ys) (at + length bs)
writes_copied out at bs ys e =
    let l : at ≤ at + length bs = omega arith in
    record { text = rw (Post-is at (at + length bs) out l, e); behind = refl }
