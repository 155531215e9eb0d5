-- Decimal digits: all but the last are those of a tenth, and a word has at most ten. Assumes nothing.
use mathlib.Core.Path.{◌≡◌, refl, ap, ◌∙◌}
use mathlib.Core.Bool.{Bool, true, false, cond}
use mathlib.Core.List.{List, [], ◌∷◌, ◌++◌, append_assoc}
use Prim.Native.Nat.{ℕ, zero, suc, ◌+◌, ◌/◌, ◌%◌, ◌^◌, ◌≤◌, ◌<◌}
use native.Mathlib.Nat.{pow-succ'}
use native.Mathlib.Omega.{arith}
use borrow.Author.Tests.{lt-ltb, le-ltb}
use lib.Dec.{ltb}
use lib.ListN.{length, length-append}
use Rattle.store_types.specs.Limits.{word_limit}
use Rattle.reply_text.specs.Text.{decimal_from, decimal}

from_append : (k n : ℕ) (ds es : List ℕ) → decimal_from k n (ds ++ es) ≡ decimal_from k n ds ++ es
unfolding decimal_from
from_append zero n ds es = refl
from_append (suc k) n ds es = go (ltb n 10) (from_append k (n / 10) ((48 + n % 10) ∷ ds) es)
  where
    go : (t : Bool) → decimal_from k (n / 10) (((48 + n % 10) ∷ ds) ++ es) ≡ decimal_from k (n / 10) ((48 + n % 10) ∷ ds) ++ es →
        cond t (((48 + n % 10) ∷ ds) ++ es) (decimal_from k (n / 10) (((48 + n % 10) ∷ ds) ++ es)) ≡ cond t ((48 + n % 10) ∷ ds) (decimal_from k (n / 10) ((48 + n % 10) ∷ ds)) ++ es
    go true rest = refl
    go false rest = rest

tenth : (k n : ℕ) → n < 10 ^ suc (suc k) → n / 10 < 10 ^ suc k
tenth k n l = omega (arith, pow-succ' 10 (suc k))

-- more digits allowed than there are change nothing
enough : (k n : ℕ) (ds : List ℕ) → n < 10 ^ suc k → decimal_from (suc k) n ds ≡ decimal_from (suc (suc k)) n ds
unfolding decimal_from
enough zero n ds l = rw (lt-ltb n 10 (omega arith))
enough (suc k) n ds l = ap (cond (ltb n 10) ((48 + n % 10) ∷ ds)) (enough k (n / 10) ((48 + n % 10) ∷ ds) (tenth k n l))

from_length : (k m n : ℕ) (ds : List ℕ) → n < 10 ^ suc m → length (decimal_from k n ds) ≤ suc m + length ds
unfolding decimal_from
from_length zero m n ds l = omega arith
from_length (suc k) zero n ds l = rw (lt-ltb n 10 (omega arith)) (omega arith)
from_length (suc k) (suc m) n ds l = go (ltb n 10) (from_length k m (n / 10) ((48 + n % 10) ∷ ds) (tenth m n l))
  where
    go : (t : Bool) → length (decimal_from k (n / 10) ((48 + n % 10) ∷ ds)) ≤ suc m + suc (length ds) → length (cond t ((48 + n % 10) ∷ ds) (decimal_from k (n / 10) ((48 + n % 10) ∷ ds))) ≤ suc (suc m) + length ds
    go true h = omega arith
    go false h = omega arith

pub decimal_short : (n : ℕ) → n < word_limit → length (decimal n) ≤ 10
unfolding decimal
decimal_short n l = omega (arith, from_length 20 9 n [] (omega arith))

pub decimal_one : (n : ℕ) → n < 10 → decimal n ≡ (48 + n) ∷ []
unfolding decimal decimal_from
decimal_one n l = rw (lt-ltb n 10 l) (let e : n % 10 ≡ n = omega arith in rw e)

pub decimal_more : (n : ℕ) → 10 ≤ n → n < word_limit → decimal n ≡ decimal (n / 10) ++ ((48 + n % 10) ∷ [])
unfolding decimal decimal_from
decimal_more n l m = rw (le-ltb n 10 l) (from_append 19 (n / 10) [] ((48 + n % 10) ∷ []) ∙ ap (λ ds. ds ++ ((48 + n % 10) ∷ [])) (enough 18 (n / 10) [] (omega arith)))

-- so that a tenth has at most nine
pub tenth_short : (n : ℕ) → 10 ≤ n → n < word_limit → length (decimal (n / 10)) + 1 ≤ 10
tenth_short n l m = omega (arith, decimal_short n m, ap length (decimal_more n l m) ∙ length-append (decimal (n / 10)) ((48 + n % 10) ∷ []))

-- what `put_number` needs of these
pub ruleset digit_steps = (decimal_one, decimal_more, tenth_short, append_assoc, length-append)
