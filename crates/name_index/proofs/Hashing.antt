-- What is left of a name says its hash. Assumes nothing.
use mathlib.Core.Path.{◌≡◌, sym, ◌∙◌}
use mathlib.Core.List.{List}
use Prim.Native.Nat.{ℕ, ◌+◌, ◌*◌, ◌%◌, ◌<◌, ◌≤◌}
use native.Mathlib.Omega.{arith}
use native.Mathlib.Numerals.{add-one}
use lib.ListN.{length, get_or, drop, drop_of_length-le}
use lib.Seq.{drop-cons}
use Rattle.name_index.specs.Order.{hash_limit, hash_from, hash_of}

pub record Hashing (name : List ℕ) (h i : ℕ) : Type 0 where
  pub fits : h < hash_limit
  pub within : i ≤ length name
  pub left : hash_from h (drop i name) ≡ hash_of name

module _ (name : List ℕ) (h i : ℕ) (c : Hashing name h i) where
  pub hashing_turn : (l : i < length name) → (byte : ℕ) → byte ≡ get_or name i 0 → Hashing name ((h * 31 + byte) % hash_limit) (i + 1)
  unfolding hash_from
  hashing_turn l byte e = record {
    fits = omega arith;
    within = omega arith;
    left = rw (add-one i, e) (sym (sym c.left ∙ rw (drop-cons name i 0 l)));
  }

  pub hashing_end : length name ≤ i → h ≡ hash_of name
  unfolding hash_from
  hashing_end l = sym (sym c.left ∙ rw (drop_of_length-le name l))
