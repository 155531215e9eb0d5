-- Numbers in bytes as code reads and stores them: flat sums of bytes, runs of stores, and words stored one behind the other.
-- Assumes nothing.
use mathlib.Core.Path.{◌≡◌, refl, ap, ◌∙◌}
use mathlib.Core.List.{List, [], ◌∷◌, ◌++◌, append_assoc, flat_map}
use Prim.Native.Nat.{ℕ, suc, ◌+◌, ◌*◌, ◌-◌, ◌/◌, ◌%◌, ◌≤◌, ◌<◌}
use native.Mathlib.Nat.{add-zero, div-div-eq-div-mul}
use native.Mathlib.Numerals.{add-one}
use native.Mathlib.Omega.{arith}
use lib.ListN.{length, get_or, drop, length-append}
use borrow.Rule.Slice.PartMut.{put_mid}
use lib.Seq.{sets-eq, drop-cons, drop-drop, drop-length, get_or-drop, sets, length-sets}
use Rattle.lists.proofs.Sets.{sets_append}
use Rattle.little_endian.specs.Numbers.{byte_limit, low_first, number_in}
use Rattle.little_endian.proofs.Numbers.{length_low}

-- A READER: byte by byte from a place on, and at once
number_step : (k : ℕ) (bs : List ℕ) (at : ℕ) → number_in (suc k) (drop at bs) ≡ get_or bs at 0 + byte_limit * number_in k (drop (at + 1) bs)
unfolding number_in
number_step k bs at = rw (get_or-drop at bs 0 0, add-zero at, drop-drop 1 at bs)

number_last : (bs : List ℕ) (at : ℕ) → number_in 1 (drop at bs) ≡ get_or bs at 0
unfolding number_in
number_last bs at = number_step 0 bs at ∙ omega arith

module _ (bs : List ℕ) (at : ℕ) where
  pub two_read : get_or bs at 0 + get_or bs (at + 1) 0 * 256 ≡ number_in 2 (drop at bs)
  two_read = omega (arith, number_step 1 bs at, number_last bs (at + 1))

  pub four_read : get_or bs at 0 + get_or bs (at + 1) 0 * 256 + get_or bs (at + 2) 0 * 65536 + get_or bs (at + 3) 0 * 16777216 ≡ number_in 4 (drop at bs)
  four_read =
      let third : at + 1 + 1 ≡ at + 2 = omega arith in
      let fourth : at + 2 + 1 ≡ at + 3 = omega arith in
      omega (
        arith,
        number_step 3 bs at,
        rw third at (number_step 2 bs (at + 1)),
        rw fourth at (number_step 1 bs (at + 2)),
        number_last bs (at + 3),
      )

-- A WRITER: the bytes that the library gives are these, and a part written over is its bytes stored one after the other
pub two_low : (v : ℕ) → (v % 256 ∷ v / 256 % 256 ∷ []) ≡ low_first 2 v
unfolding low_first
two_low v = refl

pub four_low : (v : ℕ) → (v % 256 ∷ v / 256 % 256 ∷ v / 65536 % 256 ∷ v / 16777216 % 256 ∷ []) ≡ low_first 4 v
unfolding low_first
four_low v = rw (div-div-eq-div-mul v 256 256, div-div-eq-div-mul v 65536 256)

pub part_put : (bs : List ℕ) (at n v : ℕ) {us : List ℕ} → us ≡ low_first n v → at + n ≤ length bs → put_mid at (at + n - at) bs us ≡ sets bs at (low_first n v)
part_put bs at n v e l =
    let long : at + n - at ≡ n = omega arith in
    let end : at + length (low_first n v) ≤ length bs = rw length_low l in
    rw (e, long, sets-eq (low_first n v) bs at end, length_low, drop-drop, append_assoc)

-- so many bytes of many numbers
pub length_numbers_in : (k : ℕ) (vs : List ℕ) → length (flat_map (low_first k) vs) ≡ k * length vs
unfolding flat_map
length_numbers_in k [] = omega arith
length_numbers_in k (v ∷ vs) =
    length-append (low_first k v) (flat_map (low_first k) vs) ∙ omega (arith, length_low k v, length_numbers_in k vs)

-- A RUN OF STORES behind another, of lists that are known by what was stored in them
pub stored_behind : (us vs bs : List ℕ) (at m : ℕ) {cs ds : List ℕ} → length us ≡ m → cs ≡ sets bs at us → ds ≡ sets cs (at + m) vs →
    ds ≡ sets bs at (us ++ vs)
stored_behind us vs bs at m long first second = second ∙ rw (first, ← long) (sets_append us vs bs at)

-- WORDS vs STORED from a place on: at the i-th, what is left to store comes to the whole
pub record Putting (bs₀ : List ℕ) (at : ℕ) (vs bs : List ℕ) (i : ℕ) : Type 0 where
  pub long : length bs ≡ length bs₀
  pub rest : sets bs (at + 4 * i) (flat_map (low_first 4) (drop i vs)) ≡ sets bs₀ at (flat_map (low_first 4) vs)

pub putting_first : (bs : List ℕ) (at : ℕ) (vs : List ℕ) → Putting bs at vs bs 0
putting_first bs at vs = record { long = refl; rest = rw (add-zero at) }

module _ {bs₀ : List ℕ} {at : ℕ} {vs bs : List ℕ} {i : ℕ} (h : Putting bs₀ at vs bs i) where
  pub putting_turn : {cs : List ℕ} → i < length vs → cs ≡ sets bs (at + 4 * i) (low_first 4 (get_or vs i 0)) → Putting bs₀ at vs cs (i + 1)
  unfolding flat_map
  putting_turn {cs} l put =
      let one = low_first 4 (get_or vs i 0) in
      let more = flat_map (low_first 4) (drop (i + 1) vs) in
      let cut : drop i vs ≡ get_or vs i 0 ∷ drop (i + 1) vs = rw add-one (drop-cons vs i 0 l) in
      let next : at + 4 * (i + 1) ≡ at + 4 * i + 4 = omega arith in
      let all : sets bs (at + 4 * i) (one ++ more) ≡ sets bs₀ at (flat_map (low_first 4) vs) = rw cut at h.rest in
      record {
        long = ap length put ∙ length-sets bs (at + 4 * i) one ∙ h.long;
        rest = rw (put, next) (rw (length_low 4 (get_or vs i 0)) at (sets_append one more bs (at + 4 * i)) ∙ all);
      }

  pub putting_end : length vs ≤ i → i ≤ length vs → bs ≡ sets bs₀ at (flat_map (low_first 4) vs)
  unfolding flat_map
  putting_end l most = let all : i ≡ length vs = omega arith in rw (all, drop-length vs) at h.rest
