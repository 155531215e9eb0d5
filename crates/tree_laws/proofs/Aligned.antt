-- Rows of whole trees: complete trees stand side by side as their rows do, and are over just these rows. Assumes nothing.
use mathlib.Core.Path.{◌≡◌, refl, ap, sym, ◌∙◌}
use mathlib.Core.List.{List, [], ◌∷◌, ◌++◌, append-nil, append_assoc}
use Prim.Native.Nat.{ℕ, zero, suc, ◌+◌, ◌*◌, ◌^◌, ◌≤◌}
use native.Mathlib.Nat.{suc-mul, zero-mul, add-mul, div-eq_of_eq-mul_left}
use native.Mathlib.Omega.{arith}
use lib.ListN.{length, take, drop, length-append, take-append-drop}
use lib.Seq.{take_at, drop_at}
use Rattle.tree.specs.Forest.{nil, node, leaves, joined, parts, spread}
use Rattle.tree_laws.proofs.Spread.{parts_none, parts_one, parts_more, spread_suc, front_cut, rest_cut, some_power, leaves_spread}

-- a row of no tags
no_tags : (xs : List ℕ) → length xs ≡ 0 → xs ≡ []
no_tags [] e = refl
no_tags (x ∷ xs) e = absurd (omega arith)

-- the trees over a whole number of rows: none, and one more in front
module _ (j r : ℕ) (r_least : 2 ≤ r) where
  spread_none : (xs : List ℕ) → length xs ≡ 0 → spread (suc j) r xs ≡ nil
  spread_none xs e =
      rw (spread_suc j r 0 xs (div-eq_of_eq-mul_left (some_power r (suc j) r_least) (e ∙ sym (zero-mul (r ^ suc j))))) (parts_none _ _ xs)

  pub spread_front : (k : ℕ) (b d : List ℕ) → length b ≡ r ^ suc j → length d ≡ k * r ^ suc j → spread (suc j) r (b ++ d) ≡ node (spread j r b) (spread (suc j) r d)
  spread_front k b d n m =
      let each = r ^ suc j in
      let all : length (b ++ d) ≡ suc k * each = omega (arith, length-append b d, suc-mul k each) in
      rw (spread_suc j r (suc k) (b ++ d) (div-eq_of_eq-mul_left (some_power r (suc j) r_least) all)) (go k m)
    where
      go : (k : ℕ) → length d ≡ k * r ^ suc j → parts (suc k) (r ^ suc j) (λ ys. spread j r ys) (b ++ d) ≡ node (spread j r b) (spread (suc j) r d)
      go zero m =
          let none = no_tags d (m ∙ zero-mul (r ^ suc j)) in
          rw (none, append-nil, parts_one) (ap (node (spread j r b)) (sym (spread_none [] refl)))
      go (suc k) m =
          let rest = spread_suc j r (suc k) d (div-eq_of_eq-mul_left (some_power r (suc j) r_least) m) in
          rw (parts_more, take_at b d (r ^ suc j) n, drop_at b d (r ^ suc j) n, rest)

  -- so a row cut between trees is spread in its two parts
  pub spread_joined : (k m : ℕ) (a d : List ℕ) → length a ≡ k * r ^ suc j → length d ≡ m * r ^ suc j → spread (suc j) r (a ++ d) ≡ joined (spread (suc j) r a) (spread (suc j) r d)
  unfolding joined
  spread_joined zero m a d n o =
      let none = no_tags a (n ∙ zero-mul (r ^ suc j)) in
      rw (none, spread_none [] refl)
  spread_joined (suc k) m a d n o =
      let each = r ^ suc j in
      let front = take each a in
      let rest = drop each a in
      let whole = take-append-drop each a in
      let n_front : length front ≡ each = front_cut k each a (omega arith) in
      let n_rest : length rest ≡ k * each = omega (arith, rest_cut k each a (omega arith), suc-mul k each) in
      let n_both : length (rest ++ d) ≡ (k + m) * each = omega (arith, length-append rest d, add-mul k m each) in
      let cut : a ++ d ≡ front ++ (rest ++ d) = ap (λ (t : List ℕ). t ++ d) (sym whole) ∙ append_assoc front rest d in
      let mine : spread (suc j) r a ≡ node (spread j r front) (spread (suc j) r rest) = ap (spread (suc j) r) (sym whole) ∙ spread_front k front rest n_front n_rest in
      rw (cut, mine, spread_front (k + m) front (rest ++ d) n_front n_both, spread_joined k m rest d n_rest o)

-- their leaves are the row, which may be empty
pub leaves_whole : (j r k : ℕ) (xs : List ℕ) → 2 ≤ r → length xs ≡ k * r ^ suc j → leaves (spread (suc j) r xs) ≡ xs
unfolding leaves
leaves_whole j r zero xs q n =
    let none = n ∙ zero-mul (r ^ suc j) in
    rw (spread_none j r q xs none) (sym (no_tags xs none))
leaves_whole j r (suc k) xs q n = leaves_spread (suc j) r xs q (omega (arith, suc-mul k (r ^ suc j)))
