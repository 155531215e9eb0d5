-- The sizes that a pass takes on its way (walk_model's Watch): what each way through the loops that close nodes says of them.
-- Assumes nothing.
use mathlib.Core.Path.{◌≡◌, refl}
use mathlib.Core.Bool.{true, false, cond, false≢true}
use mathlib.Core.List.{List}
use Prim.Native.Nat.{ℕ, suc, ◌+◌, ◌-◌, ◌≤◌, ◌<◌}
use native.Mathlib.Numerals.{add-one}
use native.Mathlib.Omega.{arith}
use borrow.Author.Tests.{lt-ltb, le-ltb, eq-eqb}
use lib.Dec.{eqb}
use lib.ListN.{get_or, set}
use Rattle.walk_model.specs.Watch.{taken, settle_sizes, place_sizes, close_sizes}
use Rattle.store_types.specs.Limits.{label_limit}
use Rattle.shape.specs.Sums.{cut}
use Rattle.walk_levels.specs.declared.Levels as kept
use Rattle.walk_levels.specs.Needs.{levels_of, expected_label}
use Rattle.walk_levels.proofs.LevelLaws.{left_more, opened_at, waited_both, waited_not}

-- of what does not pass nothing is said
pub never : {A : Type 0} → false ≡ true → A
never e = absurd (false≢true e)

-- THE SIZE of the node that closes at height h, as the code takes it: q is what stands there afterwards
module _ (w ns : List ℕ) (h i : ℕ) (v : kept.Levels) (sz : List ℕ) where
  taken_by : {q : ℕ} → q ≡ cond (eqb (get_or v.ends h 0) (cut (get_or ns h 0 + get_or w h 0))) (i - get_or v.firsts h 0) (get_or sz h 0) → set sz h q ≡ taken w ns h i (levels_of v) sz
  unfolding taken levels_of
  taken_by p = rw p

-- SIZES AT A LABEL, height by height
module _ (w ns : List ℕ) (under l i : ℕ) where
  abbrev pub settle_sizes_at : (h : ℕ) → kept.Levels → (sizes : List ℕ) → List ℕ
  settle_sizes_at h v sz = settle_sizes w ns (under + 1 - h) h l i (levels_of v) sz

  pub sizes_start : (v : kept.Levels) (sz : List ℕ) → settle_sizes_at 1 v sz ≡ settle_sizes w ns under 1 l i (levels_of v) sz
  sizes_start v sz = let q : under + 1 - 1 ≡ under = omega arith in rw q

  module _ (h : ℕ) (v : kept.Levels) (sz : List ℕ) {whole : List ℕ} (inv : settle_sizes_at h v sz ≡ whole) where
    pub sizes_stay : h ≤ under → l < get_or v.ends h 0 → sz ≡ whole
    unfolding settle_sizes levels_of
    sizes_stay p q = rw (left_more under h p, lt-ltb l (get_or v.ends h 0) q) at inv

    pub sizes_more : {q : ℕ} → h ≤ under → get_or v.ends h 0 ≤ l → q ≡ cond (eqb (get_or v.ends h 0) (cut (get_or ns h 0 + get_or w h 0))) (i - get_or v.firsts h 0) (get_or sz h 0) →
        settle_sizes_at (h + 1) (opened_at w h l i v) (set sz h q) ≡ whole
    unfolding settle_sizes levels_of
    sizes_more p r s = rw (taken_by w ns h i v sz s) (rw (left_more under h p, le-ltb l (get_or v.ends h 0) r, ← add-one h) at inv)

    pub sizes_end : under < h → sz ≡ whole
    unfolding settle_sizes
    sizes_end p = let q : under + 1 - h ≡ 0 = omega arith in rw q at inv

-- and beside place_label: q is the label that is waited for, where x would come next
module _ (w ns : List ℕ) (u x l i : ℕ) (v : kept.Levels) (sz : List ℕ) {q : ℕ} (waits : q ≡ expected_label x (get_or v.ends 1 0)) (small : l < label_limit) where
  pub place_sizes_waited : l ≡ q → sz ≡ place_sizes w ns u x l i (levels_of v) sz
  unfolding place_sizes levels_of
  place_sizes_waited p = let both = waited_both x (get_or v.ends 1 0) l waits small p in rw (eq-eqb l x both.0, both.1)

  pub place_sizes_settled : {sz' : List ℕ} → sz' ≡ settle_sizes w ns u 1 l i (levels_of v) sz → (l ≡ q → ⊥) → sz' ≡ place_sizes w ns u x l i (levels_of v) sz
  unfolding place_sizes levels_of
  place_sizes_settled closing p = rw (waited_not x (get_or v.ends 1 0) l waits small p) closing

-- SIZES AT THE END
module _ (w ns : List ℕ) (under i : ℕ) (v : kept.Levels) where
  abbrev pub close_sizes_at : (h : ℕ) → (sizes : List ℕ) → List ℕ
  close_sizes_at h sz = close_sizes w ns (under + 1 - h) h i (levels_of v) sz

  close_turn : (k h : ℕ) (sz : List ℕ) → close_sizes w ns (suc k) h i (levels_of v) sz ≡ close_sizes w ns k (suc h) i (levels_of v) (taken w ns h i (levels_of v) sz)
  unfolding close_sizes
  close_turn k h sz = refl

  pub close_sizes_start : (sz : List ℕ) → close_sizes_at 1 sz ≡ close_sizes w ns under 1 i (levels_of v) sz
  close_sizes_start sz = let q : under + 1 - 1 ≡ under = omega arith in rw q

  module _ (h : ℕ) (sz : List ℕ) {whole : List ℕ} (inv : close_sizes_at h sz ≡ whole) where
    pub close_sizes_more : {q : ℕ} → h ≤ under → q ≡ cond (eqb (get_or v.ends h 0) (cut (get_or ns h 0 + get_or w h 0))) (i - get_or v.firsts h 0) (get_or sz h 0) → close_sizes_at (h + 1) (set sz h q) ≡ whole
    close_sizes_more p s = rw (taken_by w ns h i v sz s) (rw (left_more under h p, close_turn, ← add-one h) at inv)

    pub close_sizes_end : under < h → sz ≡ whole
    unfolding close_sizes
    close_sizes_end p = let q : under + 1 - h ≡ 0 = omega arith in rw q at inv
