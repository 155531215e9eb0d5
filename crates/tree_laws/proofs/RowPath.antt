-- A row of tags put into complete trees behind the cursor: what splits at their height leaves complete trees, and what is left goes
-- on one height lower, in the cursor's tree. Assumes nothing.
use mathlib.Core.Path.{◌≡◌, refl, ap, sym, ◌∙◌}
use mathlib.Core.List.{List, ◌++◌}
use Prim.Native.Nat.{ℕ, zero, suc, pred, ◌+◌, ◌*◌, ◌-◌, ◌/◌, ◌^◌, ◌≤◌, ◌<◌}
use native.Mathlib.Nat.{suc-mul, zero-mul, add-mul, add-zero, pow-succ', mul_assoc, mul-le-mul_right}
use native.Mathlib.Omega.{arith}
use lib.ListN.{length, length-append}
use Rattle.lists.specs.Lists.{numbers}
use Rattle.tree.specs.Good.{Good}
use Rattle.tree.specs.Row.{insert_at}
use Rattle.tree.specs.Forest.{Forest, nil, node, leaves, size, joined, leaf_row, spread}
use Rattle.tree.specs.Grown.{in_splits, path, PathFits}
use Rattle.tree_laws.proofs.Rows.{insert_left, insert_right, insert_none}
use Rattle.tree_laws.proofs.Spread.{joined_nil, joined_assoc, leaf_row_of, complete_spread, leaves_spread_zero, leaves_below, good_spread, good_spread_zero, some_power, lower_power}
use Rattle.tree_laws.proofs.Aligned.{spread_joined, spread_front, leaves_whole}
use Rattle.tree_laws.proofs.RowPut.{put_row, put_row_add, insert_more, length_inserted, row_kept, row_past, row_inside, row_fills}
use Rattle.tree_laws.proofs.PathLaws.{splits_most, splits_trees, splits_rest, PathParts, path_before, path_below, part_before, part_own, part_behind, parts_whole, before_long, own_long, behind_long, path_node}

-- e tags behind the c-th leaf of complete trees of height j lead to a path
abbrev pub Follows : (s r j : ℕ) → Type 0
Follows s r j =
    (n e c y : ℕ) (xs : List ℕ) → length xs ≡ n * r ^ j → 1 ≤ c → c ≤ length xs →
    put_row e (spread j r xs) s r j c y ≡ path s r j (c + in_splits s r j e) (e - in_splits s r j e) (insert_at c (numbers y e) xs)

-- a complete tree and what one split takes make up the limit
full_unit : {s : ℕ} → 2 ≤ s → (each : ℕ) → each + (s - 1) * each ≡ s * each
full_unit {s} least each =
    let next : s ≡ suc (s - 1) = omega arith in
    omega (arith, ap (λ (k : ℕ). k * each) next, suc-mul (s - 1) each)

-- ONE CUT: the trees left of the cursor's are passed
module _ {s r : ℕ} (s_least : 2 ≤ s) (r_least : 2 ≤ r) (j c : ℕ) (xs : List ℕ) (f : Forest) (fit : PathFits r (suc j) c 0 (length xs)) where
  abbrev left : ℕ
  left = pred c / r ^ suc j

  abbrev place : ℕ
  place = c - path_before r j c

  abbrev before : List ℕ
  before = part_before r j c xs

  abbrev mine : List ℕ
  mine = part_own r j c 0 xs

  abbrev after : List ℕ
  after = part_behind r j c 0 xs

  cut : PathParts s r j c 0 (length xs)
  cut = path_below s r_least fit

  n_before : length before ≡ left * r ^ suc j
  n_before = before_long xs cut

  own : length mine ≡ r ^ suc j
  own = own_long xs cut ∙ add-zero (r ^ suc j)

  n_after : length after ≡ cut.behind * r ^ suc j
  n_after = behind_long xs cut

  first : 1 ≤ place
  first = omega (arith, cut.above)

  last : place ≤ r ^ suc j
  last = omega (arith, cut.within)

  place_is : c ≡ length before + place
  place_is = omega (arith, n_before, cut.above)

  row_to : (e y : ℕ) → put_row e (joined (spread (suc j) r xs) f) s r (suc j) c y ≡
      joined (spread (suc j) r before) (put_row e (node (spread j r mine) (joined (spread (suc j) r after) f)) s r (suc j) place y)
  unfolding joined
  row_to e y =
      let front = spread (suc j) r before in
      let n_both : length (mine ++ after) ≡ suc cut.behind * r ^ suc j = omega (arith, length-append mine after, own, n_after, suc-mul cut.behind (r ^ suc j)) in
      let all : spread (suc j) r xs ≡ joined front (node (spread j r mine) (spread (suc j) r after)) =
      ap (spread (suc j) r) (sym (parts_whole r j c 0 xs)) ∙ (spread_joined j r r_least left (suc cut.behind) before (mine ++ after) n_before n_both
      ∙ ap (joined front) (spread_front j r r_least cut.behind mine after own n_after)) in
      let at : c ≡ size front + place = place_is ∙ ap (λ (l : List ℕ). length l + place) (sym (leaves_whole j r left before r_least n_before)) in
      ap (λ (g : Forest). put_row e (joined g f) s r (suc j) c y) all
      ∙ (rw joined_assoc (ap (λ (i : ℕ). put_row e (joined front (node (spread j r mine) (joined (spread (suc j) r after) f))) s r (suc j) i y) at)
      ∙ row_past s_least r_least e front _ j place y (complete_spread (suc j) r left before r_least n_before) first)

  -- new tags behind the cursor stand in its tree's part of the row
  row_cut : (ns : List ℕ) → insert_at c ns xs ≡ before ++ (insert_at place ns mine ++ after)
  row_cut ns =
      let at : c - length before ≡ place = omega (arith, place_is) in
      ap (insert_at c ns) (sym (parts_whole r j c 0 xs)) ∙ (insert_right c ns before (mine ++ after) (omega (arith, place_is))
      ∙ rw at (ap (λ (t : List ℕ). before ++ t) (insert_left place ns mine after (omega (arith, own, last)))))

  -- the cursor's tree is complete, and not empty
  under : leaves (spread j r mine) ≡ mine
  under = leaves_below j r r_least mine (omega (arith, own))

  sized : size (spread j r mine) ≡ r ^ suc j
  sized = ap length under ∙ own

  good : Good s r (spread j r mine) j
  good = good_spread s j r mine s_least r_least (lower_power r j (length mine) r_least (omega (arith, own)))

  some : size (spread j r mine) ≡ 0 → j ≡ 0
  some e = absurd (omega (arith, sized, some_power r (suc j) r_least))

  -- as many tags as one split takes
  row_unit : (m y : ℕ) → suc m ≡ (s - 1) * r ^ suc j → put_row (suc m) (joined (spread (suc j) r xs) f) s r (suc j) c y ≡ joined (spread (suc j) r (insert_at c (numbers y (suc m)) xs)) f
  row_unit m y unit =
      let each = r ^ suc j in
      let ns = numbers y (suc m) in
      let front = spread (suc j) r before in
      let right = joined (spread (suc j) r after) f in
      let inner = insert_at place ns mine in
      let limit : each + suc m ≡ s * each = omega (arith, full_unit s_least each) in
      let fill = row_fills s_least r_least m (spread j r mine) right j place y good some (omega (arith, sized, last)) (omega (arith, sized)) in
      let n_inner : length inner ≡ s * each = omega (arith, length_inserted place y (suc m) mine, own) in
      let n_rest : length (inner ++ after) ≡ (s + cut.behind) * each = omega (arith, length-append inner after, n_after, add-mul s cut.behind each) in
      let outer = spread_joined j r r_least left (s + cut.behind) before (inner ++ after) n_before n_rest in
      let beside = spread_joined j r r_least s cut.behind inner after n_inner n_after in
      row_to (suc m) y ∙ (ap (joined front) (rw under at fill) ∙ sym (rw (row_cut ns, outer, beside, joined_assoc front _ f, joined_assoc _ _ f)))

  -- fewer
  row_rest : Follows s r j → (e y : ℕ) → e < (s - 1) * r ^ suc j → put_row e (joined (spread (suc j) r xs) f) s r (suc j) c y ≡ joined (path s r (suc j) c e (insert_at c (numbers y e) xs)) f
  unfolding joined
  row_rest lower e y few =
      let each = r ^ suc j in
      let ns = numbers y e in
      let front = spread (suc j) r before in
      let right = joined (spread (suc j) r after) f in
      let inner = insert_at place ns mine in
      let inside = row_inside s_least r_least e (spread j r mine) right j place y good some (omega (arith, sized, last)) (omega (arith, sized, full_unit s_least each)) in
      let below = lower r e place y mine (own ∙ pow-succ' r j) first (omega (arith, own, last)) in
      let n_inner : length inner ≡ each + e = omega (arith, length_inserted place y e mine, own) in
      let spelled = path_node s r j c e before inner after n_before n_inner in
      row_to e y ∙ (ap (joined front) (inside ∙ ap (λ (t : Forest). node t right) below) ∙ sym (rw (row_cut ns, spelled, joined_assoc front _ f)))

module _ {s r : ℕ} (s_least : 2 ≤ s) (r_least : 2 ≤ r) (j : ℕ) where
  -- any number of splits
  row_units : (d n c m y : ℕ) (xs : List ℕ) (f : Forest) → length xs ≡ n * r ^ suc j → 1 ≤ c → c ≤ length xs → suc m ≡ (s - 1) * r ^ suc j →
      put_row (d * suc m) (joined (spread (suc j) r xs) f) s r (suc j) c y ≡ joined (spread (suc j) r (insert_at c (numbers y (d * suc m)) xs)) f
  unfolding put_row numbers
  row_units zero n c m y xs f l low high unit = rw (zero-mul, insert_none)
  row_units (suc d) n c m y xs f l low high unit =
      let each = r ^ suc j in
      let more : suc d * suc m ≡ suc m + d * suc m = omega (arith, suc-mul d (suc m)) in
      let ys = insert_at c (numbers y (suc m)) xs in
      let n_ys = length_inserted c y (suc m) xs in
      let one = row_unit s_least r_least j c xs f (record { trees = n; whole = omega arith; low = low; high = omega arith }) m y unit in
      let rest = row_units d (n + (s - 1)) (c + suc m) m (y + suc m) ys f (omega (arith, add-mul n (s - 1) each)) (omega arith) (omega arith) unit in
      rw (more, put_row_add (suc m) (d * suc m) (joined (spread (suc j) r xs) f) s r (suc j) c y) (ap (λ (t : Forest). put_row (d * suc m) t s r (suc j) (c + suc m) (y + suc m)) one
      ∙ (rest ∙ rw (insert_more (suc m) (d * suc m) c y xs high)))

  -- THE WHOLE ROW, beside other trees
  pub row_follows : Follows s r j → (n e c y : ℕ) (xs : List ℕ) (f : Forest) → length xs ≡ n * r ^ suc j → 1 ≤ c → c ≤ length xs →
      put_row e (joined (spread (suc j) r xs) f) s r (suc j) c y ≡ joined (path s r (suc j) (c + in_splits s r (suc j) e) (e - in_splits s r (suc j) e) (insert_at c (numbers y e) xs)) f
  row_follows lower n e c y xs f l low high =
      let each = r ^ suc j in
      let t = in_splits s r (suc j) e in
      let rest = e - t in
      let some : 1 ≤ (s - 1) * each = omega (arith, full_unit s_least each, some_power r (suc j) r_least, mul-le-mul_right each s_least) in
      let m = (s - 1) * each - 1 in
      let unit : suc m ≡ (s - 1) * each = omega arith in
      let q = e / ((s - 1) * each) in
      let splits : q * suc m ≡ t = ap (λ (k : ℕ). q * k) unit ∙ (sym (mul_assoc q (s - 1) each) ∙ sym (splits_trees s r (suc j) e)) in
      let whole : e ≡ t + rest = omega (arith, splits_most s r (suc j) e) in
      let ys = insert_at c (numbers y t) xs in
      let n_ys : length ys ≡ (n + q * (s - 1)) * each = omega (arith, length_inserted c y t xs, add-mul n (q * (s - 1)) each, splits_trees s r (suc j) e) in
      let fit : PathFits r (suc j) (c + t) 0 (length ys) = record { trees = n + q * (s - 1); whole = omega arith; low = omega arith; high = omega (arith, length_inserted c y t xs) } in
      let full = rw splits at (row_units q n c m y xs f l low high unit) in
      let left = row_rest s_least r_least j (c + t) ys f fit lower rest (y + t) (omega (arith, splits_rest s r (suc j) e some)) in
      let all = insert_more t rest c y xs high ∙ ap (λ (k : ℕ). insert_at c (numbers y k) xs) (sym whole) in
      ap (λ (k : ℕ). put_row k (joined (spread (suc j) r xs) f) s r (suc j) c y) whole ∙ (put_row_add t rest _ s r (suc j) c y
      ∙ (ap (λ (g : Forest). put_row rest g s r (suc j) (c + t) (y + t)) full ∙ (left ∙ ap (λ (row : List ℕ). joined (path s r (suc j) (c + t) rest row) f) all)))

-- THE WHOLE ROW, at every height
pub follows : {s r : ℕ} → 2 ≤ s → 2 ≤ r → (j : ℕ) → Follows s r j
unfolding path
follows {s} {r} t q zero n e c y xs l low high =
    let kept = row_kept t q e (spread 0 r xs) 0 c y (good_spread_zero s r xs) (omega (arith, ap length (leaves_spread_zero r xs))) (λ i. refl) in
    sym (leaf_row_of s r _ kept.1) ∙ ap leaf_row (kept.0 ∙ ap (insert_at c (numbers y e)) (leaves_spread_zero r xs))
follows {s} {r} t q (suc j) n e c y xs l low high =
    let all = row_follows t q j (follows t q j) n e c y xs nil l low high in
    rw (joined_nil (spread (suc j) r xs), joined_nil (path s r (suc j) _ _ _)) at all
