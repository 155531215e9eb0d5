-- Trees over a row that are complete but for the cursor's, numbered in three parts: those left of the cursor's, that one by the same
-- rule one height lower, and those right of it. Assumes nothing.
use mathlib.Core.Path.{◌≡◌, refl, ap, sym, ◌∙◌}
use mathlib.Core.List.{List, ◌++◌, map, map-append}
use Prim.Native.Nat.{ℕ, zero, suc, pred, ◌+◌, ◌*◌, ◌-◌, ◌/◌, ◌^◌, ◌≤◌, ◌<◌}
use native.Mathlib.Nat.{suc-mul, mul-le-mul, add_comm, div-le_self}
use native.Mathlib.Omega.{arith}
use lib.ListN.{length, length-map}
use Rattle.store_types.specs.Limits.{label_limit}
use Rattle.words.proofs.Fields.{room_same}
use Rattle.powers.specs.Tables.{entry, entry_limit}
use Rattle.shape.specs.Packed.{widths_in, s_in, r_in}
use Rattle.shape.specs.declared.Tables as by_height
use Rattle.shape.specs.Sums.{cut}
use Rattle.shape.proofs.Sums.{cut_small, cut_added, labels_cut}
use Rattle.tree.specs.Forest.{Forest, node, labels, joined, spread}
use Rattle.tree.specs.Grown.{in_splits, path, PathFits}
use Rattle.tree_laws.proofs.Labels.{length_labels, labels_joined}
use Rattle.tree_laws.proofs.Spread.{some_power}
use Rattle.tree_laws.proofs.Flat.{trees_spread}
use Rattle.tree_laws.proofs.Aligned.{leaves_whole}
use Rattle.tree_laws.proofs.PathLaws.{PathParts as PathCut, path_before, path_below, path_zero, path_suc, leaves_path}
use Rattle.calls.specs.Words.{follow}
use Rattle.calls_laws.proofs.Reader.{length_follow}
use Rattle.edit_model.specs.Relabel.{Relabelled, relabel, along}
use Rattle.splits.specs.declared.PathParts.{PathParts}
use Rattle.relabel.specs.Needs.{RowThere, RowNumbered, leaves_numbered}
use Rattle.splits.specs.Needs.{PathFit, PartsAre}
use Rattle.splits.proofs.Cuts.{splits_lower}
use Rattle.renumber.specs.Needs.{TreesFit, NumbersFit, trees_numbered, path_numbered}
use Rattle.relabel.proofs.Rows.{SameNext, follow_same, along_same, relabel_keeps_next, take_follow, drop_follow, follow_add, along_add, moved_most, leaf_widths}
use Rattle.renumber.proofs.Parts.{relabel_joined, trees_keep_next, trees_moved}

-- height 0: leaves
pub path_leaves : (ws : List ℕ) (t : by_height.Tables) (j c e a x k : ℕ) → j ≡ 0 → leaves_numbered ws (entry (widths_in t) 0) a x k ≡ path_numbered ws t j c e a x k
unfolding leaves_numbered path_numbered
path_leaves ws t j c e a x k z =
    rw (z, path_zero (s_in t) (r_in t) c e (follow k ws x), leaf_widths (follow k ws x) (λ i. entry (widths_in t) 0) (entry (widths_in t)) a refl)

-- HIGHER: in three parts of the row
module _ (ws : List ℕ) (t : by_height.Tables) (i c e a x before own after : ℕ) (r_least : 2 ≤ r_in t) (h : PathFits (r_in t) (suc i) c e (before + (own + after)))
    (is_before : before ≡ path_before (r_in t) i c) (is_own : own ≡ r_in t ^ suc i + e) where
  abbrev r : ℕ
  r = r_in t

  abbrev w : ℕ → ℕ
  w = entry (widths_in t)

  abbrev n : ℕ
  n = pred c / r ^ suc i

  abbrev split : ℕ
  split = in_splits (s_in t) r i e

  abbrev at : ℕ
  at = cut (a + n * w (suc i))

  abbrev first : Relabelled
  first = trees_numbered ws (widths_in t) r (suc i) a x before

  abbrev second : Relabelled
  second = path_numbered first.words t i (c - before + split) (e - split) at (along before ws x) own

  abbrev third : Relabelled
  third = trees_numbered second.words (widths_in t) r (suc i) (cut (at + w (suc i))) (along own ws (along before ws x)) after

  parts : PathCut (s_in t) r i c e (before + (own + after))
  parts = path_below (s_in t) r_least h

  -- the row, part by part
  abbrev xs : List ℕ
  xs = follow before ws x

  abbrev ys : List ℕ
  ys = follow own ws (along before ws x)

  abbrev zs : List ℕ
  zs = follow after ws (along own ws (along before ws x))

  whole_row : follow (before + (own + after)) ws x ≡ xs ++ (ys ++ zs)
  whole_row = follow_add before (own + after) ws x ∙ ap (λ (us : List ℕ). xs ++ us) (follow_add own after ws (along before ws x))

  xs_long : length xs ≡ n * r ^ suc i
  xs_long = length_follow before ws x ∙ is_before

  ys_fit : PathFits r i (c - before + split) (e - split) (length ys)
  ys_fit = rw (length_follow own ws (along before ws x), is_own, is_before) parts.below

  -- the trees, part by part
  abbrev f : Forest
  f = spread (suc i) r xs

  abbrev g : Forest
  g = path (s_in t) r i (c - before + split) (e - split) ys

  abbrev k : Forest
  k = spread (suc i) r zs

  path_is : path (s_in t) r (suc i) c e (follow (before + (own + after)) ws x) ≡ joined f (node g k)
  path_is =
      path_suc (s_in t) r i c e (follow (before + (own + after)) ws x)
      ∙ rw (← is_before, ← is_own, take_follow before (own + after) ws x, drop_follow before (own + after) ws x, take_follow own after ws (along before ws x), drop_follow own after ws (along before ws x))

  -- and their labels
  abbrev b : ℕ
  b = a + n * w (suc i)

  abbrev ls : List ℕ
  ls = map cut (labels f w (suc i) a)

  abbrev ms : List ℕ
  ms = map cut (labels g w i b)

  abbrev ns : List ℕ
  ns = map cut (labels k w (suc i) (b + w (suc i)))

  all_labels : map cut (labels (joined f (node g k)) w (suc i) a) ≡ ls ++ (ms ++ ns)
  unfolding labels
  all_labels = rw (labels_joined f (node g k) w (suc i) a, trees_spread i r n xs r_least xs_long, map-append, map-append)

  ls_long : length xs ≡ length ls
  ls_long = sym (length-map (labels f w (suc i) a) cut ∙ length_labels f w (suc i) a ∙ ap length (leaves_whole i r n xs r_least xs_long))

  ms_long : length ys ≡ length ms
  ms_long = sym (length-map (labels g w i b) cut ∙ length_labels g w i b ∙ ap length (leaves_path (s_in t) r i (c - before + split) (e - split) ys r_least ys_fit))

  -- what each part writes does not touch next
  first_keeps : SameNext first.words ws
  unfolding trees_numbered
  first_keeps = relabel_keeps_next xs ls ws

  second_is : second ≡ relabel ys ms first.words
  unfolding path_numbered
  second_is = rw (follow_same own first.words ws (along before ws x) first_keeps, labels_cut g w i b)

  second_keeps : SameNext second.words ws
  second_keeps y = rw second_is (relabel_keeps_next ys ms first.words y) ∙ first_keeps y

  third_is : third ≡ relabel zs ns second.words
  unfolding trees_numbered
  third_is =
      rw (follow_same after second.words ws (along own ws (along before ws x)) second_keeps, cut_added b (w (suc i)), labels_cut k w (suc i) (b + w (suc i)))

  whole : path_numbered ws t (suc i) c e a x (before + (own + after))
      ≡ record {
        words = (relabel zs ns (relabel ys ms first.words).words).words;
        moved = first.moved + ((relabel ys ms first.words).moved + (relabel zs ns (relabel ys ms first.words).words).moved);
      }
  unfolding path_numbered trees_numbered
  whole =
      rw (path_is, all_labels, whole_row, relabel_joined xs (ys ++ zs) ls (ms ++ ns) ws ls_long, relabel_joined ys zs ms ns (relabel xs ls ws).words ms_long)

  pub path_turn : path_numbered ws t (suc i) c e a x (before + (own + after))
      ≡ record { words = third.words; moved = first.moved + (second.moved + third.moved) }
  path_turn = whole ∙ rw (third_is, second_is)

  -- so numbering the parts one after the other numbers the row
  pub turn_done : {vs us zs : List ℕ} {q_at q_rest next further last m o l : ℕ} → q_at ≡ c - before + split → q_rest ≡ e - split → RowNumbered ws vs first x before next m →
      RowNumbered vs us (path_numbered vs t i q_at q_rest at next own) next own further o →
      RowNumbered us zs (trees_numbered us (widths_in t) r (suc i) (cut (at + w (suc i))) further after) further after last l →
      RowNumbered ws zs (path_numbered ws t (suc i) c e a x (before + (own + after))) x (before + (own + after)) last (m + o + l)
  turn_done {vs} {us} {zs} {q_at} {q_rest} {next} {further} {last} {m} {o} {l} is_at is_rest left mine right =
      let second_said : path_numbered vs t i q_at q_rest at next own ≡ second = rw (left.words, left.next, is_at, is_rest) in
      let words_said : us ≡ second.words = mine.words ∙ ap (λ (q : Relabelled). q.words) second_said in
      let far : further ≡ along own ws (along before ws x) = mine.next ∙ rw (left.words, left.next) (along_same own first.words ws (along before ws x) first_keeps) in
      let third_said : trees_numbered us (widths_in t) r (suc i) (cut (at + w (suc i))) further after ≡ third = rw (words_said, far) in
      record {
        words = right.words ∙ rw (third_said, path_turn);
        moved = rw path_turn (omega (arith, left.moved, mine.moved, ap (λ (q : Relabelled). q.moved) second_said, right.moved, ap (λ (q : Relabelled). q.moved) third_said));
        next = right.next ∙ rw (far, words_said, along_add before (own + after) ws x, along_add own after ws (along before ws x)) (along_same after second.words ws _ second_keeps);
      }

-- WHAT EACH PART ASKS. A row behind its first a tags, by words with the same next
pub row_behind : {ws vs : List ℕ} {x y : ℕ} (a b : ℕ) → RowThere ws x (a + b) → SameNext vs ws → length vs ≡ length ws → y ≡ along a ws x → RowThere vs y b
row_behind {ws} {vs} {x} {y} a b h same long e =
    record {
      most = omega (arith, h.most);
      there = λ i l.
          let move : along i vs y ≡ along (a + i) ws x = along_same i vs ws y same ∙ rw e (sym (along_add a i ws x)) in
          rw move (room_same (h.there (a + i) (omega arith)) long);
    }

-- whole trees, which may be none
whole_fit : {j a count c e : ℕ} {t : by_height.Tables} → PathFit j count c e t → NumbersFit j a t → (number k m : ℕ) → number < label_limit → m ≡ k * r_in t ^ j → TreesFit j number m t
whole_fit {j} {t = t} h n number k m small is =
    record {
      degree = h.splits.degree_r;
      height = h.splits.height;
      least = λ l some. least k is some;
      number = small;
      widths = n.widths;
      lows = h.splits.lows;
    }
  where
    least : (k : ℕ) → m ≡ k * r_in t ^ j → 1 ≤ m → r_in t ^ j ≤ m
    least zero is some = absurd (omega arith)
    least (suc k) is some = omega (arith, suc-mul k (r_in t ^ j))

-- a path moves no more tags than there are, and leaves next as it is
pub path_keeps_next : (ws : List ℕ) (t : by_height.Tables) (j c e a x k : ℕ) → SameNext (path_numbered ws t j c e a x k).words ws
unfolding path_numbered
path_keeps_next ws t j c e a x k = relabel_keeps_next (follow k ws x) _ ws

pub path_moved : (ws : List ℕ) (t : by_height.Tables) (j c e a x k : ℕ) → (path_numbered ws t j c e a x k).moved ≤ k
unfolding path_numbered
path_moved ws t j c e a x k =
    omega (arith, length_follow k ws x, moved_most (follow k ws x) (map cut (labels (path (s_in t) (r_in t) j c e (follow k ws x)) (entry (widths_in t)) j a)) ws)

module _ {ws : List ℕ} {t : by_height.Tables} {j a x count c e : ℕ} (row : RowThere ws x count) (h : PathFit j count c e t) (n : NumbersFit j a t) (low : 1 ≤ j)
    {q : PathParts} (p : PartsAre (s_in t) (r_in t) j count c e q) where
  -- the parts by the height below
  lower : {G : Type 0} → ((i : ℕ) → j ≡ suc i → PathCut (s_in t) (r_in t) i c e count → G) → G
  lower = go j low h.path
    where
      go : (m : ℕ) → 1 ≤ m → PathFits (r_in t) m c e count → {G : Type 0} → ((i : ℕ) → m ≡ suc i → PathCut (s_in t) (r_in t) i c e count → G) → G
      go zero some f use_it = absurd (omega arith)
      go (suc i) some f use_it = use_it i refl (path_below (s_in t) h.splits.degree_r f)

  behind_whole : (k : ℕ) × (q.after ≡ k * r_in t ^ j)
  behind_whole = lower (λ i is d. (d.behind, rw is (omega (arith, p.after, p.before, p.own, d.whole, ap (λ (m : ℕ). r_in t ^ m) is, ap (λ (m : ℕ). pred c / r_in t ^ m * r_in t ^ m) is))))

  pub left_asks : RowThere ws x q.before × TreesFit j a q.before t
  left_asks =
      (record { most = omega (arith, row.most, p.after); there = λ i l. row.there i (omega (arith, p.after)) }, whole_fit h n a q.trees q.before n.number (rw p.trees p.before))

  -- behind the left part; the number of the cursor's tree is `at`
  module _ {at : ℕ} (is_at : at ≡ cut (a + q.trees * entry (widths_in t) j)) {vs : List ℕ} {next m : ℕ} (left : RowNumbered ws vs (trees_numbered ws (widths_in t) (r_in t) j a x q.before) x q.before next m) (long : length vs ≡ length ws) where
    left_keeps : SameNext vs ws
    left_keeps y = rw left.words (trees_keep_next ws (widths_in t) (r_in t) j a x q.before y)

    own_row : RowThere vs next (q.own + q.after)
    own_row = row_behind q.before (q.own + q.after) (rw p.after row) left_keeps long left.next

    pub own_asks : RowThere vs next q.own × PathFit (j - 1) q.own q.at q.rest t × NumbersFit (j - 1) at t
    own_asks =
        lower (λ i is d.
        let one : j - 1 ≡ i = omega arith in
        let inner : PathFits (r_in t) i q.at q.rest q.own = rw (p.at, p.rest, p.own, is) d.below in (
          record { most = omega (arith, own_row.most); there = λ k l. own_row.there k (omega arith) },
          record { most = omega (arith, own_row.most); path = rw one inner; splits = splits_lower h.splits (j - 1) (omega arith) },
          record { number = rw is_at (cut_small _); widths = n.widths },
        ))

    -- and behind the cursor's tree, from number b on
    module _ {b : ℕ} (is_behind : b ≡ cut (at + entry (widths_in t) j)) {us : List ℕ} {further k : ℕ} (own : RowNumbered vs us (path_numbered vs t (j - 1) q.at q.rest at next q.own) next q.own further k) (same : length us ≡ length vs) where
      own_keeps : SameNext us vs
      own_keeps y = rw own.words (path_keeps_next vs t (j - 1) q.at q.rest at next q.own y)

      pub right_asks : RowThere us further q.after × TreesFit j b q.after t
      right_asks =
          (row_behind q.own q.after own_row own_keeps same own.next, whole_fit h n b behind_whole.0 q.after (rw is_behind (cut_small _)) behind_whole.1)

      -- ALL OF IT
      module _ {zs : List ℕ} {last l : ℕ} (right : RowNumbered us zs (trees_numbered us (widths_in t) (r_in t) j b further q.after) further q.after last l) where
        pub parts_moved : m + k + l ≤ count
        parts_moved =
            omega (
              arith,
              p.after,
              left.moved,
              trees_moved ws (widths_in t) (r_in t) j a x q.before,
              own.moved,
              path_moved vs t (j - 1) q.at q.rest at next q.own,
              right.moved,
              trees_moved us (widths_in t) (r_in t) j b further q.after,
            )

        pub path_done : RowNumbered ws zs (path_numbered ws t j c e a x count) x count last (m + k + l)
        path_done =
            lower (λ i is d.
            let one : j - 1 ≡ i = omega arith in
            let fits : PathFits (r_in t) (suc i) c e (q.before + (q.own + q.after)) = rw (p.after, ← is) h.path in
            rw (is, ← p.after)
            (turn_done ws t i c e a x q.before q.own q.after h.splits.degree_r fits (rw is at p.before) (rw is at p.own)
            (p.at ∙ rw (p.before, is)) (p.rest ∙ rw is) (rw is at left) (rw (one, is_at, p.trees, is) at own) (rw (is_behind, is_at, p.trees, is) at right)))

-- THE NUMBER of the cursor's tree, as it is worked out
sum_cut : (a y : ℕ) → cut (a + cut y) ≡ cut (a + y)
sum_cut a y = rw (add_comm a (cut y), cut_added y a, add_comm y a)

pub placed_at : {q z v : ℕ} (a trees w : ℕ) → q ≡ cut (a + z) → z ≡ cut (trees * v) → v ≡ w → q ≡ cut (a + trees * w)
placed_at a trees w e f g = e ∙ rw (f, g) (sum_cut a (trees * w))

pub next_at : {q v : ℕ} (z w : ℕ) → q ≡ cut (z + v) → v ≡ w → q ≡ cut (z + w)
next_at z w e same = e ∙ rw same

pub cut_fits : {q : ℕ} (y : ℕ) → q ≡ cut y → q ≤ entry_limit
cut_fits y e = rw e (omega (arith, cut_small y))

-- and it can be
pub trees_small : {j count c e : ℕ} {t : by_height.Tables} {q : PathParts} → PathFit j count c e t → 1 ≤ j → PartsAre (s_in t) (r_in t) j count c e q → (v : ℕ) → v ≤ entry_limit → q.trees * v < 2 ^ 64
trees_small {j} {count} {c} {e} {t} {q} h low p v narrow =
    let some = some_power (r_in t) j h.splits.degree_r in
    let few : q.trees ≤ 200000 = omega (arith, p.trees, div-le_self (pred c) (r_in t ^ j), h.path.high, h.path.whole, h.most) in
    omega (arith, mul-le-mul few narrow)
