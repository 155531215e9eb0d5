-- The walk (specs/Walk.antt) split into its passes along one row: links, labels, kinds, depths and marks, both ways.
-- Assumes nothing.
use mathlib.Core.Path.{◌≡◌, refl}
use mathlib.Core.Bool.{Bool, true, ◌&&◌, cond}
use mathlib.Core.List.{List, [], ◌∷◌, map}
use Prim.Native.Nat.{ℕ, zero, suc, ◌+◌, ◌≤◌, ◌<◌}
use native.Mathlib.Omega.{arith}
use borrow.Author.Tests.{ltb-true, leb-true, eqb-true, lt-ltb, le-leb, eq-eqb}
use lib.Dec.{ltb, leb, eqb}
use lib.ListN.{length}
use Rattle.store_types.specs.Limits.{no_tag}
use Rattle.lists.proofs.Tests.{and_left, and_right, and_both}
use Rattle.store_types.specs.Layout.{at_stamp, at_next, at_prior, at_kind, word_at, field, label_at}
use Rattle.powers.specs.Tables.{entry}
use Rattle.shape.specs.Sums.{cut}
use Rattle.calls.specs.Words.{follow}
use Rattle.walk_model.specs.Levels.{all_close, labels_pass}
use Rattle.walk_model.specs.Walk.{kind_fits, open_after, depth_fits, depth_after, State, Shape, placed, tag_passes, passed, ends_well, walk}

-- THE PASSES along a row. Each tag is the one that next leads to, a tag, and knows the one before it; no tag follows
abbrev pub Linked : List ℕ → (n tag prior : ℕ) → List ℕ → Type 0
Linked ws n x p [] = x ≡ no_tag
Linked ws n x p (y ∷ ys) = (x ≡ y) × (y < n) × (field ws y at_prior ≡ p) × Linked ws n (field ws y at_next) y ys

-- each tag's kind fits, from the open begin o on; at the end none is open
abbrev pub kinds_pass : List ℕ → (n o : ℕ) → List ℕ → Bool
kinds_pass ws n o [] = eqb o no_tag
kinds_pass ws n o (x ∷ xs) = kind_fits ws n o x (field ws x at_kind) && kinds_pass ws n (open_after ws o x (field ws x at_kind)) xs

-- each tag's depth fits, where d begins are open before the row
abbrev pub depths_pass : List ℕ → (d : ℕ) → List ℕ → Bool
depths_pass ws d [] = true
depths_pass ws d (x ∷ xs) = depth_fits ws x (field ws x at_kind) d && depths_pass ws (depth_after ws x (field ws x at_kind)) xs

-- a number for each tag, added up; 1 for a marked one
abbrev pub total : (ℕ → ℕ) → List ℕ → ℕ
total g [] = 0
total g (x ∷ xs) = g x + total g xs

abbrev pub mark_word : List ℕ → (tag : ℕ) → ℕ
mark_word ws x = cond (leb 16 (field ws x at_kind)) 1 0

-- what the walk says of the row that it goes along, place i and state v being those before its first tag
pub record Walked (ws : List ℕ) (k : Shape) (i : ℕ) (v : State) (xs : List ℕ) : Type 0 where
  pub links : Linked ws k.n v.tag v.prior xs
  pub labels : labels_pass k.tables k.under v.expect i v.levels (map (label_at ws) xs) ≡ true
  pub kinds : kinds_pass ws k.n v.open_begin xs ≡ true
  pub depths : depths_pass ws v.depth xs ≡ true
  pub stamp : word_at ws at_stamp ≤ k.n + (v.marks + total (mark_word ws) xs)

-- A TEST OF FOUR PARTS, and its parts
pub record Four (a b c d : Bool) : Type 0 where
  pub first : a ≡ true
  pub second : b ≡ true
  pub third : c ≡ true
  pub fourth : d ≡ true

pub four : (a b c d : Bool) → ((a && b) && (c && d)) ≡ true → Four a b c d
four a b c d e =
    let front = and_left (a && b) (c && d) e in
    let back = and_right (a && b) (c && d) e in
    record { first = and_left a b front; second = and_right a b front; third = and_left c d back; fourth = and_right c d back }

pub four_test : {a b c d : Bool} → Four a b c d → ((a && b) && (c && d)) ≡ true
four_test h = and_both (and_both h.first h.second) (and_both h.third h.fourth)

module _ (ws : List ℕ) (k : Shape) where
  -- at the end of the row
  end_walked : (i : ℕ) (v : State) → i ≡ k.n → ends_well ws k v ≡ true → Walked ws k i v []
  unfolding ends_well labels_pass
  end_walked i v e h =
      let f = four _ _ (all_close k.tables k.under 1 k.n v.levels) (leb (word_at ws at_stamp) (k.n + v.marks)) h in
      record {
        links = eqb-true _ _ f.first;
        labels = rw e f.third;
        kinds = f.second;
        depths = refl;
        stamp = omega (arith, leb-true (word_at ws at_stamp) (k.n + v.marks) f.fourth);
      }

  walked_end : (i : ℕ) (v : State) → i ≡ k.n → Walked ws k i v [] → ends_well ws k v ≡ true
  unfolding ends_well labels_pass
  walked_end i v e h =
      let shut = rw e at h.labels in
      four_test (record { first = eq-eqb _ _ h.links; second = h.kinds; third = shut; fourth = le-leb (word_at ws at_stamp) (k.n + v.marks) (omega (arith, h.stamp)) })

  -- at a tag
  step_walked : (i : ℕ) (v : State) (xs : List ℕ) → tag_passes ws k i v ≡ true → Walked ws k (suc i) (passed ws k i v) xs → Walked ws k i v (v.tag ∷ xs)
  unfolding tag_passes passed placed labels_pass
  step_walked i v xs e h =
      let x = v.tag in
      let kind = kind_fits ws k.n v.open_begin x (field ws x at_kind) in
      let prior = eqb (field ws x at_prior) v.prior in
      let label = ltb x k.n && (placed ws k i v).ok in
      let deep = depth_fits ws x (field ws x at_kind) v.depth in
      let f = four (ltb x k.n) (placed ws k i v).ok prior kind (and_left (label && (prior && kind)) deep e) in
      record {
        links = (refl, ltb-true _ _ f.first, eqb-true _ _ f.third, h.links);
        labels = and_both f.second h.labels;
        kinds = and_both f.fourth h.kinds;
        depths = and_both (and_right (label && (prior && kind)) deep e) h.depths;
        stamp = omega (arith, h.stamp);
      }

  -- the row that the walk goes along
  pub walked : (m i : ℕ) (v : State) → i + m ≡ k.n → walk ws k m i v ≡ true → Walked ws k i v (follow m ws v.tag)
  unfolding walk follow passed
  walked zero i v e h = end_walked i v (omega arith) h
  walked (suc m) i v e h =
      let rest = walk ws k m (suc i) (passed ws k i v) in
      step_walked i v _ (and_left (tag_passes ws k i v) rest h) (walked m (suc i) (passed ws k i v) (omega arith) (and_right (tag_passes ws k i v) rest h))

  -- and back: a row of which the passes hold is walked
  walked_step : (i : ℕ) (v : State) (xs : List ℕ) → Walked ws k i v (v.tag ∷ xs) → (tag_passes ws k i v ≡ true) × Walked ws k (suc i) (passed ws k i v) xs
  unfolding tag_passes passed placed labels_pass
  walked_step i v xs h =
      let q = placed ws k i v in
      let later =
      labels_pass k.tables k.under (cut (label_at ws v.tag + entry k.tables.widths 0)) (suc i) q.levels (map (label_at ws) xs) in
      let kind = kind_fits ws k.n v.open_begin v.tag (field ws v.tag at_kind) in
      let kinds = kinds_pass ws k.n (open_after ws v.open_begin v.tag (field ws v.tag at_kind)) xs in
      let deep = depth_fits ws v.tag (field ws v.tag at_kind) v.depth in
      let depths = depths_pass ws (depth_after ws v.tag (field ws v.tag at_kind)) xs in (
        and_both (four_test (record {
          first = lt-ltb _ _ h.links.1;
          second = and_left q.ok later h.labels;
          third = eq-eqb _ _ h.links.2;
          fourth = and_left kind kinds h.kinds;
        })) (and_left deep depths h.depths),
        record {
          links = h.links.3;
          labels = and_right q.ok later h.labels;
          kinds = and_right kind kinds h.kinds;
          depths = and_right deep depths h.depths;
          stamp = omega (arith, h.stamp);
        },
      )

  pub walks : (xs : List ℕ) (i : ℕ) (v : State) → i + length xs ≡ k.n → Walked ws k i v xs → walk ws k (length xs) i v ≡ true
  unfolding walk
  walks [] i v e h = walked_end i v (omega arith) h
  walks (y ∷ ys) i v e h =
      let s = walked_step i v ys (rw (← h.links.0) at h) in
      and_both s.0 (walks ys (suc i) (passed ws k i v) (omega arith) s.1)
