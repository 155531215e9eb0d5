-- The walk decides whether words say a store, if labels decide whether a tree has them (LevelsRight).
-- Assumes nothing more.
use mathlib.Core.Path.{◌≡◌, refl, ap, sym, ◌∙◌}
use mathlib.Core.Bool.{true}
use mathlib.Core.List.{List, map}
use mathlib.Core.Logic.{◌↔◌}
use Prim.Native.Nat.{ℕ, pred, ◌*◌, ◌^◌, ◌≤◌, ◌<◌}
use native.Mathlib.Nat.{one-le-pow}
use native.Mathlib.Omega.{arith}
use borrow.Author.Tests.{leb-true, ne_eqb}
use lib.ListN.{length, length-map}
use Rattle.lists.proofs.Tests.{and_left, and_right, and_both}
use Rattle.store_types.specs.Limits.{no_tag}
use Rattle.store_types.specs.Layout.{at_s, at_r, at_height, at_count, at_first, word_at, label_at}
use Rattle.tree.specs.Good.{Good}
use Rattle.tree.specs.Forest.{labels, within_limits}
use Rattle.tree.specs.Book.{root_within, book_within}
use Rattle.tree_laws.proofs.Good.{good_of}
use Rattle.tree_laws.proofs.Rows.{distinct_all_below}
use Rattle.calls.specs.Store.{Store, count, row}
use Rattle.calls.specs.Words.{Says, follow, header_width}
use Rattle.calls_laws.proofs.Tests.{Sound, root_limits, facts_of}
use Rattle.calls_laws.proofs.Heights.{sound_height}
use Rattle.calls_laws.proofs.Nesting.{pass_of}
use Rattle.calls_laws.proofs.Sections.{row_below}
use Rattle.calls_laws.proofs.Fields.{TagSays, tag_says}
use Rattle.calls_laws.proofs.Reader.{length_follow}
use Rattle.calls_laws.proofs.WordSteps.{words_fit, header_said, width_said, labels_said}
use Rattle.walk_model.specs.Levels.{start_levels, labels_pass}
use Rattle.walk_model.specs.Walk.{header_passes, shape_of, start, walk, words_pass}
use Rattle.walk_model.specs.Promise.{TreeWith, LevelsRight, WalkRight}
use Rattle.walk_model.proofs.Levels.{levels_right}
use Rattle.walk_model.proofs.Passes.{Walked, walked, walks}
use Rattle.walk_model.proofs.Shapes.{Header, header_facts, header_test, widths_given, tables_right}
use Rattle.walk_model.proofs.Links.{linked}
use Rattle.walk_model.proofs.KindPass.{kinds_same}
use Rattle.walk_model.proofs.Depths.{depths_said, depths_walked}
use Rattle.walk_model.proofs.Counts.{marks_same}
use Rattle.walk_model.proofs.Found.{found, found_said}

-- a root whose children are nodes has a tag
some_tag : {ws : List ℕ} {s r u n : ℕ} → Header ws s r u n → (u ≡ 0 → ⊥) → 1 ≤ n
some_tag {ws} {s} {r} {u} {n} h high =
    omega (arith, leb-true (2 * r ^ u) n (rw (ne_eqb u 0 high) at h.least), one-le-pow u r (omega (arith, h.degrees.r_least)))

-- LABELS along a row of n tags
row_labels : LevelsRight → {ws : List ℕ} {s r u n : ℕ} → Header ws s r u n → (xs : List ℕ) → length xs ≡ n →
    (labels_pass (shape_of ws).tables u 0 0 (start_levels (shape_of ws).tables) (map (label_at ws) xs) ≡ true)
    ↔ TreeWith s r (header_width ws) u xs (map (label_at ws) xs)
unfolding LevelsRight
row_labels levels {ws} {s} {r} {u} {n} h xs l =
    let many : length (map (label_at ws) xs) ≡ n = length-map xs (label_at ws) ∙ l in
    levels s r (header_width ws) (shape_of ws).tables u xs (map (label_at ws) xs) h.degrees.s_least h.degrees.r_least (widths_given h)
    (tables_right h) (l ∙ sym many) (rw many h.below) (rw many (some_tag h))

-- WORDS THAT PASS say a store
passed_said : LevelsRight → (ws : List ℕ) → words_pass ws ≡ true → (st : Store) × Says ws st
unfolding words_pass shape_of start start_levels found
passed_said levels ws e =
    let rest = walk ws (shape_of ws) (word_at ws at_count) 0 (start ws) in
    let h = header_facts ws (and_left (header_passes ws) rest e) in
    let w = walked ws (shape_of ws) (word_at ws at_count) 0 (start ws) (omega arith) (and_right (header_passes ws) rest e) in
    let xs = follow (word_at ws at_count) ws (word_at ws at_first) in
    let long = length_follow (word_at ws at_count) ws (word_at ws at_first) in
    let tree = (row_labels levels h xs long).0 w.labels in
    let f = tree.forest in
    let same = tree.tags_are in
    let st = found ws (word_at ws at_s) (word_at ws at_r) (pred (word_at ws at_height)) (word_at ws at_count) f in (
      st,
      found_said ws h f tree.good (ap length same ∙ long) (rw same w.links) (rw same tree.labels_are) (rw same w.kinds) (rw same (omega (arith, w.stamp)))
          (λ own says. depths_said ws st says (row st) 0 (row_below own) (rw same w.depths)),
    )

-- WORDS THAT SAY A STORE pass
module _ (ws : List ℕ) (st : Store) (h : Says ws st) where
  pub given : Sound st
  unfolding Says
  given = facts_of st h.0

  says : (x : ℕ) → x < count st → TagSays ws st x
  unfolding Says
  says x l = rw h.1.1 (tag_says st h.1.0 x l)

  -- its header's facts, its tree's limits, and the passes along its row
  pub facts : Header ws st.book.s st.book.r st.book.under (count st)
  facts =
      let head = header_said ws st h in
      record {
        version = head.version;
        degree_s = head.degree_s;
        degree_r = head.degree_r;
        levels = head.levels;
        issued = head.issued;
        high = sound_height given;
        degrees = given.degrees;
        few = given.few;
        room = words_fit ws st h;
        labels_fit = rw (width_said ws st h) given.labels_fit;
        below = (root_limits given).0;
        least = (root_limits given).1;
      }

  pub good : Good st.book.s st.book.r st.book.root st.book.under
  unfolding book_within
  good =
      let k = st.book in
      let nodes = within_limits k.root k.s k.r k.under in
      good_of k.s k.r k.root k.under (and_right (root_within k) nodes given.within)

  pub row_walked : LevelsRight → Walked ws (shape_of ws) 0 (start ws) (row st)
  unfolding shape_of start start_levels
  row_walked levels =
      let (once, below) = distinct_all_below (count st) (row st) given.each given.as_many in
      let head = header_said ws st h in
      let under : pred (word_at ws at_height) ≡ st.book.under = ap pred head.levels in
      let marks = marks_same ws st says (row st) once below given.as_many in
      record {
        links = rw (head.issued, head.first)
            (linked ws (count st) (row st) once below (λ x l. (says x l).next_word) (λ x l. (says x l).prior_word));
        labels = rw under
            ((row_labels levels facts (row st) given.as_many).1 (record { forest = st.book.root; good = good; tags_are = refl; labels_are = rw (width_said ws st h) (sym (labels_said ws st h)) }));
        kinds = rw (head.issued, kinds_same ws st given.few says (row st) below) given.nesting;
        depths = depths_walked ws st says given.few (row st) 0 no_tag below refl (pass_of st.facts no_tag (row st) given.nesting) given.depths;
        stamp = rw (head.issued, head.stamp, marks) (omega (arith, given.stamp_fits));
      }

  said_passes : LevelsRight → words_pass ws ≡ true
  unfolding words_pass shape_of
  said_passes levels =
      let many : length (row st) ≡ word_at ws at_count = given.as_many ∙ sym (header_said ws st h).issued in
      let along = walks ws (shape_of ws) (row st) 0 (start ws) (omega (arith, many)) (row_walked levels) in
      and_both (header_test facts) (rw many at along)

-- words pass if and only if they say a store
pub walk_right_from : LevelsRight → WalkRight
unfolding WalkRight
walk_right_from levels ws = (passed_said levels ws, λ h. said_passes ws h.0 h.1 levels)

pub walk_right : WalkRight
walk_right = walk_right_from levels_right
