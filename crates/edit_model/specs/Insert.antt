-- Insertion over words: of a row of new tags. Follows the code of crates insert_plan, insert_link and insert_call.
-- Assumes nothing: these are definitions.
use Rattle.std.specs.Prelude.{cond, List, [], ◌∷◌, ◌++◌, map, ℕ, suc, pred, ◌+◌, ◌*◌, ◌-◌, ◌/◌, ◌^◌, ltb, leb, eqb, length, take, drop, replicate, set}
use Rattle.store_types.specs.Limits.{no_tag}
use Rattle.store_types.specs.Layout.{at_s, at_r, at_height, at_count, at_first, at_stamp, header_words, at_next, at_prior, record_list, word_at, words_for, label_at, with_field}
use Rattle.words.specs.Places.{behind, up_word, depth_word, watched_label}
use Rattle.powers.specs.Tables.{entry, table_length}
use Rattle.shape.specs.Tables.{widths_of, highs_of}
use Rattle.tree.specs.Forest.{labels}
use Rattle.tree.specs.Grown.{path, in_node, height_for}
use Rattle.calls.specs.Kind.{Kind, kind_word}
use Rattle.calls.specs.Store.{Fact}
use Rattle.calls.specs.Nesting.{new_facts}
use Rattle.calls.specs.Words.{follow}
use Rattle.walk_model.specs.Watch.{ancestor_numbers, sizes_at}
use Rattle.shape.specs.Sums.{cut}
use Rattle.edit_model.specs.Relabel.{Relabelled, relabel, along, shift}
use Rattle.edit_model.specs.Split.{Border, highest_full, left_border}

-- NEW TAGS from number x on with their records, one behind the other between two tags. Their labels are none that a tag can
-- have, so that each counts as moved where it is numbered.
unfoldable pub new_record : (next prior : ℕ) → Fact → List ℕ
new_record next prior t = record_list no_tag next prior t.mate t.up (kind_word t.kind t.marked) t.depth

unfoldable pub row_records : (x prior next : ℕ) → List Fact → List ℕ
row_records x y z [] = []
row_records x y z (t ∷ []) = new_record z y t
row_records x y z (t ∷ u ∷ ts) = new_record (suc x) y t ++ row_records (suc x) x z (u ∷ ts)

-- behind the records of n tags
unfoldable pub with_records : List ℕ → (n prior next : ℕ) → List Fact → List ℕ
with_records ws n y z ts =
    take (words_for header_words n) ws ++ (row_records n y z ts ++ drop (words_for header_words (n + length ts)) ws)

-- linked behind a place, which may be the front, and before the tag behind it, where there is one
unfoldable pub linked_place : List ℕ → (place n : ℕ) → List ℕ
linked_place ws y n = cond (eqb y no_tag) (set ws at_first n) (with_field ws y at_next n)

unfoldable pub linked_next : List ℕ → (next n : ℕ) → List ℕ
linked_next ws x n = cond (eqb x no_tag) ws (with_field ws x at_prior n)

-- the facts of tags of these kinds from number n on behind a place, by its words
abbrev pub facts_at : List ℕ → (n place : ℕ) → (kinds : List Kind) → List Fact
facts_at ws n y ks = new_facts (up_word ws y) [] (depth_word ws y) n ks

unfoldable pub added_row : List ℕ → (n place : ℕ) → List Fact → List ℕ
added_row ws n y ts =
    let next = behind ws y in
    let all = n + length ts in
    set (linked_next (linked_place (with_records ws n y next ts) y n) next (all - 1)) at_count all

-- A RENUMBERING: from the tag behind `left` on, `count` tags as trees of a height from a number on, complete but for the one of
-- the cursor, which has `rest` tags more behind the cursor; then the labels below a bound are shifted
pub record Plan : Type 0 where
  pub height : ℕ
  pub left : ℕ
  pub number : ℕ
  pub count : ℕ
  pub cursor : ℕ
  pub rest : ℕ
  pub bound : ℕ
  pub by : ℕ

unfoldable pub applied : List ℕ → (widths : List ℕ) → (s r n : ℕ) → Plan → Relabelled
applied ws w s r n p =
    let x = behind ws p.left in
    let xs = follow p.count ws x in
    let q = relabel xs (map cut (labels (path s r p.height p.cursor p.rest xs) (entry w) p.height p.number)) ws in
    let t = shift n n q.words (along p.count ws x) p.bound p.by in
    record { words = t.words; moved = q.moved + t.moved }

unfoldable pub numbers_at : List ℕ → (widths : List ℕ) → (under place : ℕ) → List ℕ
numbers_at ws w u y = ancestor_numbers w u (watched_label ws y) 0 (replicate table_length 0)

-- THE PLANS of k tags at a place. No split: they stand right behind the place, and its right siblings are shifted
unfoldable pub plain_plan : List ℕ → (widths : List ℕ) → (k under place : ℕ) → Plan
plain_plan ws w k u y =
    let ns = numbers_at ws w u y in
    record {
      height = 0;
      left = y;
      number = cond (eqb y no_tag) 0 (cut (label_at ws y + entry w 0));
      count = k;
      cursor = k;
      rest = 0;
      bound = cut (entry ns 1 + entry w 1);
      by = cut (k * entry w 0);
    }

-- the node of height h over l tags below the root is split: its right siblings are shifted by the trees that it becomes but one
unfoldable pub split_plan : (s r : ℕ) → (widths numbers : List ℕ) → (h l k : ℕ) → Border → Plan
split_plan s r w ns h l k b =
    let t = in_node s r h l k in
    record {
      height = h;
      left = b.tag;
      number = entry ns h;
      count = l + k;
      cursor = b.steps + t;
      rest = k - t;
      bound = cut (entry ns (suc h) + entry w (suc h));
      by = cut (((l + t) / r ^ h - 1) * entry w h);
    }

-- the root of n tags is split, for the last time at height h: all tags are numbered anew
unfoldable pub root_plan : (s r h n k : ℕ) → Border → Plan
root_plan s r h n k b =
    let t = in_node s r h n k in
    record { height = h; left = no_tag; number = 0; count = n + k; cursor = b.steps + t; rest = k - t; bound = 0; by = 0 }

-- by the sizes of the place's ancestors
unfoldable pub plan : List ℕ → (s r : ℕ) → (widths highs sizes : List ℕ) → (n k under place : ℕ) → Plan
plan ws s r w hi sz n k u y =
    let top = height_for k s r (n + k) (suc u) in
    let h = highest_full hi sz k u 1 0 in
    let ns = numbers_at ws w u y in
    cond (ltb (suc u) top) (root_plan s r (pred top) n k (left_border n n ws 0 y))
    (cond (eqb h 0) (plain_plan ws w k u y) (split_plan s r w ns h (entry sz h) k (left_border n n ws (entry ns h) y)))

unfoldable pub plan_of : List ℕ → (k place : ℕ) → Plan
plan_of ws k y =
    plan ws (word_at ws at_s) (word_at ws at_r) (widths_of ws) (highs_of ws) (sizes_at ws y (replicate table_length 0)) (word_at ws at_count) k (pred (word_at ws at_height)) y

-- H is one higher than the root's last split
unfoldable pub raised_words : List ℕ → (split : ℕ) → List ℕ
raised_words ws split = cond (leb (word_at ws at_height) split) (set ws at_height (suc split)) ws

-- THE CHANGE: the words afterwards, how many unmarked tags moved, and the split height
pub record Edited : Type 0 where
  pub words : List ℕ
  pub moved : ℕ
  pub split : ℕ

-- tags of these kinds go in behind a place, by a plan made before; then the tables are those of the new height
unfoldable pub row_edit : (kinds : List Kind) → (place : ℕ) → List ℕ → Edited
row_edit ks y ws =
    let n = word_at ws at_count in
    let k = length ks in
    let p = plan_of ws k y in
    let vs = raised_words (added_row ws n y (facts_at ws n y ks)) p.height in
    let q = applied vs (widths_of vs) (word_at ws at_s) (word_at ws at_r) (n + k) p in
    record { words = q.words; moved = q.moved - k; split = p.height }

-- the words of an accepted insertion: the stamp is raised
unfoldable pub stamped : List ℕ → List ℕ
stamped ws = set ws at_stamp (suc (word_at ws at_stamp))
