-- A renumbering by a plan that is right, on the words of any image: the labels afterwards, and how many are others.
-- Assumes nothing.
use mathlib.Core.Path.{◌≡◌, refl, ap, sym, ◌∙◌}
use mathlib.Core.Bool.{Bool}
use mathlib.Core.List.{List, [], ◌∷◌, ◌++◌, map}
use Prim.Native.Nat.{ℕ, ◌+◌, ◌≤◌, ◌<◌}
use native.Mathlib.Omega.{arith}
use lib.ListN.{length, get_or, take, drop, length-append, length-drop, length-map, get_or-append}
use lib.Seq.{length-take-le, get_or-append-add, drop-drop}
use Rattle.store_types.specs.Limits.{no_tag, most_tags}
use Rattle.powers.specs.Tables.{entry}
use Rattle.tree.specs.Forest.{labels}
use Rattle.tree.specs.Grown.{path}
use Rattle.tree_laws.proofs.Ancestors.{getD_middle}
use Rattle.calls_laws.proofs.Reader.{get_d_map}
use Rattle.edit_model.specs.Image.{Image, image_words, with_labels}
use Rattle.edit_model.specs.Insert.{Plan, applied}
use Rattle.edit_model.proofs.Image.{Proper}
use Rattle.edit_model.proofs.Along.{unmarked_row}
use Rattle.edit_model.proofs.Differ.{differ, differ_append, differ_same}
use Rattle.edit_model.proofs.Behind.{tag_before}
use Rattle.edit_model.proofs.Applied.{labels_widths, Applies, applied_words, applied_moved}

-- the same added to each number, where there are any
raised_same : (a b : ℕ) (xs : List ℕ) → (1 ≤ length xs → a ≡ b) → map (λ l. l + a) xs ≡ map (λ l. l + b) xs
raised_same a b [] e = refl
raised_same a b (x ∷ xs) e = ap (λ (k : ℕ). map (λ l. l + k) (x ∷ xs)) (e (omega arith))

-- labels of which only two parts change
differ_parts : (ts : List Bool) (before old new beside raised after : List ℕ) → length old ≡ length new → length beside ≡ length raised →
    differ ts (before ++ (old ++ (beside ++ after))) (before ++ (new ++ (raised ++ after)))
    ≡ differ (take (length old) (drop (length before) ts)) old new + differ (take (length beside) (drop (length before + length old) ts)) beside raised
differ_parts ts before old new beside raised after same same_beside =
    let from_old = drop (length before) ts in
    let from_beside = drop (length before + length old) ts in
    omega (
      arith,
      differ_append ts before (old ++ (beside ++ after)) before (new ++ (raised ++ after)) refl,
      rw (drop-drop (length old) (length before) ts) at (differ_append from_old old (beside ++ after) new (raised ++ after) same),
      differ_append from_beside beside after raised after same_beside,
      differ_same (take (length before) ts) before,
      differ_same (drop (length beside) from_beside) after,
    )

-- A PLAN THAT IS RIGHT on an image: its labels in parts, of which the second becomes that of trees of which only the cursor's is
-- not complete, the third is raised by a, and the bound cuts the third from the fourth
pub record Right (v : Image) (table : List ℕ) (w : ℕ → ℕ) (s r : ℕ) (q : Plan) (before old new beside after : List ℕ) (a : ℕ) : Type 0 where
  pub was : v.labels ≡ before ++ (old ++ (beside ++ after))
  pub left : q.left ≡ tag_before v (length before)
  pub count : q.count ≡ length old
  pub complete : (zs : List ℕ) → length zs ≡ length old → labels (path s r q.height q.cursor q.rest zs) w q.height q.number ≡ new
  pub as_many : length new ≡ length old
  pub wide : (h : ℕ) → h ≤ q.height → entry table h ≡ w h
  pub by_is : 1 ≤ length beside → q.by ≡ a
  pub low : (i : ℕ) → i < length beside → get_or beside i 0 < q.bound
  pub stop : 1 ≤ length after → q.bound ≤ get_or after 0 0

-- WORDS OF n TAGS that stand in a row, and in it those that a plan numbers
pub record WordsIn (us : List ℕ) (n : ℕ) : Type 0 where
  pub image : Image
  pub rest : List ℕ
  pub words_are : us ≡ image_words image ++ rest
  pub proper : Proper image
  pub counted : length image.facts ≡ n

pub record RowIn (us : List ℕ) (n : ℕ) (q : Plan) : Type 0 where
  pub words_in : WordsIn us n
  pub from : ℕ
  pub left_is : q.left ≡ tag_before words_in.image from
  pub fits : from + q.count ≤ length words_in.image.tags

pub row_in : {us : List ℕ} {n : ℕ} (q : Plan) (g : WordsIn us n) (table : List ℕ) (w : ℕ → ℕ) (s r : ℕ) (before old new beside after : List ℕ) (a : ℕ) →
    Right g.image table w s r q before old new beside after a → RowIn us n q
row_in q g table w s r before old new beside after a e =
    record {
      words_in = g;
      from = length before;
      left_is = e.left;
      fits = omega (arith, e.count, simp length-append at (ap length e.was), g.proper.labelled);
    }

module _ {v : Image} (h : Proper v) (few : length v.facts ≤ most_tags) (table : List ℕ) (w : ℕ → ℕ) (s r : ℕ) (q : Plan) (before old new beside after : List ℕ) (a : ℕ)
    (e : Right v table w s r q before old new beside after a) (ls : List ℕ) (now : ls ≡ before ++ (new ++ (map (λ l. l + a) beside ++ after)))
    (small : (i : ℕ) → i < length ls → get_or ls i 0 < no_tag) where
  many_now : length ls ≡ length before + (length new + (length beside + length after))
  many_now = simp (length-append, length-map) at (ap length now)

  many_then : length before + (length old + (length beside + length after)) ≡ length v.tags
  many_then = omega (arith, simp length-append at (ap length e.was), h.labelled)

  new_below : (i : ℕ) → i < length new → get_or new i 0 < no_tag
  new_below i l =
      let at = ap (λ (xs : List ℕ). get_or xs (length before + i) 0) now ∙ getD_middle before new _ i _ refl l in
      rw at at (small (length before + i) (omega (arith, many_now)))

  beside_below : (i : ℕ) → i < length beside → get_or beside i 0 + a < no_tag
  beside_below i l =
      let at = length before + (length new + i) in
      let here : get_or ls at 0 ≡ get_or beside i 0 + a =
      rw (now, get_or-append-add before, get_or-append-add new)
      (get_or-append (map (λ l. l + a) beside) after 0 i (rw length-map l) ∙ get_d_map (λ l. l + a) beside i 0 0 l) in
      rw here at (small at (omega (arith, many_now)))

  applies : Applies v table s r q before old new beside after
  applies =
      let part = take (length old) (drop (length before) v.tags) in
      let part_long : length part ≡ length old = length-take-le _ _ (rw length-drop (omega (arith, many_then))) in
      record {
        was = e.was;
        left = e.left;
        count = e.count;
        new_is = labels_widths (path s r q.height q.cursor q.rest part) (entry table) w q.height q.number e.wide ∙ e.complete part part_long;
        as_many = e.as_many;
        small = λ i l. omega (arith, new_below i l);
        low = e.low;
        fit = λ i l. rw (e.by_is (omega arith)) (omega (arith, beside_below i l));
        stop = e.stop;
      }

  -- the words with the labels afterwards
  pub renumbered_words : (rest : List ℕ) → (applied (image_words v ++ rest) table s r (length v.facts) q).words ≡ image_words (with_labels ls v) ++ rest
  renumbered_words rest =
      applied_words h few rest table s r q before old new beside after applies ∙ rw (raised_same q.by a beside e.by_is, now)

  -- and how many labels of unmarked tags are others
  pub renumbered_moved : (rest : List ℕ) → (applied (image_words v ++ rest) table s r (length v.facts) q).moved ≡ differ (unmarked_row v) v.labels ls
  renumbered_moved rest =
      let raised = map (λ l. l + a) beside in
      applied_moved h few rest table s r q before old new beside after applies
      ∙ rw (raised_same q.by a beside e.by_is, e.was, now)
      (sym (differ_parts (unmarked_row v) before old new beside raised after (sym e.as_many) (sym (length-map beside (λ l. l + a)))))
