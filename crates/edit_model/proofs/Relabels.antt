-- Labels written along the row of an image: its words afterwards, and how many labels were others. Assumes nothing.
use mathlib.Core.Path.{◌≡◌, refl, ◌∙◌}
use mathlib.Core.Bool.{true, false, ◌||◌, or-true}
use mathlib.Core.List.{List, [], ◌∷◌, ◌++◌, map, append_assoc}
use Prim.Native.Nat.{ℕ, zero, suc, ◌+◌, ◌-◌, ◌≤◌, ◌<◌}
use native.Mathlib.Omega.{arith}
use borrow.Author.Tests.{ltb-true, ltb-false, le-leb, lt-leb}
use lib.Dec.{leb, ltb}
use lib.ListN.{length, get_or, take, drop, set, length-set, length-drop, length-map, get_or-eq_default}
use lib.Seq.{length-take-le, drop-cons, get_or-set_other, drop-set-lt, sets, length-sets, sets-eq}
use Rattle.store_types.specs.Limits.{no_tag, word_limit, most_tags}
use Rattle.lists.proofs.Tests.{by_test}
use Rattle.store_types.specs.Layout.{at_next, field, label_at, with_label}
use Rattle.edit_model.specs.Image.{Image, image_words, with_labels}
use Rattle.shape.specs.Sums.{cut}
use Rattle.shape.proofs.Sums.{cut_below}
use Rattle.edit_model.specs.Relabel.{counts_moved, relabel, shift}
use Rattle.edit_model.proofs.Image.{Proper, proper_with_labels, tag_below, label_written}
use Rattle.edit_model.proofs.Along.{unmarked_row, label_of_place, counts_at, next_at}
use Rattle.edit_model.proofs.Differ.{differ}

-- ONE ROW AFTER ANOTHER
pub relabel_append_words : (xs ys ls ms ws : List ℕ) → length xs ≡ length ls →
    (relabel (xs ++ ys) (ls ++ ms) ws).words ≡ (relabel ys ms (relabel xs ls ws).words).words
unfolding relabel
relabel_append_words [] ys [] ms ws e = refl
relabel_append_words [] ys (l ∷ ls) ms ws e = absurd (omega arith)
relabel_append_words (x ∷ xs) ys [] ms ws e = absurd (omega arith)
relabel_append_words (x ∷ xs) ys (l ∷ ls) ms ws e = relabel_append_words xs ys ls ms (with_label ws x l) (omega arith)

pub relabel_append_moved : (xs ys ls ms ws : List ℕ) → length xs ≡ length ls →
    (relabel (xs ++ ys) (ls ++ ms) ws).moved ≡ (relabel xs ls ws).moved + (relabel ys ms (relabel xs ls ws).words).moved
unfolding relabel
relabel_append_moved [] ys [] ms ws e = omega arith
relabel_append_moved [] ys (l ∷ ls) ms ws e = absurd (omega arith)
relabel_append_moved (x ∷ xs) ys [] ms ws e = absurd (omega arith)
relabel_append_moved (x ∷ xs) ys (l ∷ ls) ms ws e =
    omega (arith, relabel_append_moved xs ys ls ms (with_label ws x l) (omega arith))

-- ALONG A ROW: from place i on as many tags as there are new labels
next_label : (x l : ℕ) (xs ls ws : List ℕ) →
    relabel (x ∷ xs) (l ∷ ls) ws
    ≡ record { words = (relabel xs ls (with_label ws x l)).words; moved = counts_moved ws x l + (relabel xs ls (with_label ws x l)).moved }
unfolding relabel
next_label x l xs ls ws = refl

relabel_sets : {v : Image} (h : Proper v) (rest ls : List ℕ) (i : ℕ) → i + length ls ≤ length v.tags →
    relabel (take (length ls) (drop i v.tags)) ls (image_words v ++ rest)
    ≡ record {
      words = image_words (with_labels (sets v.labels i ls) v) ++ rest;
      moved = differ (take (length ls) (drop i (unmarked_row v))) (take (length ls) (drop i v.labels)) ls;
    }
unfolding relabel with_labels differ
relabel_sets {v} h rest [] i fits = refl
relabel_sets {v} h rest (l ∷ ls) i fits =
    let inside : i < length v.tags = omega arith in
    rw (
      drop-cons v.tags i no_tag inside,
      drop-cons v.labels i 0 (omega (arith, h.labelled)),
      drop-cons (unmarked_row v) i true (rw length-map inside),
      next_label,
      counts_at h rest i no_tag inside l,
      label_written h i no_tag l inside rest,
      relabel_sets (proper_with_labels h (set v.labels i l) (length-set v.labels i l)) rest ls (suc i) (omega arith),
      drop-set-lt (suc i) v.labels i l (omega arith),
    )

sets_parts : (xs ls : List ℕ) (i : ℕ) → i + length ls ≤ length xs → sets xs i ls ≡ take i xs ++ (ls ++ drop (i + length ls) xs)
sets_parts xs ls i fits = rw append_assoc at (sets-eq ls xs i fits)

module _ {v : Image} (h : Proper v) (rest ls : List ℕ) (i k : ℕ) (many : length ls ≡ k) (fits : i + k ≤ length v.tags) where
  -- the image then has these labels at these places
  pub relabel_words : (relabel (take k (drop i v.tags)) ls (image_words v ++ rest)).words
      ≡ image_words (with_labels (take i v.labels ++ (ls ++ drop (i + k) v.labels)) v) ++ rest
  relabel_words =
      rw (← many, relabel_sets h rest ls i (omega arith)) (rw (sets_parts v.labels ls i (omega (arith, h.labelled))))

  pub relabel_proper : Proper (with_labels (take i v.labels ++ (ls ++ drop (i + k) v.labels)) v)
  relabel_proper =
      let spliced = sets_parts v.labels ls i (omega (arith, h.labelled)) in
      proper_with_labels h _ (rw (← many, ← spliced) (length-sets v.labels i ls))

  pub relabel_moved : (relabel (take k (drop i v.tags)) ls (image_words v ++ rest)).moved
      ≡ differ (take k (drop i (unmarked_row v))) (take k (drop i v.labels)) ls
  relabel_moved = rw (← many, relabel_sets h rest ls i (omega arith))

-- LABELS RAISED BY d from place i on, as long as they are below b: those up to place m
pub record Stretch (ls : List ℕ) (i m b d : ℕ) : Type 0 where
  pub order : i ≤ m
  pub last : m ≤ length ls
  pub low : (j : ℕ) → i ≤ j → j < m → get_or ls j 0 < b
  pub fit : (j : ℕ) → i ≤ j → j < m → get_or ls j 0 + d < word_limit
  pub stop : m < length ls → b ≤ get_or ls m 0

-- one step less, whatever the first label becomes
stretch_next : (ls : List ℕ) (i m b d l : ℕ) → i < m → Stretch ls i m b d → Stretch (set ls i l) (suc i) m b d
stretch_next ls i m b d l inside e =
    record {
      order = inside;
      last = rw length-set e.last;
      low = λ j from to. rw (get_or-set_other ls i j l 0 (λ same. omega arith)) (e.low j (omega arith) to);
      fit = λ j from to. rw (get_or-set_other ls i j l 0 (λ same. omega arith)) (e.fit j (omega arith) to);
      stop = λ to. rw (get_or-set_other ls i m l 0 (λ same. omega arith)) (e.stop (rw length-set at to));
    }

-- the clauses of shift
shift_stays : (k n x b d : ℕ) (ws : List ℕ) → (leb n x || leb b (label_at ws x)) ≡ true → shift (suc k) n ws x b d ≡ record { words = ws; moved = 0 }
unfolding shift
shift_stays k n x b d ws e = rw e

shift_goes : (k n x b d : ℕ) (ws : List ℕ) → (leb n x || leb b (label_at ws x)) ≡ false →
    shift (suc k) n ws x b d
    ≡ record {
      words = (shift k n (with_label ws x (cut (label_at ws x + d))) (field ws x at_next) b d).words;
      moved = counts_moved ws x (cut (label_at ws x + d)) + (shift k n (with_label ws x (cut (label_at ws x + d))) (field ws x at_next) b d).moved;
    }
unfolding shift
shift_goes k n x b d ws e = rw e

-- the test at the end of a stretch and inside it
module _ {v : Image} (h : Proper v) (rest : List ℕ) (i m b d : ℕ) (e : Stretch v.labels i m b d) where
  ends : length v.facts ≤ most_tags →
      (leb (length v.facts) (get_or v.tags m no_tag) || leb b (label_at (image_words v ++ rest) (get_or v.tags m no_tag))) ≡ true
  ends few =
      by_test (ltb m (length v.tags))
      (λ t. let inside = ltb-true m (length v.tags) t in
      rw (label_of_place h rest m no_tag inside, le-leb b (get_or v.labels m 0) (e.stop (omega (arith, h.labelled)))) (or-true (leb (length v.facts) (get_or v.tags m no_tag))))
      (λ t. let outside = ltb-false m (length v.tags) t in
      rw (get_or-eq_default v.tags no_tag outside, le-leb (length v.facts) no_tag (omega arith)))

  goes_on : i < m →
      (leb (length v.facts) (get_or v.tags i no_tag) || leb b (label_at (image_words v ++ rest) (get_or v.tags i no_tag))) ≡ false
  goes_on first =
      let inside : i < length v.tags = omega (arith, e.last, h.labelled) in
      rw (
        lt-leb (length v.facts) (get_or v.tags i no_tag) (tag_below h i no_tag inside),
        label_of_place h rest i no_tag inside,
        lt-leb b (get_or v.labels i 0) (e.low i (omega arith) first),
      )

shift_sets : (most c : ℕ) {v : Image} (h : Proper v) (rest : List ℕ) (i m b d : ℕ) → length v.facts ≤ most_tags → Stretch v.labels i m b d →
    i + c ≡ m → c ≤ most →
    shift most (length v.facts) (image_words v ++ rest) (get_or v.tags i no_tag) b d
    ≡ record {
      words = image_words (with_labels (sets v.labels i (map (λ l. l + d) (take c (drop i v.labels)))) v) ++ rest;
      moved = differ (take c (drop i (unmarked_row v))) (take c (drop i v.labels)) (map (λ l. l + d) (take c (drop i v.labels)));
    }
unfolding shift with_labels differ
shift_sets zero zero h rest i m b d few e sum enough = refl
shift_sets zero (suc c) h rest i m b d few e sum enough = absurd (omega arith)
shift_sets (suc k) zero {v} h rest i m b d few e sum enough =
    let same : i ≡ m = omega arith in
    rw same (shift_stays k (length v.facts) (get_or v.tags m no_tag) b d (image_words v ++ rest) (ends h rest i m b d e few))
shift_sets (suc k) (suc c) {v} h rest i m b d few e sum enough =
    let first : i < m = omega arith in
    let inside : i < length v.tags = omega (arith, e.last, h.labelled) in
    let l = get_or v.labels i 0 in
    let x = get_or v.tags i no_tag in
    rw (
      shift_goes k (length v.facts) x b d (image_words v ++ rest) (goes_on h rest i m b d e first),
      drop-cons v.labels i 0 (omega (arith, h.labelled)),
      drop-cons (unmarked_row v) i true (rw length-map inside),
      label_of_place h rest i no_tag inside,
      next_at h rest i no_tag inside,
      cut_below (l + d) (e.fit i (omega arith) first),
      counts_at h rest i no_tag inside (l + d),
      label_written h i no_tag (l + d) inside rest,
      ← drop-set-lt (suc i) v.labels i (l + d) (omega arith),
      shift_sets k c (proper_with_labels h (set v.labels i (l + d)) (length-set v.labels i (l + d))) rest (suc i) m b d few (stretch_next v.labels i m b d (l + d) first e) (omega arith) (omega arith),
    )

-- how many the labels of a stretch are
length_raised : (ls : List ℕ) (i m d : ℕ) → m ≤ length ls → length (map (λ l. l + d) (take (m - i) (drop i ls))) ≡ m - i
length_raised ls i m d fits = length-map (take (m - i) (drop i ls)) (λ l. l + d) ∙ length-take-le (m - i) (drop i ls) (rw length-drop (omega arith))

module _ {v : Image} (h : Proper v) (rest : List ℕ) (most i m b d : ℕ) (few : length v.facts ≤ most_tags) (e : Stretch v.labels i m b d) (enough : m - i ≤ most) where
  pub shift_words : (shift most (length v.facts) (image_words v ++ rest) (get_or v.tags i no_tag) b d).words
      ≡ image_words (with_labels (take i v.labels ++ (map (λ l. l + d) (take (m - i) (drop i v.labels)) ++ drop m v.labels)) v) ++ rest
  shift_words =
      let raised = map (λ l. l + d) (take (m - i) (drop i v.labels)) in
      let many = length_raised v.labels i m d e.last in
      let whole : i + length raised ≡ m = omega (arith, e.order) in
      rw (
        shift_sets most (m - i) h rest i m b d few e (omega (arith, e.order)) enough,
        sets_parts v.labels raised i (omega (arith, e.last)),
        whole,
      )

  pub shift_moved : (shift most (length v.facts) (image_words v ++ rest) (get_or v.tags i no_tag) b d).moved
      ≡ differ (take (m - i) (drop i (unmarked_row v))) (take (m - i) (drop i v.labels)) (map (λ l. l + d) (take (m - i) (drop i v.labels)))
  shift_moved = rw (shift_sets most (m - i) h rest i m b d few e (omega (arith, e.order)) enough)
