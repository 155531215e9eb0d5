-- The reader: words are read as a store just where they say it, so they say at most one.
-- Assumes nothing.
use mathlib.Core.Path.{◌≡◌, refl, ap, sym, ◌∙◌}
use mathlib.Core.Bool.{Bool, true, false, ◌&&◌}
use mathlib.Core.List.{List, [], ◌∷◌, ◌++◌, map}
use mathlib.Core.Option.{some}
use Prim.Native.Nat.{ℕ, zero, suc, ◌+◌, ◌≤◌, ◌<◌}
use native.Mathlib.Nat.{zero-add, not-suc-le-zero, le_of_suc-le-suc}
use native.Mathlib.Omega.{arith}
use borrow.Author.Tests.{le-leb}
use lib.Dec.{leb}
use lib.ListN.{length, get_or, drop, length-map, length-append}
use lib.Seq.{drop-cons, drop-length, ext_get_or}
use Rattle.store_types.specs.Limits.{no_tag}
use Rattle.lists.proofs.Tests.{and_left, and_right, and_both, by_test}
use Rattle.store_types.specs.Layout.{header_words, words_for, label_at, field, at_next}
use Rattle.lists.specs.Lists.{numbers}
use Rattle.lists.proofs.Numbers.{length_numbers, getD_numbers}
use Rattle.lists.specs.Fronts.{starts_with}
use Rattle.lists.proofs.Fronts.{starts_front, rest_of}
use Rattle.tree.specs.Book.{height, label_of, labels_of, root_within, book_within}
use Rattle.tree.specs.Forest.{within_limits}
use Rattle.tree_laws.proofs.Good.{good_of}
use Rattle.tree_laws.proofs.Rows.{Distinct, member_getD, place_getD, distinct_all_below}
use Rattle.tree_laws.proofs.Labels.{length_labels}
use Rattle.tree_laws.proofs.Spelled.{spelled_good}
use Rattle.calls.specs.Kind.{Kind, begin, end, text, code, kind_of, kind_word, word_kind}
use Rattle.calls.specs.Store.{Store, no_fact, fact, count, row, width, next_in}
use Rattle.calls.specs.Sound.{sound}
use Rattle.calls.specs.Words.{words_of, Says, follow, read_fact, header_width, read_book, read_store, header_in_range, read_in_range, read}
use Rattle.calls.specs.Promise.{HeightMost, ReaderRight, SaysOne, ReadsBack}
use Rattle.calls_laws.proofs.Widths.{store_widths}
use Rattle.calls_laws.proofs.Tests.{Sound, facts_of, degrees_test}
use Rattle.calls_laws.proofs.Heights.{height_most}
use Rattle.calls_laws.proofs.Fields.{length_words, tag_says, header_says}

-- an element of a mapped list, whatever the element that is given past the end
pub get_d_map : {A B : Type 0} (f : A → B) (xs : List A) (i : ℕ) (d : A) (e : B) → i < length xs → get_or (map f xs) i e ≡ f (get_or xs i d)
get_d_map f [] i d e l = absurd (not-suc-le-zero l)
get_d_map f (x ∷ xs) zero d e l = refl
get_d_map f (x ∷ xs) (suc i) d e l = get_d_map f xs i d e (le_of_suc-le-suc l)

-- a kind and a mark back from their word
pub kind_back : (k : Kind) (m : Bool) →
    (word_kind (kind_word k m) ≡ k) × (leb 16 (kind_word k m) ≡ m)
unfolding word_kind kind_of kind_word code
kind_back begin true = (refl, refl)
kind_back begin false = (refl, refl)
kind_back end true = (refl, refl)
kind_back end false = (refl, refl)
kind_back text true = (refl, refl)
kind_back text false = (refl, refl)

-- along next there are as many tags as are asked for
pub length_follow : (n : ℕ) (ws : List ℕ) (x : ℕ) → length (follow n ws x) ≡ n
unfolding follow
length_follow zero ws x = refl
length_follow (suc n) ws x = ap suc (length_follow n ws (field ws x at_next))

-- THE STORE BACK FROM ITS WORDS, with anything after them
module _ (st : Store) (rest : List ℕ) (h : Sound st) where
  distinct : Distinct (row st)
  distinct = (distinct_all_below (count st) (row st) h.each h.as_many).0

  -- the tags of the row are tags
  below : (i d : ℕ) → i < length (row st) → get_or (row st) i d < count st
  below i d l = (distinct_all_below (count st) (row st) h.each h.as_many).1 _ (member_getD (row st) i d l)

  -- along next from the i-th tag stand the rest of the tags
  follow_from : (n i : ℕ) → i + n ≡ length (row st) → follow n (words_of st ++ rest) (get_or (row st) i no_tag) ≡ drop i (row st)
  unfolding follow next_in
  follow_from zero i e = let all : i ≡ length (row st) = omega arith in rw all (sym (drop-length (row st)))
  follow_from (suc n) i e =
      let inside : i < length (row st) = omega arith in
      rw (
        (tag_says st rest (get_or (row st) i no_tag) (below i no_tag inside)).next_word,
        place_getD (row st) i no_tag distinct inside,
        follow_from n (suc i) (omega arith),
      )
      (sym (drop-cons (row st) i no_tag inside))

  pub row_read : follow (count st) (words_of st ++ rest) (get_or (row st) 0 no_tag) ≡ row st
  row_read = follow_from (count st) 0 (omega (arith, h.as_many))

  -- the labels along the row
  pub labels_read : map (label_at (words_of st ++ rest)) (row st) ≡ labels_of (width st) st.book
  unfolding label_of
  labels_read =
      let many = length_labels st.book.root (width st) st.book.under 0 in
      ext_get_or 0 _ (labels_of (width st) st.book) (length-map (row st) _ ∙ sym many)
      (λ i l. let inside : i < length (row st) = omega (arith, length-map (row st) (label_at (words_of st ++ rest))) in
      get_d_map (label_at (words_of st ++ rest)) (row st) i 0 0 inside
      ∙ (tag_says st rest (get_or (row st) i 0) (below i 0 inside)).label_word
      ∙ rw (place_getD (row st) i 0 distinct inside))

  -- the book: its labels spell its tree
  book_read : read_book (words_of st ++ rest) ≡ st.book
  unfolding header_width read_book book_within
  book_read =
      let k = st.book in
      let head = header_says st rest in
      let good = good_of k.s k.r k.root k.under (and_right (root_within k) (within_limits k.root k.s k.r k.under) h.within) in
      rw (
        head.degree_s,
        head.degree_r,
        head.levels,
        head.issued,
        head.first,
        row_read,
        labels_read,
        spelled_good h.degrees.s_least h.degrees.r_least (store_widths st) k.under k.root 0 good,
      )

  -- the facts of a tag, and of all
  fact_read : (x : ℕ) → x < count st → read_fact (words_of st ++ rest) x ≡ fact st x
  unfolding read_fact
  fact_read x l =
      let says = tag_says st rest x l in
      let back = kind_back (fact st x).kind (fact st x).marked in
      rw (says.mate_word, says.up_word, says.kind_is, says.depth_is, back.0, back.1)

  facts_read : map (read_fact (words_of st ++ rest)) (numbers 0 (count st)) ≡ st.facts
  facts_read =
      let many = length-map (numbers 0 (count st)) (read_fact (words_of st ++ rest)) ∙ length_numbers 0 (count st) in
      ext_get_or no_fact _ st.facts many
      (λ i l. let inside : i < count st = omega (arith, many) in
      get_d_map (read_fact (words_of st ++ rest)) (numbers 0 (count st)) i 0 no_fact (omega (arith, length_numbers 0 (count st)))
      ∙ rw (getD_numbers 0 (count st) i 0 inside, zero-add) (fact_read i inside))

  pub store_read : read_store (words_of st ++ rest) ≡ st
  unfolding read_store
  store_read =
      let head = header_says st rest in
      rw (head.issued, head.number, head.stamp, book_read, facts_read)

-- THE HEADER of a sound store is in its ranges
in_range : (st : Store) (rest : List ℕ) → sound st ≡ true → header_in_range (words_of st ++ rest) ≡ true
unfolding header_in_range HeightMost
in_range st rest e =
    let h = facts_of st e in
    let head = header_says st rest in
    let high = height_most st e in
    let room : words_for header_words (count st) ≤ length (words_of st ++ rest) = omega (arith, length_words st, length-append (words_of st) rest) in
    rw (head.degree_s, head.degree_r, head.levels, head.issued)
    (and_both (and_both (degrees_test _ _ h.degrees) (and_both (le-leb 1 (height st.book) (omega arith)) (le-leb _ _ high)))
    (and_both (le-leb _ _ h.few) (le-leb _ _ room)))

-- a store's words are read as that store
pub reads_back : ReadsBack
unfolding ReadsBack read read_in_range
reads_back st rest e = rw (in_range st rest e, store_read st rest (facts_of st e), e, starts_front (words_of st) rest)

-- words are read as a store if and only if they say it
pub reader_right : ReaderRight
unfolding ReaderRight ReadsBack Says read read_in_range
reader_right ws st = (λ e. go (header_in_range ws) e, λ h. rw h.1.1 (reads_back st h.1.0 h.0))
  where
    go : (b : Bool) → read_in_range b ws ≡ some st → Says ws st
    go false e = let q : ◌≡◌ {A = ℕ} 0 1 = cc in absurd (omega arith)
    go true e =
        by_test (sound (read_store ws) && starts_with (words_of (read_store ws)) ws)
        (λ t. let same : read_store ws ≡ st = (let q = rw t at e in cc) in (
          rw same at (and_left (sound (read_store ws)) (starts_with (words_of (read_store ws)) ws) t),
          (
            drop (length (words_of st)) ws,
            rest_of (words_of st) ws (rw same at (and_right (sound (read_store ws)) (starts_with (words_of (read_store ws)) ws) t)),
          ),
        ))
        (λ t. let q : ◌≡◌ {A = ℕ} 0 1 = (let r = rw t at e in cc) in absurd (omega arith))

-- and so they say at most one
pub says_one : SaysOne
unfolding SaysOne ReaderRight
says_one ws st su h k =
    let one = (reader_right ws st).1 h in
    let other = (reader_right ws su).1 k in
    cc
