-- Words that are sound by document 01's sentences say a store, and words that say one are sound. Assumes nothing.
use mathlib.Core.Path.{◌≡◌, refl, ap, sym, ◌∙◌}
use mathlib.Core.Bool.{Bool, true, false, ◌&&◌, ◌||◌}
use mathlib.Core.List.{List, [], ◌∷◌, map, head_d, reverse_aux}
use mathlib.Core.Option.{Option, none, some}
use Prim.Native.Nat.{ℕ, suc, ◌*◌, ◌-◌, ◌^◌, ◌≤◌, ◌<◌}
use native.Mathlib.Nat.{lt_of_not-le}
use native.Mathlib.Omega.{arith}
use borrow.Author.Tests.{le-ltb, le-leb, leb-true, ne_eqb, eqb-false}
use lib.Dec.{leb, eqb}
use lib.ListN.{length, length-map}
use Rattle.store_types.specs.Limits.{no_tag}
use Rattle.store_types.specs.Layout.{at_s, at_r, at_height, at_count, at_first, header_words, at_next, at_prior, word_at, words_for, field, label_at}
use Rattle.lists.proofs.Tests.{by_test, and_right}
use Rattle.lists.specs.Lists.{numbers, how_many}
use Rattle.lists.proofs.Numbers.{length_numbers}
use Rattle.lists.proofs.Those.{length_those}
use Rattle.tree.specs.Good.{Good}
use Rattle.tree.specs.Row.{member, all_below}
use Rattle.tree.specs.Forest.{Forest, leaves, labels, within_limits}
use Rattle.tree.specs.Book.{Book, height, root_within, book_within}
use Rattle.tree.specs.Promise.{LabelsRise}
use Rattle.tree_laws.proofs.Rows.{distinct_all_below, member_numbers, member_first, member_later}
use Rattle.tree_laws.proofs.Good.{good_of}
use Rattle.tree_laws.proofs.Labels.{labels_rise}
use Rattle.calls.specs.Kind.{Kind, begin, end, text, code, kind_word, is_begin}
use Rattle.calls.specs.Store.{Store, fact, count, row, width}
use Rattle.calls.specs.Held.{encloses, around}
use Rattle.calls.specs.Words.{Says, header_width, read}
use Rattle.calls.specs.Replies.{on_store, refusal_over}
use Rattle.calls.specs.Promise.{DepthRight, ReaderRight}
use Rattle.calls_laws.proofs.Widths.{fits_limit, limit_fits, store_widths, header_widths, store_powers, header_powers}
use Rattle.calls_laws.proofs.Heights.{height_limit}
use Rattle.calls_laws.proofs.Tests.{SoundWith, Sound, sane, root_limits}
use Rattle.calls_laws.proofs.Fields.{TagSays}
use Rattle.calls_laws.proofs.Sections.{row_below}
use Rattle.calls_laws.proofs.Around.{those_same, counted, depth_right}
use Rattle.calls_laws.proofs.WordSteps.{words_fit, refusal_said, header_said, labels_said}
use Rattle.calls_laws.proofs.Reader.{reader_right}
use Rattle.walk_model.proofs.Passes.{Linked, kinds_pass, total, mark_word}
use Rattle.walk_model.proofs.Shapes.{Header}
use Rattle.walk_model.proofs.Counts.{total_same, marks_same}
use Rattle.walk_model.proofs.Found.{found, found_said}
use Rattle.demands.specs.Words.{Met, is_marked, count_below}
use Rattle.demands.specs.Sound.{stands_around, SoundWords}
use Rattle.demands.specs.Promise.{SaysSome, SoundSays, UnsoundTwo}
use Rattle.demands.proofs.Said.{sound_said, tag_said, book_row}
use Rattle.demands.proofs.Asked.{begin_code}
use Rattle.demands.proofs.Differences.{count_total}
use Rattle.demands.proofs.Digits.{spelled_forest, forest_spells}
use Rattle.demands.proofs.Stacks.{nests_said, under_said, mates_said, passes_nested}

-- ALONG NEXT AND PRIOR: each tag that next meets knows the one before it
met_head : (g : ℕ → ℕ) (x : ℕ) (xs : List ℕ) → Met g x xs → x ≡ head_d xs no_tag
unfolding Met head_d
met_head g x [] m = m
met_head g x (y ∷ ys) m = m.0

met_back : (g : ℕ → ℕ) (xs back : List ℕ) → Met g (head_d (reverse_aux xs back) no_tag) (reverse_aux xs back) → Met g (head_d back no_tag) back
unfolding Met head_d
met_back g [] back m = m
met_back g (y ∷ ys) back m =
    let rest = (met_back g ys (y ∷ back) m).2 in
    rw (met_head g (g y) back rest) at rest

linked_met : (ws : List ℕ) (n : ℕ) (xs back : List ℕ) (x : ℕ) → ((y : ℕ) → member y xs ≡ true → y < n) → Met (λ z. field ws z at_next) x xs →
    Met (λ z. field ws z at_prior) (head_d (reverse_aux xs back) no_tag) (reverse_aux xs back) → Linked ws n x (head_d back no_tag) xs
unfolding Met head_d
linked_met ws n [] back x below m p = m
linked_met ws n (y ∷ ys) back x below m p =
    let own = met_back (λ z. field ws z at_prior) ys (y ∷ back) p in (
      m.0,
      below y (member_first y ys),
      met_head (λ z. field ws z at_prior) (field ws y at_prior) back own.2,
      linked_met ws n ys (y ∷ back) (field ws y at_next) (λ z i. below z (member_later z y ys i)) m.2 p,
    )

-- the marks along a row of all tags, and by number
marks_count : (ws : List ℕ) (n : ℕ) (xs : List ℕ) → length xs ≡ n → all_below n xs ≡ true → total (mark_word ws) xs ≡ count_below n (is_marked ws)
unfolding is_marked
marks_count ws n xs many each =
    let (once, below) = distinct_all_below n xs each many in
    total_same (mark_word ws) xs (numbers 0 n) once (λ v m. member_numbers v 0 n (omega arith) (omega (arith, below v m))) (omega (arith, length_numbers 0 n))
    ∙ count_total (mark_word ws) _ n (λ x l. refl)

-- DEPTHS BY PLACES over words are those by the store's facts
around_said : {D : Type 0} (ws : List ℕ) (st : Store) → SoundWith D st → ((x : ℕ) → x < count st → TagSays ws st x) → (x : ℕ) →
    length (around st x) ≡ how_many (stands_around ws (row st) x) (row st)
unfolding around encloses stands_around
around_said ws st own says x =
    let test : ℕ → Bool = λ b. is_begin (fact st b).kind && encloses st b x in
    ap length (those_same test (stands_around ws (row st) x) (row st)
    (λ b m. let t = says b (row_below own b m) in rw (t.kind_is, t.mate_word, begin_code (fact st b).kind (fact st b).marked)))
    ∙ length_those (stands_around ws (row st) x) (row st)

-- FROM THE SENTENCES to a store
module _ (ws : List ℕ) (h : SoundWords ws) where
  abbrev s : ℕ
  s = word_at ws at_s

  abbrev r : ℕ
  r = word_at ws at_r

  abbrev u : ℕ
  u = word_at ws at_height - 1

  abbrev n : ℕ
  n = word_at ws at_count

  levels : word_at ws at_height ≡ suc u
  levels = omega (arith, h.height)

  least : (eqb u 0 || leb (2 * r ^ u) n) ≡ true
  least =
      by_test (eqb u 0) (λ e. rw e)
      (λ e. rw e (le-leb (2 * r ^ u) n
      (let high : 2 ≤ word_at ws at_height = (let other = eqb-false u 0 e in omega (arith, levels, lt_of_not-le λ (none : u ≤ 0). other (omega arith))) in
      h.root_least high)))

  header : Header ws s r u n
  unfolding words_for
  header =
      record {
        version = h.version;
        degree_s = refl;
        degree_r = refl;
        levels = levels;
        issued = refl;
        high = height_limit r u n h.r_range.0 least h.few;
        degrees = record { s_least = h.s_range.0; s_most = h.s_range.1; r_least = h.r_range.0; r_most = h.r_range.1 };
        few = h.few;
        room = h.room;
        labels_fit = limit_fits (header_width ws) (suc u) (rw (header_powers ws (suc u)) (rw levels at h.labels_fit));
        below = rw levels at h.root_most;
        least = least;
      }

  in_book : (x : ℕ) → member x h.row ≡ true → x < n
  in_book = (distinct_all_below n h.row h.each h.as_many).1

  links : Linked ws n (word_at ws at_first) no_tag h.row
  unfolding head_d
  links = linked_met ws n h.row [] (word_at ws at_first) in_book h.along.next h.along.prior

  kinds_are : kinds_pass ws n no_tag h.row ≡ true
  unfolding head_d
  kinds_are = passes_nested ws n h.few h.kinds h.marks_under h.marks_mates h.row [] tt in_book h.nesting

  forest : (f : Forest) × Good s r f u × (leaves f ≡ h.row) × (labels f (header_width ws) u 0 ≡ map (label_at ws) h.row)
  forest =
      spelled_forest s r h.s_range.0 h.r_range.0 (header_width ws) (header_widths ws) (header_powers ws) u (map (label_at ws) h.row) h.row (sym (length-map h.row (label_at ws)))
      (rw levels at h.rise) (rw levels at h.spells)

  sound_says_some : SaysSome ws
  unfolding found
  sound_says_some =
      let (f, good, tags, numbers_are) = forest in
      let st = found ws s r u n f in (
        st,
        found_said ws header f good (ap length tags ∙ h.as_many) (rw tags links) (rw tags numbers_are) (rw tags kinds_are)
            (rw tags (omega (arith, h.stamp, marks_count ws n h.row h.as_many h.each)))
            (λ own says. counted own (λ x l. sym (says x l).depth_is ∙ (rw tags (h.depths x (omega (arith, own.as_many, ap length tags, h.as_many))) ∙ sym (around_said ws st own says x)))),
      )

-- FROM A STORE to the sentences
word_small : (k : Kind) (m : Bool) → kind_word k m < 32
unfolding kind_word code
word_small begin true = omega arith
word_small begin false = omega arith
word_small end true = omega arith
word_small end false = omega arith
word_small text true = omega arith
word_small text false = omega arith

module _ (ws : List ℕ) (st : Store) (h : Says ws st) where
  abbrev k : Book
  k = st.book

  own : Sound st
  own = sound_said ws st h

  good : Good k.s k.r k.root k.under
  unfolding book_within
  good = good_of k.s k.r k.root k.under (and_right (root_within k) (within_limits k.root k.s k.r k.under) own.within)

  tag_below : (x : ℕ) → x < word_at ws at_count → x < count st
  tag_below x l = omega (arith, (header_said ws st h).issued)

  says_sound : SoundWords ws
  unfolding words_for LabelsRise Says DepthRight
  says_sound =
      let head = header_said ws st h in
      let limits = root_limits own in
      let once = distinct_all_below (count st) (row st) own.each own.as_many in
      record {
        version = head.version;
        room = rw head.issued (words_fit ws st h);
        s_range = rw head.degree_s (own.degrees.s_least, own.degrees.s_most);
        r_range = rw head.degree_r (own.degrees.r_least, own.degrees.r_most);
        height = omega (arith, head.levels);
        few = rw head.issued own.few;
        labels_fit = rw (head.degree_s, head.degree_r, head.levels, ← store_powers st (height k)) (fits_limit (width st) (height k) own.labels_fit);
        row = row st;
        along = book_row ws st h;
        as_many = own.as_many ∙ sym head.issued;
        each = rw head.issued own.each;
        rise = rw (head.degree_s, head.degree_r, head.levels, ← store_powers st (height k), labels_said ws st h) (labels_rise (width st) k (store_widths st) (sane own));
        spells = rw (head.degree_s, head.degree_r, head.levels, labels_said ws st h)
            (forest_spells k.s k.r own.degrees.s_least own.degrees.r_least (width st) (store_widths st) (store_powers st) k.under k.root good);
        root_most = rw (head.issued, head.degree_s, head.degree_r, head.levels) limits.0;
        root_least = λ two. let same : word_at ws at_height - 1 ≡ k.under = omega (arith, head.levels) in
            rw (same, head.issued, head.degree_r)
            (leb-true (2 * k.r ^ k.under) (count st) (rw (ne_eqb k.under 0 (λ e. omega (arith, head.levels))) at limits.1));
        kinds = λ x l. rw (tag_said ws st h x (tag_below x l)).kind_is (word_small (fact st x).kind (fact st x).marked);
        nesting = nests_said ws st h;
        depths = λ x l. (tag_said ws st h x (tag_below x l)).depth_is ∙ (depth_right st x h.0 (tag_below x l) ∙ around_said ws st own (tag_said ws st h) x);
        marks_under = λ x l. under_said ws st h x (tag_below x l);
        marks_mates = λ x l. mates_said ws st h x (tag_below x l);
        stamp =
            rw (head.issued, head.stamp)
            (omega (
              arith,
              own.stamp_fits,
              marks_count ws (count st) (row st) own.as_many own.each,
              marks_same ws st (tag_said ws st h) (row st) once.0 once.1 own.as_many,
            ));
      }

-- words are sound if and only if they say a store
pub sound_says : SoundSays
unfolding SoundSays
sound_says ws = (sound_says_some ws, λ known. says_sound ws known.0 known.1)

-- 2 is refused where they are not, and nowhere else
pub unsound_two : UnsoundTwo
unfolding UnsoundTwo SoundSays refusal_over on_store ReaderRight
unsound_two ws f long never = (
  λ e k. let (st, says) = (sound_says ws).0 k in never st (sym (refusal_said ws st says f) ∙ e),
  λ no_sound. rw (le-ltb (length ws) header_words long) (go no_sound (read ws) refl),
)
  where
    go : (SoundWords ws → ⊥) → (o : Option Store) → read ws ≡ o → on_store o f ≡ 2
    go no_sound none e = refl
    go no_sound (some st) e = absurd (no_sound ((sound_says ws).1 (st, (reader_right ws st).0 e)))
