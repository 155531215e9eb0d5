-- Words whose header and passes are right, with a forest that has their row and labels, say a store. Assumes nothing.
use mathlib.Core.Path.{◌≡◌, refl, ap, sym, ◌∙◌}
use mathlib.Core.Bool.{true, cond, false≢true}
use mathlib.Core.List.{List, [], ◌∷◌, map}
use Prim.Native.Nat.{ℕ, zero, suc, ◌+◌, ◌-◌, ◌%◌, ◌≤◌, ◌<◌}
use native.Mathlib.Nat.{zero-add}
use native.Mathlib.Omega.{arith}
use borrow.Author.Tests.{leb-true, leb-false, eqb-true, lt-ltb}
use lib.Dec.{leb, eqb}
use lib.ListN.{get_or, length-map}
use Rattle.store_types.specs.Limits.{no_tag, most_tags}
use Rattle.lists.proofs.Tests.{and_left, and_right, and_both, by_test, fails}
use Rattle.store_types.specs.Layout.{at_first, at_book, at_stamp, at_kind, word_at, field, label_at}
use Rattle.lists.specs.Lists.{numbers}
use Rattle.lists.proofs.Numbers.{length_numbers, getD_numbers}
use Rattle.tree.specs.Good.{Good}
use Rattle.tree.specs.Row.{member, place, all_below}
use Rattle.tree.specs.Forest.{Forest, leaves, size, labels}
use Rattle.tree.specs.Book.{label_of, root_within, book_within}
use Rattle.tree_laws.proofs.Good.{test_of}
use Rattle.tree_laws.proofs.Rows.{Distinct, member_nil, member_cases, getD_place, place_of_member, all_below_distinct, member_all_below}
use Rattle.tree_laws.proofs.Labels.{Rising, rising_from, good_rising}
use Rattle.calls.specs.Kind.{code, kind_of, kind_word, word_kind}
use Rattle.calls.specs.Store.{Store, no_fact, fact, count, row, width}
use Rattle.calls.specs.Nesting.{depths_right}
use Rattle.calls.specs.Words.{Says, read_fact, header_width}
use Rattle.calls_laws.proofs.Tests.{SoundWith, sound_of}
use Rattle.calls_laws.proofs.Fields.{TagSays, HeaderSays}
use Rattle.calls_laws.proofs.Reader.{get_d_map}
use Rattle.walk_model.specs.Walk.{kind_fits, open_after}
use Rattle.walk_model.proofs.Passes.{Linked, kinds_pass, total, mark_word}
use Rattle.walk_model.proofs.Shapes.{Header, widths_given}
use Rattle.walk_model.proofs.Links.{first_linked, below_linked, next_linked, prior_linked}
use Rattle.walk_model.proofs.KindPass.{kinds_same}
use Rattle.walk_model.proofs.Counts.{marks_same}
use Rattle.walk_model.proofs.Rebuilt.{rebuilt}

-- TAGS WITH RISING NUMBERS are distinct
distinct_rising : (g : ℕ → ℕ) (xs : List ℕ) (a b : ℕ) → Rising a b (map g xs) → Distinct xs
distinct_rising g [] a b h = tt
distinct_rising g (x ∷ xs) a b h = (
  fails (member x xs) (λ m. let inside = place_of_member x xs m in
      omega (
        arith,
        rising_from (suc (g x)) b (map g xs) h.1 (place x xs) (omega (arith, length-map xs g)),
        get_d_map g xs (place x xs) 0 0 inside,
        ap g (getD_place x xs 0 m),
      )),
  distinct_rising g xs (suc (g x)) b h.1,
)

-- A KIND'S WORD back from the kind and mark that are read in it
pub code_back : (c : ℕ) → 1 ≤ c → c ≤ 3 → code (kind_of c) ≡ c
unfolding code kind_of
code_back zero l m = absurd (omega arith)
code_back (suc zero) l m = refl
code_back (suc (suc zero)) l m = refl
code_back (suc (suc (suc zero))) l m = refl
code_back (suc (suc (suc (suc c)))) l m = absurd (omega arith)

pub word_back : (c : ℕ) → c < 32 → 1 ≤ c % 16 → c % 16 ≤ 3 → kind_word (word_kind c) (leb 16 c) ≡ c
unfolding kind_word word_kind
word_back c l a b =
    by_test (leb 16 c)
    (λ e. let high = leb-true 16 c e in rw (e, code_back (c - 16) (omega arith) (omega arith)) omega arith)
    (λ e. let low = leb-false 16 c e in rw (e, code_back c (omega arith) (omega arith)) omega arith)

kind_known : (ws : List ℕ) (n o x c : ℕ) → kind_fits ws n o x c ≡ true → (c < 32) × (1 ≤ c % 16) × (c % 16 ≤ 3)
unfolding kind_fits
kind_known ws n o x c h =
    by_test (leb 32 c) (λ e. absurd (false≢true (rw e at h)))
    (λ e. let low = leb-false 32 c e in
    by_test (eqb (c % 16) 3) (λ t. omega (arith, eqb-true (c % 16) 3 t))
    (λ t. by_test (eqb (c % 16) 1) (λ u. omega (arith, eqb-true (c % 16) 1 u))
    (λ u. by_test (eqb (c % 16) 2) (λ v. omega (arith, eqb-true (c % 16) 2 v)) (λ v. absurd (false≢true (rw (e, t, u, v) at h))))))

-- so of each tag along the row
words_back : (ws : List ℕ) (n o : ℕ) (xs : List ℕ) → kinds_pass ws n o xs ≡ true → (x : ℕ) → member x xs ≡ true →
    field ws x at_kind ≡ kind_word (read_fact ws x).kind (read_fact ws x).marked
unfolding read_fact
words_back ws n o [] h x m = absurd (false≢true (sym (member_nil x) ∙ m))
words_back ws n o (y ∷ ys) h x m =
    let c = field ws y at_kind in
    let later = kinds_pass ws n (open_after ws o y c) ys in
    member_cases x y ys m
    (λ e. let k = kind_known ws n o y c (and_left (kind_fits ws n o y c) later h) in rw e (sym (word_back c k.0 k.1 k.2)))
    (λ e k. words_back ws n (open_after ws o y c) ys (and_right (kind_fits ws n o y c) later h) x k)

-- THE STORE that is read where the tree is f
unfoldable pub found : List ℕ → (s r u n : ℕ) → Forest → Store
found ws s r u n f =
    record {
      book = record { s = s; r = r; under = u; root = f };
      number = word_at ws at_book;
      stamp = word_at ws at_stamp;
      facts = map (read_fact ws) (numbers 0 n);
    }

module _ {s r u n : ℕ} (ws : List ℕ) (h : Header ws s r u n) (f : Forest) (good : Good s r f u) (long : size f ≡ n)
    (links : Linked ws n (word_at ws at_first) no_tag (leaves f)) (labels_are : labels f (header_width ws) u 0 ≡ map (label_at ws) (leaves f))
    (kinds : kinds_pass ws n no_tag (leaves f) ≡ true) (stamp : word_at ws at_stamp ≤ n + total (mark_word ws) (leaves f)) where
  abbrev st : Store
  st = found ws s r u n f

  -- its row has each number below n once
  issued : count st ≡ n
  unfolding found
  issued = length-map (numbers 0 n) (read_fact ws) ∙ length_numbers 0 n

  distinct : Distinct (leaves f)
  distinct =
      distinct_rising (label_at ws) (leaves f) 0 _
      (rw labels_are at (good_rising h.degrees.s_least h.degrees.r_least (widths_given h) f u 0 good))

  below : (x : ℕ) → member x (leaves f) ≡ true → x < n
  below x m = below_linked ws n (leaves f) (word_at ws at_first) no_tag x links m

  each : all_below n (leaves f) ≡ true
  each = all_below_distinct n (leaves f) distinct below long

  -- its words are those that are read
  fact_is : (x : ℕ) → x < n → fact st x ≡ read_fact ws x
  unfolding found
  fact_is x l =
      get_d_map (read_fact ws) (numbers 0 n) x 0 no_fact (omega (arith, length_numbers 0 n)) ∙ rw (getD_numbers 0 n x 0 l, zero-add)

  -- the header gives its widths
  width_is : width st ≡ header_width ws
  unfolding found header_width
  width_is = rw (h.degree_s, h.degree_r)

  label_is : (x : ℕ) → member x (leaves f) ≡ true → label_at ws x ≡ get_or (labels f (width st) u 0) (place x (leaves f)) 0
  label_is x m =
      rw (width_is, labels_are, get_d_map (label_at ws) (leaves f) (place x (leaves f)) 0 0 (place_of_member x (leaves f) m), getD_place x (leaves f) 0 m)

  says : (x : ℕ) → x < count st → TagSays ws st x
  unfolding found label_of read_fact
  says x k =
      let l : x < n = omega (arith, issued) in
      let m = member_all_below n x (leaves f) each l in
      record {
        label_word = label_is x m;
        next_word = next_linked ws n (leaves f) (word_at ws at_first) no_tag x links m;
        prior_word = prior_linked ws n (leaves f) (word_at ws at_first) x links m;
        mate_word = rw (fact_is x l);
        up_word = rw (fact_is x l);
        kind_is = rw (fact_is x l) (words_back ws n no_tag (leaves f) kinds x m);
        depth_is = rw (fact_is x l);
      }

  header_is : HeaderSays ws st
  unfolding found
  header_is =
      record {
        version = h.version;
        degree_s = h.degree_s;
        degree_r = h.degree_r;
        levels = h.levels;
        issued = h.issued ∙ sym issued;
        first = sym (first_linked ws n (leaves f) (word_at ws at_first) no_tag links);
        number = refl;
        stamp = refl;
      }

  within : book_within st.book ≡ true
  unfolding found book_within root_within
  within =
      let root = and_both (lt-ltb _ _ h.below) h.least in
      and_both (rw (← long) at root) (test_of s r f u good)

  -- it is sound but for its depths, of which D is known
  found_sound : {D : Type 0} → D → SoundWith D st
  unfolding found
  found_sound known =
      let few : count st ≤ most_tags = omega (arith, issued, h.few) in
      let tags : (x : ℕ) → member x (leaves f) ≡ true → x < count st = λ x m. omega (arith, issued, below x m) in
      let as_many = long ∙ sym issued in
      record {
        degrees = h.degrees;
        labels_fit = rw width_is h.labels_fit;
        within = within;
        few = few;
        as_many = as_many;
        each = rw issued each;
        nesting = sym (kinds_same ws st few says (leaves f) tags) ∙ rw issued kinds;
        depths = known;
        stamp_fits = omega (arith, issued, marks_same ws st says (leaves f) distinct tags as_many);
      }

  -- and these are its words, if its depths are right by what they say
  pub found_said : (SoundWith (Unit {0}) st → ((x : ℕ) → x < count st → TagSays ws st x) → depths_right st.facts 0 (row st) ≡ true) → Says ws st
  unfolding Says
  found_said deep = (sound_of st (found_sound (deep (found_sound tt) says)), (_, rebuilt ws st says header_is (rw issued h.room)))
