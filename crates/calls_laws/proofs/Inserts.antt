-- An accepted insertion of a row of kinds that nests leaves a sound store. Assumes nothing.
use mathlib.Core.Path.{◌≡◌, refl, ap, sym, ◌∙◌}
use mathlib.Core.Bool.{Bool, true, false, ◌&&◌, ◌||◌, not, cond, true≢false, or-true, and-false}
use mathlib.Core.List.{List, [], ◌∷◌, ◌++◌}
use mathlib.Core.Logic.{◌⊎◌, inl, inr, ⊎_elim}
use Prim.Native.Nat.{ℕ, zero, suc, ◌+◌, ◌*◌, ◌^◌, ◌≤◌, ◌<◌}
use native.Mathlib.Nat.{le_of_eq, pow-suc, mul_assoc, mul-le-mul, mul-le-mul_left, one-le-pow}
use native.Mathlib.Omega.{arith}
use borrow.Author.Tests.{eq-eqb, ne_eqb, eqb-true, ltb-true, ltb-false, lt-leb, leb-true, leb-false, le-leb, not-false}
use lib.Dec.{ltb, leb, eqb}
use lib.ListN.{length, take, drop, length-append, get_or-append}
use lib.Seq.{take-suc}
use Rattle.store_types.specs.Limits.{no_tag, most_tags}
use Rattle.lists.proofs.Tests.{by_test, fails, or_left_false, or_right_false}
use Rattle.lists.proofs.HowMany.{how_many_append}
use Rattle.store_types.specs.Layout.{header_words, words_for}
use Rattle.lists.specs.Lists.{first, numbers}
use Rattle.tree.specs.Row.{member, insert_at, all_below}
use Rattle.tree.specs.Forest.{size}
use Rattle.tree.specs.Book.{Book, height, root_full, inserted, inserted_row}
use Rattle.tree.specs.Promise.{Sane}
use Rattle.tree_laws.proofs.Rows.{getD_place, place_of_member, member_of_take, member_insert, member_numbers, member_all_below, all_below_of, member_of_drop}
use Rattle.tree_laws.proofs.Insertion.{inserted_s, inserted_r, inserted_under, size_inserted, sane_inserted, sane_inserted_row, tags_inserted_row, size_inserted_row}
use Rattle.calls.specs.Kind.{Kind, is_begin}
use Rattle.calls.specs.Store.{Store, Fact, no_fact, fact_in, fact, count, row, place_of, height_fits}
use Rattle.calls.specs.Nesting.{nests, new_facts}
use Rattle.calls.specs.Insert.{position, up_at, depth_at, book_after, insert_store, raised, labels_end, labels_run_out, place_tests, room_tests, row_refusal}
use Rattle.calls.specs.Promise.{InsertSound, RowsEnd}
use Rattle.calls_laws.proofs.Tests.{passes, Sound, sane, root_limits, facts_of, sound_of}
use Rattle.calls_laws.proofs.Nesting.{Step, begins, ends, stands, Pass, pass_join, pass_around, nested_of, chain_mark, same_of, no_tag_fact, no_tag_same}
use Rattle.calls_laws.proofs.NewFacts.{length_new_facts, pass_new}
use Rattle.calls_laws.proofs.Sections.{row_below, in_row, is_tag, pass_row, At, pass_at}
use Rattle.calls_laws.proofs.Depths.{Depths, depths_test, depths_join, Level, level_of, depths_same, depths_new, DepthGap, depth_gap}

-- THE LABELS STILL FIT. s and r stay, and the height is the one that `raised` says
pub row_degrees : (n p x : ℕ) (k : Book) → ((inserted_row n p x k).s ≡ k.s) × ((inserted_row n p x k).r ≡ k.r)
unfolding inserted_row
row_degrees zero p x k = (refl, refl)
row_degrees (suc n) p x k =
    let rest = row_degrees n (suc p) (suc x) (inserted p x k) in
    (rest.0 ∙ inserted_s p x k, rest.1 ∙ inserted_r p x k)

pub height_raised : (p x : ℕ) (k : Book) → height (inserted p x k) ≡ raised k.s k.r (suc (size k.root)) (height k)
unfolding raised root_full
height_raised p x k = ap suc (inserted_under p x k) ∙ go (root_full k)
  where
    go : (t : Bool) → suc (cond t (suc k.under) k.under) ≡ cond t (suc (height k)) (height k)
    go true = refl
    go false = refl

module _ (fits : (height : ℕ) → Bool) where
  raised_fits : (s r m h : ℕ) → (leb (s * r ^ h) (suc m) && not (fits (suc h))) ≡ false → fits h ≡ true → fits (raised s r (suc m) h) ≡ true
  unfolding raised
  raised_fits s r m h e now =
      by_test (eqb (suc m) (s * r ^ h))
      (λ t. rw t (not-false _ (rw (le-leb (s * r ^ h) (suc m) (le_of_eq (sym (eqb-true _ _ t)))) at e)))
      (λ t. rw t now)

  pub labels_kept : (s r n p x : ℕ) (k : Book) → Sane k → k.s ≡ s → k.r ≡ r → p ≤ size k.root →
      labels_run_out fits s r n (size k.root) (height k) ≡ false → fits (height k) ≡ true → fits (height (inserted_row n p x k)) ≡ true
  unfolding inserted_row labels_run_out
  labels_kept s r zero p x k h es er l e own = own
  labels_kept s r (suc n) p x k h es er l e own =
      let m = size k.root in
      let now = leb (s * r ^ height k) (suc m) && not (fits (suc (height k))) in
      let later = labels_run_out fits s r n (suc m) (raised s r (suc m) (height k)) in
      let sized = size_inserted p x k h l in
      let high : height (inserted p x k) ≡ raised s r (suc m) (height k) = rw (← es, ← er) (height_raised p x k) in
      labels_kept s r n (suc p) (suc x) (inserted p x k) (sane_inserted p x k h l) (inserted_s p x k ∙ es) (inserted_r p x k ∙ er) (omega arith)
      (rw (sized, high) (or_right_false now later e)) (rw high (raised_fits s r m (height k) (or_left_false now later e) own))

-- REFUSAL 7: where n tags are below the root's limit L, labels of one or two tags more run out just where n + k comes to L
-- and labels of a tree one higher do not fit
module _ (fits : (height : ℕ) → Bool) (s r n h : ℕ) (s_least : 2 ≤ s) (r_least : 2 ≤ r) (below : n < s * r ^ h) where
  run_none : (k : ℕ) → k ≤ 2 → n + k < s * r ^ h → labels_run_out fits s r k n h ≡ false
  unfolding labels_run_out raised
  run_none zero l m = refl
  run_none (suc zero) l m = rw (lt-leb (s * r ^ h) (suc n) (omega arith))
  run_none (suc (suc zero)) l m =
      rw (lt-leb (s * r ^ h) (suc n) (omega arith), ne_eqb (suc n) (s * r ^ h) (λ e. omega arith), lt-leb (s * r ^ h) (suc (suc n)) (omega arith))
  run_none (suc (suc (suc k))) l m = absurd (omega arith)

  run_fits : (k : ℕ) → k ≤ 2 → fits (suc h) ≡ true → labels_run_out fits s r k n h ≡ false
  unfolding labels_run_out raised
  run_fits zero l m = refl
  run_fits (suc zero) l m = simp (m, and-false)
  run_fits (suc (suc zero)) l m =
      let first : (leb (s * r ^ h) (suc n) && not (fits (suc h))) ≡ false =
      simp (m, and-false) in
      rw first (by_test (eqb (suc n) (s * r ^ h))
      (λ t. let full = eqb-true (suc n) (s * r ^ h) t in
      let higher : s * r ^ suc h ≡ s * r ^ h * r = rw (pow-suc, mul_assoc) in
      let more : s * r ^ h * 2 ≤ s * r ^ h * r = mul-le-mul_left (s * r ^ h) r_least in
      let some : 2 * 1 ≤ s * r ^ h = mul-le-mul s_least (one-le-pow h r (omega arith)) in
      rw (t, lt-leb (s * r ^ suc h) (suc (suc n)) (omega arith)))
      (λ t. rw t (simp (m, and-false))))
  run_fits (suc (suc (suc k))) l m = absurd (omega arith)

  run_over : (k : ℕ) → k ≤ 2 → s * r ^ h ≤ n + k → fits (suc h) ≡ false → labels_run_out fits s r k n h ≡ true
  unfolding labels_run_out raised
  run_over zero l full m = absurd (omega arith)
  run_over (suc zero) l full m = rw (le-leb (s * r ^ h) (suc n) (omega arith), m)
  run_over (suc (suc zero)) l full m =
      by_test (leb (s * r ^ h) (suc n))
      (λ t. rw (t, m))
      (λ t. let low = leb-false (s * r ^ h) (suc n) t in
      rw (t, ne_eqb (suc n) (s * r ^ h) (λ e. omega arith), le-leb (s * r ^ h) (suc (suc n)) (omega arith), m))
  run_over (suc (suc (suc k))) l full m = absurd (omega arith)

  run_out_is_end : (k : ℕ) → k ≤ 2 → labels_run_out fits s r k n h ≡ labels_end fits s r k n h
  unfolding labels_end
  run_out_is_end k l =
      by_test (leb (s * r ^ h) (n + k))
      (λ t. rw t (by_test (fits (suc h)) (λ u. rw u (run_fits k l u)) (λ u. rw u (run_over k l (leb-true _ _ t) u))))
      (λ t. rw t (run_none k l (leb-false _ _ t)))

pub rows_end : RowsEnd
unfolding RowsEnd
rows_end st k e some l =
    let h = facts_of st e in
    run_out_is_end (height_fits st) st.book.s st.book.r (count st) (height st.book) h.degrees.s_least h.degrees.r_least (root_limits h).0 k l

-- WHAT AN ACCEPTED INSERTION is asked of: the front, or an unmarked tag
pub record RowAccepted (w : ℕ) (ks : List Kind) (y : ℕ) (st : Store) : Type 0 where
  pub place : (y ≡ no_tag) ⊎ ((y < count st) × ((fact st y).marked ≡ false))
  pub few : count st + length ks ≤ most_tags
  pub room : words_for header_words (count st + length ks) ≤ w
  pub labels : labels_run_out (height_fits st) st.book.s st.book.r (length ks) (count st) (height st.book) ≡ false

pub accepted_row : (w : ℕ) (ks : List Kind) (y : ℕ) (st : Store) → row_refusal w ks y st ≡ 0 → RowAccepted w ks y st
unfolding row_refusal place_tests room_tests first
accepted_row w ks y st r =
    let n = count st in
    let a = passes (not (eqb y no_tag) && leb n y) 7 _ r in
    let b = passes (not (eqb y no_tag) && (fact st y).marked) 8 _ a.1 in
    let c = passes (ltb most_tags (n + length ks) || ltb w (words_for header_words (n + length ks))) 5 _ b.1 in
    let d = passes (labels_run_out (height_fits st) st.book.s st.book.r (length ks) n (height st.book)) 6 0 c.1 in
    record {
      place =
          by_test (eqb y no_tag) (λ e. inl (eqb-true _ _ e))
          (λ e. inr (leb-false n y (rw e at a.0), rw e at b.0));
      few = ltb-false _ _ (or_left_false (ltb most_tags (n + length ks)) _ c.0);
      room = ltb-false _ _ (or_right_false (ltb most_tags (n + length ks)) _ c.0);
      labels = d.0;
    }

-- the tags before the new ones are tags of the row
pub position_fits : (w : ℕ) (ks : List Kind) (y : ℕ) (st : Store) → Sound st → RowAccepted w ks y st → position y st ≤ length (row st)
unfolding position
position_fits w ks y st h a =
    ⊎_elim (λ e. rw (eq-eqb y no_tag e) omega arith)
    (λ l. rw (ne_eqb y no_tag (λ e. omega (arith, h.few, l.0))) (place_of_member y (row st) (in_row h y l.0))) a.place

-- THE FACTS with those of the new tags under m, where v begins are open
abbrev facts_with : Store → (m v : ℕ) → List Kind → List Fact
facts_with st m v ks = st.facts ++ new_facts m [] v (count st) ks

count_with : (st : Store) (m v : ℕ) (ks : List Kind) → length (facts_with st m v ks) ≡ count st + length ks
count_with st m v ks = length-append st.facts (new_facts m [] v (count st) ks) ∙ ap (λ i. count st + i) (length_new_facts m [] v (count st) ks)

old_fact : (st : Store) (m v : ℕ) (ks : List Kind) (d : ℕ) → d < count st → fact_in (facts_with st m v ks) d ≡ fact st d
old_fact st m v ks d l = get_or-append st.facts (new_facts m [] v (count st) ks) no_fact d l

-- THE GAP behind the first p tags: m is the innermost begin open there
pub record Gap (st : Store) (p m : ℕ) : Type 0 where
  pub fits : p ≤ length (row st)
  pub front : Pass st.facts no_tag no_tag (take p (row st)) m
  pub back : Pass st.facts no_tag m (drop p (row st)) no_tag
  pub free : (fact st m).marked ≡ false

module _ {st : Store} (h : Sound st) where
  front_gap : Gap st 0 no_tag
  front_gap = record {
    fits = omega arith;
    front = refl;
    back = pass_row h;
    free = ap (λ (t : Fact). t.marked) (no_tag_fact st.facts (omega (arith, h.few)));
  }

  module _ (y : ℕ) (l : y < count st) (free : (fact st y).marked ≡ false) (a : At st y) where
    -- the begin open behind y is its up_at, and unmarked
    open_behind : Step st.facts no_tag a.before y a.behind → cond (is_begin (fact st y).kind) y (fact st y).up ≡ a.behind
    unfolding is_begin
    open_behind (begins s) = rw s.kind (sym s.next)
    open_behind (ends shut s) = rw s.kind (s.up ∙ sym s.next)
    open_behind (stands s) = rw s.kind (s.up ∙ sym s.next)

    free_behind : Step st.facts no_tag a.before y a.behind → (fact st a.behind).marked ≡ false
    free_behind (begins s) = rw s.next free
    free_behind (ends shut s) = rw s.next (fails _ (λ e. true≢false (sym (s.mark ∙ chain_mark shut a.chain e) ∙ free)))
    free_behind (stands s) = rw s.next (fails _ (λ e. true≢false (sym (s.mark e) ∙ free)))

    tag_gap : Gap st (suc (place_of st y)) a.behind
    tag_gap =
        let j = place_of st y in
        let m = in_row h y l in
        let fits = place_of_member y (row st) m in
        record {
          fits = fits;
          front = rw (take-suc (row st) j 0 fits, getD_place y (row st) 0 m)
              (pass_join st.facts no_tag no_tag a.before a.behind (take j (row st)) (y ∷ []) a.front (a.behind, a.step, refl));
          back = a.back;
          free = free_behind a.step;
        }

  pub gap : (w : ℕ) (ks : List Kind) (y : ℕ) → RowAccepted w ks y st → Gap st (position y st) (up_at y st)
  unfolding position up_at
  gap w ks y a = go a.place
    where
      go : (y ≡ no_tag) ⊎ ((y < count st) × ((fact st y).marked ≡ false)) → Gap st (position y st) (up_at y st)
      go (inl e) = rw (eq-eqb _ _ e) front_gap
      go (inr t) = let b = pass_at h y t.0 in rw (ne_eqb _ _ (is_tag h y t.0), open_behind y t.0 t.1 b b.step) (tag_gap y t.0 t.1 b)

  -- the pass with the new tags in the gap
  pass_with : (ks : List Kind) (p m v : ℕ) → Gap st p m → nests 0 ks ≡ true → count st + length ks ≤ most_tags →
      Pass (facts_with st m v ks) no_tag no_tag (insert_at p (numbers (count st) (length ks)) (row st)) no_tag
  unfolding insert_at
  pass_with ks p m v g n few =
      let fs = st.facts in
      let gs = facts_with st m v ks in
      let front = take p (row st) in
      let back = drop p (row st) in
      let small : length gs ≤ no_tag = omega (arith, count_with st m v ks) in
      pass_around fs gs (no_tag_same fs gs (omega (arith, h.few)) small) front (numbers (count st) (length ks)) back m
      (λ d k. same_of fs gs d (old_fact st m v ks d (row_below h d (member_of_take d p (row st) k))))
      (λ d k. same_of fs gs d (old_fact st m v ks d (row_below h d (member_of_drop d p (row st) k))))
      g.front g.back
      (λ same. pass_new gs small m (same.marked ∙ g.free) 0 m [] v (count st) ks fs refl refl n refl)

  -- and the depths
  depths_with : (ks : List Kind) (p m v : ℕ) (g : DepthGap st p v) → nests 0 ks ≡ true → count st + length ks ≤ most_tags →
      Depths (facts_with st m v ks) 0 (insert_at p (numbers (count st) (length ks)) (row st)) g.last
  unfolding insert_at
  depths_with ks p m v g n few =
      let fs = st.facts in
      let gs = facts_with st m v ks in
      let front = take p (row st) in
      let back = drop p (row st) in
      let new = numbers (count st) (length ks) in
      let small : length gs ≤ no_tag = omega (arith, count_with st m v ks) in
      let old : (d : ℕ) → member d (row st) ≡ true → Level fs gs d = λ d k. level_of fs gs d (old_fact st m v ks d (row_below h d k)) in
      depths_join gs 0 v g.last front (new ++ back) (depths_same fs gs 0 front v (λ d k. old d (member_of_take d p (row st) k)) g.front)
      (depths_join gs v v g.last new back (depths_new gs small v 0 m [] v (count st) ks fs refl refl n (omega arith))
      (depths_same fs gs v back g.last (λ d k. old d (member_of_drop d p (row st) k)) g.back))

-- THE ROW with them holds each number once
pub all_below_with : (n k p : ℕ) (xs : List ℕ) → all_below n xs ≡ true → all_below (n + k) (insert_at p (numbers n k) xs) ≡ true
all_below_with n k p xs e =
    all_below_of (n + k) (insert_at p (numbers n k) xs) λ i l.
    rw (member_insert i p (numbers n k) xs) (by_test (ltb i n)
    (λ t. rw (member_all_below n i xs e (ltb-true i n t)))
    (λ t. let high = ltb-false i n t in rw (member_numbers i n k high l) (or-true (member i xs))))

-- an accepted insertion leaves a sound store
pub insert_sound : InsertSound
unfolding InsertSound insert_store book_after
insert_sound w y ks st e n some r =
    let h = facts_of st e in
    let a = accepted_row w ks y st r in
    let k = length ks in
    let p = position y st in
    let m = up_at y st in
    let v = depth_at y st in
    let g = gap h w ks y a in
    let deep = depth_gap h y (⊎_elim inl (λ t. inr t.0) a.place) in
    let size_is : size st.book.root ≡ count st = h.as_many in
    let old = sane h in
    let sized = size_inserted_row k p (count st) st.book old g.fits in
    let tags_are = tags_inserted_row k p (count st) st.book old g.fits in
    let degrees = row_degrees k p (count st) st.book in
    let counted = count_with st m v ks in
    sound_of (insert_store ks y st) (record {
      degrees = rw (degrees.0, degrees.1) h.degrees;
      labels_fit =
          rw (degrees.0, degrees.1)
          (labels_kept (height_fits st) st.book.s st.book.r k p (count st) st.book old refl refl g.fits (rw size_is a.labels) h.labels_fit);
      within = (sane_inserted_row k p (count st) st.book old g.fits).within;
      few = rw counted a.few;
      as_many = omega arith;
      each = rw (counted, tags_are) (all_below_with (count st) k p (row st) h.each);
      nesting = nested_of _ no_tag _ (rw tags_are (pass_with h ks p m v g n a.few));
      depths = depths_test _ 0 _ deep.last (rw tags_are (depths_with h ks p m v deep n a.few));
      stamp_fits = omega (arith, h.stamp_fits, how_many_append (λ (t : Fact). t.marked) st.facts (new_facts m [] v (count st) ks));
    })
