-- The elements around a tag of a sound store (document 02, CR 7): as many as its depth says, and its up is the innermost. By one
-- pass along the row, before each tag of which the open begins are those whose end is still to come. That pass asks for no depths, so
-- depths that count those around are right. Assumes nothing.
use mathlib.Core.Path.{◌≡◌, refl, ap, sym, ◌∙◌}
use mathlib.Core.Bool.{Bool, true, false, ◌&&◌, not, cond, true≢false, false≢true, and-false, and-true}
use mathlib.Core.List.{List, [], ◌∷◌, ◌++◌, append-nil, get_last_d}
use Prim.Native.Nat.{ℕ, suc, ◌-◌, ◌<◌}
use native.Mathlib.Omega.{arith}
use borrow.Author.Tests.{eqb-true, eqb-false, eq-eqb, ne_eqb, lt-ltb, le-ltb, le-leb, lt-leb, leb-true, leb-false}
use lib.Dec.{leb, eqb}
use lib.ListN.{length, get_or, length-append}
use lib.Seq.{append_snoc}
use Rattle.store_types.specs.Limits.{no_tag}
use Rattle.lists.specs.Lists.{those}
use Rattle.lists.proofs.Tests.{by_test, and_both}
use Rattle.lists.proofs.Those.{those_append, those_both}
use Rattle.tree.specs.Row.{member, place}
use Rattle.tree_laws.proofs.Rows.{member_nil, member_first, member_later, member_cases, member_append, getD_place}
use Rattle.calls.specs.Kind.{is_begin, is_end, own_depth, opens_after, depth_after}
use Rattle.calls.specs.Store.{Store, fact, count, row, place_of}
use Rattle.calls.specs.Nesting.{depths_right}
use Rattle.calls.specs.Held.{encloses, around}
use Rattle.calls.specs.Promise.{DepthRight, UpsInnermost, DepthUp}
use Rattle.calls_laws.proofs.Tests.{SoundWith, Sound, facts_of}
use Rattle.calls_laws.proofs.Nesting.{Ends, Step, begins, ends, stands, Pass}
use Rattle.calls_laws.proofs.Sections.{place_at, place_first_part, place_last_part, distinct_row, row_below, in_row, is_tag, pass_row, member_middle, At, pass_at, closed_at, begin_first, mate_fits}
use Rattle.calls_laws.proofs.Depths.{Depths, depths_of}

-- THOSE OF A ROW by what holds of its members
module _ (f : ℕ → Bool) where
  pub those_same : (g : ℕ → Bool) (xs : List ℕ) → ((b : ℕ) → member b xs ≡ true → f b ≡ g b) → those f xs ≡ those g xs
  unfolding those
  those_same g [] each = refl
  those_same g (x ∷ xs) each = rw (each x (member_first x xs), those_same g xs (λ b m. each b (member_later b x xs m)))

  those_all : (xs : List ℕ) → ((b : ℕ) → member b xs ≡ true → f b ≡ true) → those f xs ≡ xs
  unfolding those
  those_all [] each = refl
  those_all (x ∷ xs) each = rw (each x (member_first x xs), those_all xs (λ b m. each b (member_later b x xs m)))

  pub those_none : (xs : List ℕ) → ((b : ℕ) → member b xs ≡ true → f b ≡ false) → those f xs ≡ []
  unfolding those
  those_none [] each = refl
  those_none (x ∷ xs) each = rw (each x (member_first x xs), those_none xs (λ b m. each b (member_later b x xs m)))

-- THE OPEN BEGINS, the outermost first, of which o is the innermost; around each are those before it
pub data Open (st : Store) : ℕ → List ℕ → Type 0 where
  none : {o : ℕ} {os : List ℕ} → o ≡ no_tag → os ≡ [] → Open st o os
  inner : {o : ℕ} {os : List ℕ} (outer : List ℕ) → os ≡ outer ++ (o ∷ []) → o < count st → is_begin (fact st o).kind ≡ true → around st o ≡ outer →
      Open st (fact st o).up outer → Open st o os

last_is : (xs : List ℕ) (x d : ℕ) → get_last_d (xs ++ (x ∷ [])) d ≡ x
unfolding get_last_d
last_is [] x d = refl
last_is (y ∷ []) x d = refl
last_is (y ∷ z ∷ zs) x d = last_is (z ∷ zs) x d

open_last : {st : Store} {o : ℕ} {os : List ℕ} → Open st o os → get_last_d os no_tag ≡ o
unfolding get_last_d
open_last (none e empty) = rw empty (sym e)
open_last {o} (inner outer e l b d rest) = rw e (last_is outer o no_tag)

record IsOpen (st : Store) (b n : ℕ) : Type 0 where
  tag : b < count st
  begin : is_begin (fact st b).kind ≡ true
  few : length (around st b) < n

each_open : {st : Store} {o : ℕ} {os : List ℕ} → Open st o os → (b : ℕ) → member b os ≡ true → IsOpen st b (length os)
each_open (none e empty) b m = absurd (true≢false (sym (rw empty at m) ∙ member_nil b))
each_open {st} {o} (inner outer e l k d rest) b m =
    let long : length (outer ++ (o ∷ [])) ≡ suc (length outer) = omega (arith, length-append outer (o ∷ [])) in
    rw (e, long) (by_test (member b outer)
    (λ t. let r = each_open rest b t in record { tag = r.tag; begin = r.begin; few = omega (arith, r.few) })
    (λ t. member_cases b o [] (rw (e, member_append b outer (o ∷ []), t) at m)
    (λ q. record { tag = rw q l; begin = rw q k; few = rw (q, d) (omega arith) })
    (λ q n. absurd (true≢false (sym n ∙ member_nil b)))))

-- A BEGIN'S MATE is an end, whose mate it is
pub ended : {D : Type 0} {st : Store} → SoundWith D st → (b : ℕ) → b < count st → is_begin (fact st b).kind ≡ true → Ends st.facts b (fact st b).mate (fact st b).up
unfolding is_begin
ended {st = st} h b l e = let a = pass_at h b l in go a a.step
  where
    go : (a : At st b) → Step st.facts no_tag a.before b a.behind → Ends st.facts b (fact st b).mate (fact st b).up
    go a (begins s) = (closed_at h b l a s).closes
    go a (ends shut s) = absurd (false≢true (rw s.kind at e))
    go a (stands s) = absurd (false≢true (rw s.kind at e))

-- a begin among the tags before place i is open there where its mate does not stand before it
abbrev still_open : Store → (i b : ℕ) → Bool
still_open st i b = is_begin (fact st b).kind && leb i (place_of st (fact st b).mate)

module _ {D : Type 0} {st : Store} (h : SoundWith D st) where
  place_one : (u v : ℕ) → u < count st → v < count st → place_of st u ≡ place_of st v → u ≡ v
  place_one u v k l e = sym (getD_place u (row st) 0 (in_row h u k)) ∙ (ap (λ i. get_or (row st) i 0) e ∙ getD_place v (row st) 0 (in_row h v l))

  -- past tag x it is open still where x is not its mate
  past : (x b : ℕ) → x < count st → b < count st → still_open st (suc (place_of st x)) b ≡ (still_open st (place_of st x) b && not (eqb (fact st b).mate x))
  past x b k l =
      let i = place_of st x in
      let m = (fact st b).mate in
      by_test (is_begin (fact st b).kind)
      (λ t. rw t (by_test (eqb m x)
      (λ s. rw (s, eqb-true m x s, lt-leb (suc i) i (omega arith)) (sym (and-false (leb i i))))
      (λ s. rw (s, and-true (leb i (place_of st m))) (by_test (leb i (place_of st m))
      (λ u. let apart : place_of st m ≡ i → ⊥ = λ q. eqb-false m x s (place_one m x (mate_fits h b l) k q) in
      rw (u, le-leb (suc i) (place_of st m) (omega (arith, leb-true i (place_of st m) u, apart))))
      (λ u. rw (u, lt-leb (suc i) (place_of st m) (omega (arith, leb-false i (place_of st m) u))))))))
      (λ t. rw t)

-- WHAT IS KNOWN OF A TAG before which d begins are open: those around it, that they are open there, and as many as its kind says
pub record Surrounded (st : Store) (d x : ℕ) : Type 0 where
  pub outer : List ℕ
  pub are : around st x ≡ outer
  pub many : own_depth (fact st x).kind d ≡ length outer
  pub chain : Open st (fact st x).up outer
  pub as_mate : is_end (fact st x).kind ≡ true → around st (fact st x).mate ≡ outer

-- and between the tags in front and the rest, where o is the innermost of d open begins
record Between (st : Store) (front : List ℕ) (o d : ℕ) : Type 0 where
  os : List ℕ
  are : those (still_open st (length front)) front ≡ os
  chain : Open st o os
  many : d ≡ length os

-- A STEP of the pass, at the tag x that comes next
module _ {D : Type 0} {st : Store} (h : SoundWith D st) (front rest : List ℕ) (x : ℕ) (whole : row st ≡ front ++ (x ∷ rest)) where
  own : x < count st
  own = row_below h x (rw whole (member_middle x front rest))

  here : place_of st x ≡ length front
  here = ap (place x) whole ∙ place_at front x rest (rw whole at (distinct_row h))

  front_below : (b : ℕ) → member b front ≡ true → b < count st
  front_below b m = row_below h b (rw (whole, member_append b front (x ∷ rest), m))

  -- those around it are the begins in front that are open past it
  abbrev left : List ℕ
  left = those (still_open st (suc (length front))) front

  around_left : around st x ≡ left
  unfolding around encloses
  around_left =
      let test : ℕ → Bool = λ b. is_begin (fact st b).kind && encloses st b x in
      let later = those_none test (x ∷ rest) (λ b m.
      rw (le-ltb (place_of st b) (place_of st x) (omega (arith, here, place_last_part (row st) front [] (x ∷ rest) whole (distinct_row h) b m)))
      (and-false (is_begin (fact st b).kind))) in
      let first = those_same test (still_open st (suc (length front))) front (λ b m.
      rw (lt-ltb (place_of st b) (place_of st x) (omega (arith, here, place_first_part (row st) front [] (x ∷ rest) whole (distinct_row h) b m)), here)) in
      ap (those test) whole ∙ (those_append test front (x ∷ rest) ∙ (rw (first, later) (append-nil left)))

  -- so all that were open but the one that x closes
  left_of : (os : List ℕ) → those (still_open st (length front)) front ≡ os → left ≡ those (λ b. not (eqb (fact st b).mate x)) os
  left_of os e =
      those_same (still_open st (suc (length front))) (λ b. still_open st (length front) b && not (eqb (fact st b).mate x)) front
      (λ b m. rw here at (past h x b own (front_below b m)))
      ∙ (sym (those_both (still_open st (length front)) (λ b. not (eqb (fact st b).mate x)) front) ∙ ap (those (λ b. not (eqb (fact st b).mate x))) e)

  -- and past it x is one of them if it is a begin
  after : those (still_open st (length (front ++ (x ∷ [])))) (front ++ (x ∷ [])) ≡ left ++ cond (is_begin (fact st x).kind) (x ∷ []) []
  unfolding those
  after =
      let long : length (front ++ (x ∷ [])) ≡ suc (length front) = omega (arith, length-append front (x ∷ [])) in
      rw (long, those_append (still_open st (suc (length front))) front (x ∷ [])) (by_test (is_begin (fact st x).kind)
      (λ t. rw (t, le-leb (suc (length front)) (place_of st (fact st x).mate) (omega (arith, here, begin_first h x own t))))
      (λ t. rw t))

  -- a begin or a text closes none; an end closes the innermost alone, since the others' ends are other tags
  kept : (o : ℕ) (os : List ℕ) → Open st o os → is_end (fact st x).kind ≡ false → those (λ b. not (eqb (fact st b).mate x)) os ≡ os
  unfolding is_end
  kept o os c other =
      those_all (λ b. not (eqb (fact st b).mate x)) os λ b m.
      let i = each_open c b m in
      rw (ne_eqb (fact st b).mate x (λ q. true≢false (rw (rw q at (ended h b i.tag i.begin).kind) at other)))

  closed : (o m : ℕ) (outer : List ℕ) → Ends st.facts o x m → around st o ≡ outer → Open st (fact st o).up outer →
      those (λ b. not (eqb (fact st b).mate x)) (outer ++ (o ∷ [])) ≡ outer
  unfolding those
  closed o m outer s d c =
      let test : ℕ → Bool = λ b. not (eqb (fact st b).mate x) in
      let others = those_all test outer (λ b k.
      let i = each_open c b k in
      let apart : b ≡ o → ⊥ = λ q. let same : length (around st b) ≡ length outer = rw (q, d) in omega (arith, i.few) in
      rw (ne_eqb (fact st b).mate x (λ q. apart (sym (ended h b i.tag i.begin).mate ∙ (rw q s.mate))))) in
      those_append test outer (o ∷ []) ∙ rw (others, eq-eqb (fact st o).mate x s.back) (append-nil outer)

  step : (o m d : ℕ) → Step st.facts no_tag o x m → Between st front o d → Surrounded st d x × Between st (front ++ (x ∷ [])) m (depth_after (fact st x).kind d)
  unfolding is_begin is_end own_depth opens_after depth_after
  step o m d (begins s) b =
      let os = b.os in
      let same = left_of os b.are ∙ kept o os b.chain (rw s.kind) in
      let are = around_left ∙ same in
      let around_x : Open st (fact st x).up os = rw s.up b.chain in (
        record { outer = os; are = are; many = rw s.kind b.many; chain = around_x; as_mate = λ e. absurd (false≢true (rw s.kind at e)) },
        record {
          os = os ++ (x ∷ []);
          are = after ∙ rw (same, s.kind);
          chain = rw s.next (inner os refl own (rw s.kind) are around_x);
          many = rw s.kind (omega (arith, b.many, length-append os (x ∷ [])));
        },
      )
  step o m d (ends shut s) b = go b.chain
    where
      go : Open st o b.os → Surrounded st d x × Between st (front ++ (x ∷ [])) m (depth_after (fact st x).kind d)
      go (none e empty) = absurd (shut e)
      go (inner outer e l k own_around c) =
          let same = left_of (outer ++ (o ∷ [])) (b.are ∙ e) ∙ closed o m outer s own_around c in
          let long : d ≡ suc (length outer) = omega (arith, b.many, ap length e, length-append outer (o ∷ [])) in
          let less : d - 1 ≡ length outer = omega arith in (
            record { outer = outer; are = around_left ∙ same; many = rw s.kind less; chain = rw s.up c; as_mate = λ _. rw s.mate own_around },
            record { os = outer; are = after ∙ rw (same, s.kind) (append-nil outer); chain = rw s.next c; many = rw s.kind less },
          )
  step o m d (stands s) b =
      let os = b.os in
      let same = left_of os b.are ∙ kept o os b.chain (rw s.kind) in (
        record {
          outer = os;
          are = around_left ∙ same;
          many = rw s.kind b.many;
          chain = rw s.up b.chain;
          as_mate = λ e. absurd (false≢true (rw s.kind at e));
        },
        record { os = os; are = after ∙ rw (same, s.kind) (append-nil os); chain = rw s.next b.chain; many = rw s.kind b.many },
      )

-- THE WHOLE ROW, where d begins are open before it
abbrev AllSurrounded : Store → (d : ℕ) → List ℕ → Type 0
AllSurrounded st d [] = Unit {0}
AllSurrounded st d (x ∷ xs) = Surrounded st d x × AllSurrounded st (depth_after (fact st x).kind d) xs

one_of : (st : Store) (d : ℕ) (xs : List ℕ) → AllSurrounded st d xs → (x : ℕ) → member x xs ≡ true → (e : ℕ) × Surrounded st e x
one_of st d [] all x m = absurd (true≢false (sym m ∙ member_nil x))
one_of st d (y ∷ ys) all x m = member_cases x y ys m (λ q. rw q (d, all.0)) (λ q later. one_of st (depth_after (fact st y).kind d) ys all.1 x later)

-- depths that are right count those around, and the other way round
depth_counts : (st : Store) (d e : ℕ) (xs : List ℕ) → AllSurrounded st d xs → Depths st.facts d xs e → (x : ℕ) → member x xs ≡ true → (fact st x).depth ≡ length (around st x)
depth_counts st d e [] all deep x m = absurd (true≢false (sym m ∙ member_nil x))
depth_counts st d e (y ∷ ys) all deep x m =
    let t = all.0 in
    member_cases x y ys m (λ q. rw (q, t.are) (deep.0 ∙ t.many)) (λ q later. depth_counts st (depth_after (fact st y).kind d) e ys all.1 deep.1 x later)

counts_right : (st : Store) (d : ℕ) (xs : List ℕ) → AllSurrounded st d xs → ((x : ℕ) → member x xs ≡ true → (fact st x).depth ≡ length (around st x)) →
    depths_right st.facts d xs ≡ true
unfolding depths_right
counts_right st d [] all each = refl
counts_right st d (y ∷ ys) all each =
    let t = all.0 in
    and_both (eq-eqb _ _ (each y (member_first y ys) ∙ (ap length t.are ∙ sym t.many)))
    (counts_right st (depth_after (fact st y).kind d) ys all.1 (λ x m. each x (member_later x y ys m)))

module _ {D : Type 0} {st : Store} (h : SoundWith D st) where
  along : (xs front : List ℕ) (o d : ℕ) → row st ≡ front ++ xs → Pass st.facts no_tag o xs no_tag → Between st front o d → AllSurrounded st d xs
  along [] front o d whole p b = tt
  along (y ∷ ys) front o d whole (n, s, p) b =
      let (there, next) = step h front ys y whole o n d s b in
      (there, along ys (front ++ (y ∷ [])) n _ (whole ∙ sym (append_snoc front y ys)) p next)

  all_surrounded : AllSurrounded st 0 (row st)
  unfolding those
  all_surrounded = along (row st) [] no_tag 0 refl (pass_row h) (record { os = []; are = refl; chain = none refl refl; many = refl })

  pub surrounded : (x : ℕ) → x < count st → (d : ℕ) × Surrounded st d x
  surrounded x l = one_of st 0 (row st) all_surrounded x (in_row h x l)

  -- depths that count those around are right
  pub counted : ((x : ℕ) → x < count st → (fact st x).depth ≡ length (around st x)) → depths_right st.facts 0 (row st) ≡ true
  counted each = counts_right st 0 (row st) all_surrounded (λ x m. each x (row_below h x m))

  -- the same are around mates
  mates_around : (x : ℕ) → x < count st → around st (fact st x).mate ≡ around st x
  unfolding is_begin is_end
  mates_around x l = let a = pass_at h x l in go a.before a.behind a.step
    where
      go : (o m : ℕ) → Step st.facts no_tag o x m → around st (fact st x).mate ≡ around st x
      go o m (begins s) =
          let c = ended h x l (rw s.kind) in
          let t = (surrounded (fact st x).mate (mate_fits h x l)).1 in
          t.are ∙ sym (rw c.mate at (t.as_mate (rw c.kind)))
      go o m (ends shut s) = let t = (surrounded x l).1 in t.as_mate (rw s.kind) ∙ sym t.are
      go o m (stands s) = rw s.mate

-- as many are around a tag as its depth says
pub depth_right : DepthRight
unfolding DepthRight
depth_right st x e l =
    let h = facts_of st e in
    let (last, deep) = depths_of st.facts 0 (row st) h.depths in
    depth_counts st 0 last (row st) (all_surrounded h) deep x (in_row h x l)

-- and up is the innermost
pub ups_innermost : UpsInnermost
unfolding UpsInnermost
ups_innermost st x e l = let t = (surrounded (facts_of st e) x l).1 in rw t.are (sym (open_last t.chain))

-- so depth goes by up
pub depth_up : DepthUp
unfolding DepthRight DepthUp
depth_up st x e l =
    let h = facts_of st e in
    let t = (surrounded h x l).1 in
    let deep = depth_right st x e l ∙ ap length t.are in
    let by_up = go h t deep t.chain in
    let mate = (fact st x).mate in
    record { top = by_up.0; inside = by_up.1; mates = depth_right st mate e (mate_fits h x l) ∙ (ap length (mates_around h x l) ∙ sym (depth_right st x e l)) }
  where
    go : {d : ℕ} → Sound st → (t : Surrounded st d x) → (fact st x).depth ≡ length t.outer → Open st (fact st x).up t.outer →
        ((fact st x).up ≡ no_tag → (fact st x).depth ≡ 0) × (((fact st x).up ≡ no_tag → ⊥) → (fact st x).depth ≡ suc (fact st (fact st x).up).depth)
    go h t deep (none q empty) = (λ _. deep ∙ rw empty, λ n. absurd (n q))
    go h t deep (inner outer q k b own c) = (
      λ n. absurd (is_tag h (fact st x).up k n),
      λ _. omega (arith, deep, ap length q, length-append outer ((fact st x).up ∷ []), depth_right st (fact st x).up e k, ap length own),
    )
