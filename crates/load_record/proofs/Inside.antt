-- What is carried of the open begins from tag to tag. Assumes nothing.
use mathlib.Core.Path.{◌≡◌, sym, ◌∙◌}
use mathlib.Core.Bool.{Bool, true, cond}
use mathlib.Core.List.{List}
use mathlib.Core.Logic.{◌⊎◌, ⊎_elim}
use Prim.Native.Nat.{ℕ, suc, ◌+◌, ◌-◌, ◌%◌, ◌<◌}
use native.Mathlib.Omega.{arith}
use borrow.Author.Tests.{eqb-true, eq-eqb, ne_eqb}
use lib.Dec.{eqb}
use Rattle.store_types.specs.Limits.{word_limit}
use Rattle.store_types.specs.Layout.{at_up, field, Room}
use Rattle.lists.proofs.Tests.{by_test}
use Rattle.words.proofs.Fields.{room}
use Rattle.kind_pick.proofs.PickLaws.{no_mark}
use Rattle.calls.specs.Kind.{kind_of, own_depth, opens_after, depth_after, is_begin, is_end}
use Rattle.load_record.specs.declared.Open as code
use Rattle.load_record.specs.declared.Row as rows
use Rattle.load_record.specs.Record.{KindNumber, place_written, new_mate, new_up, links_written, tag_written, open_behind, TagFits, AroundKnown, Opened}
use Rattle.load_record.proofs.OneTag.{OneMore, inner_more, up_kept}

-- WITHOUT A BRANCH, by the kind
pub mate_picked : (x c o m : ℕ) → KindNumber c → m ≡ cond (eqb (c % 16) 2) o x → m ≡ new_mate x c o
unfolding new_mate
mate_picked x c o m k e = rw (no_mark c k.low k.high) at e

pub up_picked : (c o a u : ℕ) (ws : List ℕ) → KindNumber c → u ≡ cond (eqb (c % 16) 2) a o → (c ≡ 2 → a ≡ field ws o at_up) → u ≡ new_up c o ws
unfolding new_up
up_picked c o a u ws k e known =
    let picked : u ≡ cond (eqb c 2) a o = rw (no_mark c k.low k.high) at e in
    by_test (eqb c 2) (λ f. rw f (rw f at picked ∙ known (eqb-true c 2 f))) (λ f. rw f (rw f at picked))

-- the kind of a number, by the same tests
kind_ends : (c : ℕ) → is_end (kind_of c) ≡ eqb c 2
unfolding kind_of is_end
kind_ends c = by_test (eqb c 1) (λ e. rw (eqb-true c 1 e)) (λ e. by_test (eqb c 2) (λ f. rw (e, f)) (λ f. rw (e, f)))

kind_begins : (c : ℕ) → is_begin (kind_of c) ≡ eqb c 1
unfolding kind_of is_begin
kind_begins c = by_test (eqb c 1) (λ e. rw e) (λ e. by_test (eqb c 2) (λ f. rw (e, f)) (λ f. rw (e, f)))

pub depth_picked : (c d v : ℕ) → KindNumber c → v ≡ cond (eqb (c % 16) 2) (d - 1) d → v ≡ own_depth (kind_of c) d
unfolding own_depth
depth_picked c d v k e = rw (kind_ends c) (rw (no_mark c k.low k.high) at e)

pub opened : (x c u d : ℕ) (v : code.Open) → KindNumber c → (b a : ℕ) (t : Bool) (m : ℕ) → b ≡ cond (eqb (c % 16) 1) x u → a ≡ cond (eqb (c % 16) 1) u v.around.0 →
    (t ≡ true → (c ≡ 1) ⊎ ((c ≡ 3) × (v.known ≡ true))) → m ≡ cond (eqb (c % 16) 1) (suc d) d →
    Opened x c u d v (record { begin = record { 0 = b }; around = record { 0 = a }; known = t; depth = m })
unfolding opens_after
opened x c u d v k b a t m e f known g =
    let plain = no_mark c k.low k.high in
    record { begin_is = rw plain at e; around_is = rw plain at f; known = known; depth_is = rw (kind_begins c) (rw plain at g) }

pub mate_room : {ws : List ℕ} {w : rows.Row} {x c o d m : ℕ} → TagFits ws w x c o d → m ≡ new_mate x c o → Room ws m
unfolding new_mate
mate_room {ws} {w} {x} {c} {o} t e =
    by_test (eqb c 2)
    (λ f. let is : _ ≡ o = rw f at e in rw is (room t.records (t.begun (eqb-true c 2 f))))
    (λ f. let is : _ ≡ x = rw f at e in rw is (room t.records t.below))

-- the number of begins open after a tag is a word
pub depth_small : {ws : List ℕ} {w : rows.Row} {x c o d m : ℕ} → TagFits ws w x c o d → m ≡ own_depth (kind_of c) d → suc m < word_limit
unfolding own_depth
depth_small {c = c} t e =
    by_test (is_end (kind_of c))
    (λ f. omega (arith, rw f at e, t.deep, t.below, t.records.few))
    (λ f. omega (arith, rw f at e, t.deep, t.below, t.records.few))

-- ONE TAG MORE
module _ (ws : List ℕ) (w : rows.Row) (x c a : ℕ) (v : code.Open) (t : TagFits ws w x c v.begin.0 v.depth) (h : AroundKnown ws x v) where
  -- where the tag stands, what was known is so still
  pub known_placed : v.known ≡ true → v.around.0 ≡ field (place_written w x c a ws) v.begin.0 at_up
  known_placed k =
      h.up k ∙ sym (up_kept ws w x c a v.begin.0 v.depth t.past t.below t.records.long (λ e. omega (arith, h.below k)))

  -- with its links the record is whole
  pub whole : (vs us : List ℕ) (m u d : ℕ) → vs ≡ place_written w x c a ws → m ≡ new_mate x c v.begin.0 → u ≡ new_up c v.begin.0 vs →
      d ≡ own_depth (kind_of c) v.depth → us ≡ links_written x m u d vs → us ≡ tag_written w x c a v.begin.0 v.depth ws
  unfolding tag_written
  whole vs us m u d placed e f deep g = g ∙ rw (e, f, deep, placed)

  module _ (q : code.Open) (u d : ℕ) (up_is : u ≡ new_up c v.begin.0 (place_written w x c a ws)) (o : Opened x c u d v q) where
    stays_up : (c ≡ 2 → ⊥) → u ≡ v.begin.0
    unfolding new_up
    stays_up inner = rw (ne_eqb c 2 inner) at up_is

    pub begin_behind : q.begin.0 ≡ open_behind w x c a v.begin.0 ws
    unfolding open_behind
    begin_behind = rw up_is at o.begin_is

    pub depth_behind : d ≡ own_depth (kind_of c) v.depth → q.depth ≡ depth_after (kind_of c) v.depth
    unfolding depth_after
    depth_behind e = rw e at o.depth_is

    pub known_behind : AroundKnown (tag_written w x c a v.begin.0 v.depth ws) (x + 1) q
    known_behind =
        record {
          up = λ k. ⊎_elim (λ e. begun e) (λ e. stays e) (o.known k);
          below = λ k. ⊎_elim (λ e. omega (arith, begun_is e)) (λ e. omega (arith, text_is e, h.below e.1)) (o.known k);
        }
      where
        more : (c ≡ 2 → ⊥) → OneMore w x c a x v.begin.0 (own_depth (kind_of c) v.depth) x ws (tag_written w x c a v.begin.0 v.depth ws)
        more inner = inner_more ws w x c a v.begin.0 v.depth t.past t.below t.records.long inner

        begun_is : c ≡ 1 → q.begin.0 ≡ x
        begun_is e = o.begin_is ∙ rw e

        text_is : (c ≡ 3) × (v.known ≡ true) → q.begin.0 ≡ v.begin.0
        text_is e = o.begin_is ∙ rw (ne_eqb c 1 (λ f. omega (arith, e.0))) (stays_up (λ f. omega (arith, e.0)))

        begun : c ≡ 1 → q.around.0 ≡ field (tag_written w x c a v.begin.0 v.depth ws) q.begin.0 at_up
        begun e =
            let inner : c ≡ 2 → ⊥ = λ f. omega arith in
            rw (begun_is e) (o.around_is ∙ rw (eq-eqb c 1 e) (stays_up inner ∙ sym (more inner).here.up_word))

        stays : (c ≡ 3) × (v.known ≡ true) → q.around.0 ≡ field (tag_written w x c a v.begin.0 v.depth ws) q.begin.0 at_up
        stays e =
            let inner : c ≡ 2 → ⊥ = λ f. omega (arith, e.0) in
            let other : v.begin.0 ≡ x → ⊥ = λ f. omega (arith, h.below e.1) in
            rw (text_is e) (o.around_is ∙ rw (ne_eqb c 1 (λ f. omega (arith, e.0))) (
            h.up e.1 ∙ sym ((more inner).kept v.begin.0 at_up (omega arith) (omega arith) other (λ f g. other f))))
