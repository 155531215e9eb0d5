-- The refusals of list: those before 11 by what the words say, and where they come to 11. Assumes nothing.
use mathlib.Core.Path.{◌≡◌, refl, ◌∙◌}
use mathlib.Core.Bool.{true, false, ◌||◌, not, cond}
use mathlib.Core.List.{List, [], ◌∷◌}
use Prim.Native.Nat.{ℕ, ◌%◌, ◌≤◌, ◌<◌}
use native.Mathlib.Omega.{arith}
use borrow.Author.Tests.{le-leb, lt-leb, leb-false, ne_eqb, not-false}
use lib.Dec.{ltb, leb, eqb}
use lib.ListN.{length}
use Rattle.lists.specs.Lists.{all_hold, first}
use Rattle.store_types.specs.Limits.{no_tag}
use Rattle.store_types.specs.Layout.{at_count, at_kind, word_at, field}
use Rattle.lists.proofs.Tests.{by_test}
use Rattle.lists.proofs.First.{refused_before, refused_behind}
use Rattle.calls.specs.Kind.{is_begin}
use Rattle.calls.specs.Store.{Store, fact, count}
use Rattle.calls.specs.Listing.{listed_tags, inside_tests, list_refusal}
use Rattle.calls.specs.Words.{Says}
use Rattle.calls.specs.Replies.{refusal_over, said}
use Rattle.store_refuse.specs.Needs.{TagSaid}
use Rattle.list_call.specs.Needs.{inside_refusal}
use Rattle.calls_laws.proofs.Tests.{passes}
use Rattle.store_refuse.proofs.Laws.{refused_said, kind_of_tag, no_tag_from}

-- REFUSALS: those before 11, and where there is none of them
module _ (t l x : ℕ) (st : Store) where
  pub list_refused_first : (inside_refusal x st ≡ 0 → ⊥) → list_refusal t l x st ≡ inside_refusal x st
  unfolding list_refusal inside_refusal
  list_refused_first = refused_before (inside_tests x st) _

  pub list_refused_last : inside_refusal x st ≡ 0 →
      list_refusal t l x st ≡ cond (ltb t (length (listed_tags x st)) || ltb l (length (listed_tags x st))) 11 0
  unfolding list_refusal inside_refusal inside_tests first all_hold
  list_refused_last = refused_behind (inside_tests x st) ((ltb t (length (listed_tags x st)) || ltb l (length (listed_tags x st)), 11) ∷ []) refl

-- an accepted section is the front, or a begin
pub record BeginAccepted (x : ℕ) (st : Store) : Type 0 where
  pub other : eqb x no_tag ≡ false
  pub tag : x < count st
  pub begins : is_begin (fact st x).kind ≡ true

pub accepted_inside : {G : Type 0} (x : ℕ) (st : Store) → inside_refusal x st ≡ 0 → (eqb x no_tag ≡ true → G) → (BeginAccepted x st → G) → G
unfolding inside_refusal inside_tests first
accepted_inside x st z front inner =
    by_test (eqb x no_tag) front
    (λ e. let a = passes (leb (count st) x) 7 _ (rw e at z) in
    let b = passes (fact st x).marked 8 _ a.1 in
    let c = passes (not (is_begin (fact st x).kind)) 9 0 b.1 in
    inner (record { other = e; tag = leb-false _ _ a.0; begins = not-false _ c.0 }))

-- BY THE WORDS, before 11
module _ (ws : List ℕ) (x : ℕ) where
  pub inside_front : Says ws (said ws) → eqb x no_tag ≡ true → refusal_over ws (inside_refusal x) ≡ 0
  unfolding inside_refusal inside_tests first
  inside_front says t = refused_said ws (inside_refusal x) says ∙ rw t

  module _ (other : eqb x no_tag ≡ false) where
    pub inside_unknown : Says ws (said ws) → word_at ws at_count ≤ x → refusal_over ws (inside_refusal x) ≡ 8
    unfolding inside_refusal inside_tests first
    inside_unknown says l = refused_said ws (inside_refusal x) says ∙ rw (other, no_tag_from ws says x l)

    inside_tag : TagSaid ws x → refusal_over ws (inside_refusal x) ≡ cond (leb 16 (field ws x at_kind)) 9 (cond (not (eqb (field ws x at_kind % 16) 1)) 10 0)
    unfolding inside_refusal inside_tests first
    inside_tag h =
        refused_said ws (inside_refusal x) h.says
        ∙ rw (other, lt-leb (count (said ws)) x h.tag, (kind_of_tag h).marks, (kind_of_tag h).begins)

    pub inside_marked : TagSaid ws x → 16 ≤ field ws x at_kind → refusal_over ws (inside_refusal x) ≡ 9
    inside_marked h m = inside_tag h ∙ rw (le-leb 16 (field ws x at_kind) m)

    pub inside_no_begin : TagSaid ws x → field ws x at_kind < 16 → (field ws x at_kind ≡ 1 → ⊥) → refusal_over ws (inside_refusal x) ≡ 10
    inside_no_begin h m n = inside_tag h ∙ rw (lt-leb 16 (field ws x at_kind) m, ne_eqb (field ws x at_kind % 16) 1 (λ e. n (omega arith)))

    pub inside_accepted : TagSaid ws x → field ws x at_kind < 16 → field ws x at_kind ≡ 1 → refusal_over ws (inside_refusal x) ≡ 0
    inside_accepted h m e = inside_tag h ∙ rw (lt-leb 16 (field ws x at_kind) m, e)
