-- Words and the refusals that every call on a store begins with: which refusal they give by the walk's verdict, and what each
-- word of accepted words says of their store. Assumes nothing.
use mathlib.Core.Path.{◌≡◌, refl, sym, ◌∙◌}
use mathlib.Core.Bool.{Bool, true, false, cond}
use mathlib.Core.List.{List}
use mathlib.Core.Option.{Option, none, some}
use Prim.Native.Nat.{ℕ, ◌%◌, ◌≤◌, ◌<◌}
use native.Mathlib.Omega.{arith}
use borrow.Author.Tests.{lt-ltb, le-ltb, le-leb, lt-leb, ne_eqb}
use lib.Dec.{ltb, leb, eqb}
use lib.ListN.{length}
use Rattle.lists.specs.Lists.{first}
use Rattle.std.specs.Prelude.{Result, Err}
use Rattle.store_types.specs.declared.refusal.Refusal.{Refusal}
use Rattle.store_types.specs.Replies.{refusal_in}
use Rattle.store_types.specs.Layout.{at_count, header_words, at_kind, word_at, field, Room}
use Rattle.lists.proofs.Tests.{by_test}
use Rattle.words.proofs.Fields.{header_fits, record_room}
use Rattle.calls.specs.Kind.{Kind, begin, end, text, code, kind_word, is_begin, is_end}
use Rattle.calls.specs.Store.{Store, fact, count}
use Rattle.calls.specs.Mark.{section_tests, section_refusal}
use Rattle.calls.specs.Words.{Says, read}
use Rattle.calls.specs.Replies.{on_store, refusal_over, said}
use Rattle.calls.proofs.Checks.{not_passed, check_told}
use Rattle.calls_laws.proofs.Tests.{Sound, facts_of}
use Rattle.calls_laws.proofs.Fields.{TagSays, tag_says}
use Rattle.calls_laws.proofs.Sections.{mate_fits}
use Rattle.calls_laws.proofs.WordSteps.{words_fit, refusal_said, refusal_passed, header_said}
use Rattle.walk_model.specs.Walk.{words_pass}
use Rattle.walk_model.proofs.Decides.{passes_says, fails_none}
use Rattle.store_refuse.specs.Needs.{TagSaid}

-- REFUSALS, by the walk's verdict
module _ (ws : List ℕ) (f : Store → ℕ) where
  pub refused_short : length ws < header_words → refusal_over ws f ≡ 1
  unfolding refusal_over
  refused_short l = rw (lt-ltb (length ws) header_words l)

  pub refused_unsound : header_words ≤ length ws → words_pass ws ≡ false → refusal_over ws f ≡ 2
  unfolding refusal_over on_store
  refused_unsound l e = rw (le-ltb (length ws) header_words l, fails_none ws e)

  pub refused_said : Says ws (said ws) → refusal_over ws f ≡ f (said ws)
  refused_said h = refusal_said ws (said ws) h f

  pub refused_passing : words_pass ws ≡ true → refusal_over ws f ≡ f (said ws)
  refused_passing e = refused_said (passes_says ws e)

  -- words that are not refused say their store, and its own tests pass
  pub accepted_says : refusal_over ws f ≡ 0 → Says ws (said ws)
  accepted_says e = (refusal_passed ws f e).0

  pub accepted_store : refusal_over ws f ≡ 0 → f (said ws) ≡ 0
  accepted_store e = (refusal_passed ws f e).1

-- and that is sound
pub sound_said : (ws : List ℕ) → Says ws (said ws) → Sound (said ws)
unfolding Says
sound_said ws h = facts_of (said ws) h.0

-- a refusal k of words by f is also by g, where g refuses each store as f does
pub refused_first : (ws : List ℕ) (f g : Store → ℕ) (k : ℕ) → ((st : Store) → (f st ≡ 0 → ⊥) → g st ≡ f st) → k ≡ refusal_over ws f → (k ≡ 0 → ⊥) →
    k ≡ refusal_over ws g
unfolding refusal_over on_store
refused_first ws f g k same e n =
    e ∙ by_test (ltb (length ws) header_words) (λ t. rw t) (λ t. rw t (go (read ws) (λ z. n (e ∙ rw t z))))
  where
    go : (o : Option Store) → (on_store o f ≡ 0 → ⊥) → on_store o f ≡ on_store o g
    go none m = refl
    go (some st) m = sym (same st m)

-- above all, what the words alone refuse every call refuses
pub words_first : (ws : List ℕ) (g : Store → ℕ) (k : ℕ) → k ≡ refusal_over ws (λ st. 0) → (k ≡ 0 → ⊥) → k ≡ refusal_over ws g
words_first ws g k = refused_first ws (λ st. 0) g k (λ st n. absurd (n refl))

pub words_told : (A : Type 0) (r : Refusal) (ws : List ℕ) (g : Store → ℕ) → refusal_in {A = A} (Err r) ≡ refusal_over ws (λ st. 0) → {B : Type 0} (p : Result B Refusal) →
    p ≡ Err r → refusal_in p ≡ refusal_over ws g
words_told A r ws g e p same = words_first ws g (refusal_in p) (check_told A r _ e p same) (λ z. not_passed A r _ e (sym (check_told A r _ e p same) ∙ z))

-- THE KIND WORD
pub record KindSays (c : ℕ) (k : Kind) (m : Bool) : Type 0 where
  pub marks : leb 16 c ≡ m
  pub begins : eqb (c % 16) 1 ≡ is_begin k
  pub ends : eqb (c % 16) 2 ≡ is_end k

pub kind_says : (k : Kind) (m : Bool) → KindSays (kind_word k m) k m
unfolding kind_word code is_begin is_end
kind_says begin true = record { marks = refl; begins = refl; ends = refl }
kind_says begin false = record { marks = refl; begins = refl; ends = refl }
kind_says end true = record { marks = refl; begins = refl; ends = refl }
kind_says end false = record { marks = refl; begins = refl; ends = refl }
kind_says text true = record { marks = refl; begins = refl; ends = refl }
kind_says text false = record { marks = refl; begins = refl; ends = refl }

-- A TAG of the store that words say
tag_said : (ws : List ℕ) (st : Store) (x : ℕ) → Says ws st → x < count st → TagSays ws st x
unfolding Says
tag_said ws st x h l = rw h.1.1 (tag_says st h.1.0 x l)

module _ {ws : List ℕ} {x : ℕ} (h : TagSaid ws x) where
  pub words_of_tag : TagSays ws (said ws) x
  words_of_tag = tag_said ws (said ws) x h.says h.tag

  pub kind_of_tag : KindSays (field ws x at_kind) (fact (said ws) x).kind (fact (said ws) x).marked
  kind_of_tag = rw words_of_tag.kind_is (kind_says (fact (said ws) x).kind (fact (said ws) x).marked)

  pub tag_room : Room ws x
  tag_room = record_room (count (said ws)) x ws (words_fit ws (said ws) h.says) h.tag

  pub mate_of_tag : TagSaid ws (fact (said ws) x).mate
  mate_of_tag = record { says = h.says; tag = mate_fits (sound_said ws h.says) x h.tag }

-- THE HEADER of words that say a store, and which numbers are its tags
module _ (ws : List ℕ) (says : Says ws (said ws)) where
  pub header_room : header_words ≤ length ws
  header_room = omega (arith, words_fit ws (said ws) says, header_fits (count (said ws)))

  pub tag_below : (x : ℕ) → x < word_at ws at_count → TagSaid ws x
  tag_below x l = record { says = says; tag = omega (arith, (header_said ws (said ws) says).issued) }

  pub no_tag_from : (x : ℕ) → word_at ws at_count ≤ x → leb (count (said ws)) x ≡ true
  no_tag_from x l = le-leb (count (said ws)) x (omega (arith, (header_said ws (said ws) says).issued))

-- THE REFUSALS of mark and hold
module _ (ws : List ℕ) (x : ℕ) where
  pub section_unknown : Says ws (said ws) → word_at ws at_count ≤ x → refusal_over ws (section_refusal x) ≡ 8
  unfolding section_refusal section_tests first
  section_unknown says l = refused_said ws (section_refusal x) says ∙ rw (no_tag_from ws says x l)

  tag_refused : TagSaid ws x → refusal_over ws (section_refusal x) ≡ cond (leb 16 (field ws x at_kind)) 9 (cond (eqb (field ws x at_kind % 16) 2) 10 0)
  unfolding section_refusal section_tests first
  tag_refused h =
      refused_said ws (section_refusal x) h.says
      ∙ rw (lt-leb (count (said ws)) x h.tag, (kind_of_tag h).marks, (kind_of_tag h).ends)

  pub section_marked : TagSaid ws x → 16 ≤ field ws x at_kind → refusal_over ws (section_refusal x) ≡ 9
  section_marked h m = tag_refused h ∙ rw (le-leb 16 (field ws x at_kind) m)

  pub section_ends : TagSaid ws x → field ws x at_kind < 16 → field ws x at_kind ≡ 2 → refusal_over ws (section_refusal x) ≡ 10
  section_ends h m e = tag_refused h ∙ rw (lt-leb 16 (field ws x at_kind) m, e)

  pub section_accepted : TagSaid ws x → field ws x at_kind < 16 → (field ws x at_kind ≡ 2 → ⊥) → refusal_over ws (section_refusal x) ≡ 0
  section_accepted h m n = tag_refused h ∙ rw (lt-leb 16 (field ws x at_kind) m, ne_eqb (field ws x at_kind % 16) 2 (λ e. n (omega arith)))
