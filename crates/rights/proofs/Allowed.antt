-- A party's call replies yes or an insertion exactly where it is allowed, by what the question says (calls_laws: `pairs_right`). Assumes nothing.
use mathlib.Core.Path.{◌≡◌, refl, sym, ap, ◌∙◌}
use mathlib.Core.Bool.{Bool, true, false, ◌&&◌, ◌||◌, not, and-false, or-true, true≢false, false≢true}
use mathlib.Core.List.{List, [], ◌∷◌, ◌++◌}
use mathlib.Core.Logic.{◌⊎◌, inl, inr}
use Prim.Native.Nat.{ℕ, zero, suc, ◌<◌}
use native.Mathlib.Omega.{arith}
use borrow.Author.Tests.{eq-eqb, eqb-true, lt-leb}
use lib.Dec.{leb, eqb}
use lib.ListN.{length}
use Rattle.lists.specs.Lists.{first, some_holds}
use Rattle.lists.proofs.Tests.{by_test, and_left, and_right}
use Rattle.lists.specs.Fronts.{replied}
use Rattle.lists.proofs.Replied.{replied_accepted}
use Rattle.store_types.specs.Limits.{no_tag, insert_right}
use Rattle.store_types.specs.declared.Act.{Act}
use Rattle.store_types.specs.declared.Answer.{Answer}
use Rattle.store_types.specs.declared.Answer.TheVariants.{Yes, No, Stale}
use Rattle.store_types.specs.declared.Grant.{Grant}
use Rattle.store_types.specs.declared.TagId.{TagId}
use Rattle.calls.specs.Store.{Store, fact, count, place_of}
use Rattle.calls.specs.Insert.{place_tests, insert_refusal}
use Rattle.calls.specs.Held.{question}
use Rattle.calls.specs.Words.{Says}
use Rattle.calls.specs.Replies.{refusal_over, said, insert_refused, insert_reply, question_reply}
use Rattle.calls.specs.Rights.{gives, held, is_allowed, turned_away, inserted_reply, allowed_reply, act_reply, party_refused, party_reply}
use Rattle.calls.specs.Promise.{Encloses, Current, Asked, YesOrNo, PairsRight}
use Rattle.calls_laws.proofs.Pairs.{pairs_right}
use Rattle.calls_laws.proofs.Tests.{passes}
use Rattle.calls_laws.proofs.WordSteps.{said_store, refusal_said, refusal_passed}
use Rattle.rights.specs.Promise.{was_allowed, Given, Insertable, Allowed, AllowedExactly}
use Rattle.std.specs.Prelude.{Result, Ok, Err}
use Rattle.store_types.specs.Replies.{insert_made}

-- A LIVE GRANT gives the right where a search finds one
module _ (p x q : ℕ) where
  given_of : (c : ℕ) (gs : List Grant) → held p x q c gs ≡ true → Given p x q c gs
  unfolding held some_holds
  given_of zero gs e = absurd (false≢true e)
  given_of (suc c) [] e = absurd (false≢true e)
  given_of (suc c) (g ∷ gs) e =
      by_test (gives p x q g)
      (λ t. record { before = []; grant = g; behind = gs; stands = refl; lives = omega arith; right = t })
      (λ t. let later = given_of c gs (rw t at e) in
      record {
        before = g ∷ later.before;
        grant = later.grant;
        behind = later.behind;
        stands = ap (λ l. g ∷ l) later.stands;
        lives = omega (arith, later.lives);
        right = later.right;
      })

  found : (before : List Grant) (g : Grant) (behind : List Grant) (c : ℕ) → length before < c → gives p x q g ≡ true → held p x q c (before ++ (g ∷ behind)) ≡ true
  unfolding held some_holds
  found [] g behind zero l t = absurd (omega (arith, l))
  found [] g behind (suc c) l t = rw t
  found (f ∷ before) g behind zero l t = absurd (omega (arith, l))
  found (f ∷ before) g behind (suc c) l t = rw (found before g behind c (omega (arith, l)) t) (or-true (gives p x q f))

  held_of : (c : ℕ) (gs : List Grant) → Given p x q c gs → held p x q c gs ≡ true
  held_of c gs h = rw h.stands (found h.before h.grant h.behind c h.lives h.right)

-- WHAT IS TURNED AWAY was not allowed
away : (q : Result Answer ℕ) → was_allowed (turned_away q) ≡ false
unfolding was_allowed turned_away
away (Err k) = refl
away (Ok Yes) = refl
away (Ok No) = refl
away (Ok Stale) = refl

-- and what is allowed was answered with yes, or with no right behind the section's begin
abbrev AtBegin : Act → Type 0
AtBegin a = (a.right ≡ insert_right) × (a.tag.0 ≡ a.pair.tag.0)

allowed_by : (t : Bool) (a : Act) (q : Result Answer ℕ) → is_allowed t a q ≡ true → (t ≡ true) × ((q ≡ Ok Yes) ⊎ ((q ≡ Ok No) × AtBegin a))
unfolding is_allowed
allowed_by t a (Err k) e = absurd (false≢true e)
allowed_by t a (Ok Yes) e = (e, inl refl)
allowed_by t a (Ok No) e =
    let inserts = eqb a.right insert_right in
    let same = eqb a.tag.0 a.pair.tag.0 in
    let both = and_right t (inserts && same) e in
    (and_left t (inserts && same) e, inr (refl, (eqb-true _ _ (and_left inserts same both), eqb-true _ _ (and_right inserts same both))))
allowed_by t a (Ok Stale) e = absurd (false≢true e)

-- THE INSERTION of an allowed call
inserted_told : (k : ℕ) (x : TagId) (m h : ℕ) → was_allowed (inserted_reply (replied Err k (Ok (insert_made x m h)))) ≡ true → k ≡ 0
unfolding was_allowed inserted_reply replied
inserted_told zero x m h e = refl
inserted_told (suc k) x m h e = absurd (false≢true e)

insertable_of : (lent kind d : ℕ) (st : Store) → insert_refusal lent kind d st ≡ 0 → Insertable kind lent st
unfolding insert_refusal place_tests first
insertable_of lent kind d st e =
    let four = passes (not (eqb kind 1 || eqb kind 3)) 3 _ e in
    let eight = passes (not (eqb d no_tag) && leb (count st) d) 7 _ four.1 in
    let nine = passes (not (eqb d no_tag) && (fact st d).marked) 8 _ eight.1 in
    record { fits = one_of four.0; room = nine.1 }
  where
    one_of : not (eqb kind 1 || eqb kind 3) ≡ false → (kind ≡ 1) ⊎ (kind ≡ 3)
    one_of f =
        by_test (eqb kind 1) (λ t. inl (eqb-true _ _ t)) (λ t. by_test (eqb kind 3) (λ u. inr (eqb-true _ _ u)) (λ u. absurd (true≢false (rw (t, u) at f))))

insertable_test : (lent kind d : ℕ) (st : Store) → d < count st → (fact st d).marked ≡ false → Insertable kind lent st → insert_refusal lent kind d st ≡ 0
unfolding insert_refusal place_tests first
insertable_test lent kind d st l m h =
    rw (fitting h.fits, lt-leb (count st) d l, m, and-false (not (eqb d no_tag))) h.room
  where
    fitting : (kind ≡ 1) ⊎ (kind ≡ 3) → (eqb kind 1 || eqb kind 3) ≡ true
    fitting (inl e) = rw e
    fitting (inr e) = rw e

-- ALLOWED, on the store that the words say
module _ (p : ℕ) (a : Act) (c : ℕ) (gs : List Grant) (ws : List ℕ) where
  abbrev x : ℕ
  x = a.pair.tag.0

  abbrev d : ℕ
  d = a.tag.0

  abbrev q : Result Answer ℕ
  q = question_reply a.pair d ws

  -- an answer is that of the store
  answered : (w : Answer) → q ≡ Ok w → Says ws (said ws) × (question a.pair d (said ws) ≡ Ok w)
  unfolding question_reply
  answered w e =
      let (z, same) = replied_accepted Err (refusal_over ws (λ st. 0)) (question a.pair d (said ws)) (Ok w)
      (λ i f. let n : ◌≡◌ {A = ℕ} 0 1 = cc in omega arith) e in
      ((refusal_passed ws (λ st. 0) z).0, same)

  -- an allowed insertion that is made passes its own tests
  made : was_allowed (allowed_reply a ws) ≡ true → a.right ≡ insert_right → Insertable a.kind (length ws) (said ws)
  unfolding allowed_reply insert_reply insert_refused
  made e r =
      let z = inserted_told (insert_refused a.kind d ws) _ _ _ (rw (eq-eqb a.right insert_right r) at e) in
      insertable_of (length ws) a.kind d (said ws) (refusal_passed ws (insert_refusal (length ws) a.kind d) z).1

  allowed_from : {A : Type 0} → party_refused p a c (length gs) ≡ 0 → held p x a.right c gs ≡ true → was_allowed (allowed_reply a ws) ≡ true → Says ws (said ws) → YesOrNo a.pair d (said ws) A →
      Encloses (said ws) x d ⊎ AtBegin a → Allowed p a c gs ws
  allowed_from range granted e says h inside =
      record {
        in_range = range;
        store = said ws;
        says = says;
        asked = h.asked;
        current = h.current;
        unmarked = h.unmarked;
        given = given_of p x a.right c gs granted;
        inside = inside;
        insertable = made e;
      }

  by_answer : party_refused p a c (length gs) ≡ 0 → held p x a.right c gs ≡ true → was_allowed (allowed_reply a ws) ≡ true → (q ≡ Ok Yes) ⊎ ((q ≡ Ok No) × AtBegin a) → Allowed p a c gs ws
  unfolding PairsRight
  by_answer range granted e (inl same) =
      let (says, same) = answered Yes same in
      let h = (pairs_right a.pair d (said ws)).if_yes.0 same in allowed_from range granted e says h (inl h.tells)
  by_answer range granted e (inr (same, begin)) =
      let (says, same) = answered No same in
      allowed_from range granted e says ((pairs_right a.pair d (said ws)).if_no.0 same) (inr begin)

  forward : was_allowed (party_reply p a c gs ws) ≡ true → Allowed p a c gs ws
  unfolding party_reply act_reply allowed_reply replied was_allowed
  forward e = go (party_refused p a c (length gs)) refl e
    where
      go : (k : ℕ) → party_refused p a c (length gs) ≡ k → was_allowed (replied Err k (act_reply (held p x a.right c gs) a ws)) ≡ true → Allowed p a c gs ws
      go (suc k) range f = absurd (false≢true f)
      go zero range f =
          by_test (is_allowed (held p x a.right c gs) a q)
          (λ t. let by = allowed_by (held p x a.right c gs) a q t in by_answer range by.0 (rw t at f) by.1)
          (λ t. absurd (true≢false (sym (rw t at f) ∙ away q)))

  -- and back, on any store that the words say
  module _ (st : Store) (says : Says ws st) (pair : Asked a.pair d st) (now : Current a.pair st) (free : (fact st d).marked ≡ false) where
    answers : (w : Answer) → question a.pair d st ≡ Ok w → q ≡ Ok w
    unfolding question_reply replied
    answers w e = rw (refusal_said ws st says (λ su. 0), said_store ws st says) e

    yes_or_begin : Encloses st x d ⊎ AtBegin a → is_allowed true a q ≡ true
    unfolding PairsRight Encloses is_allowed
    yes_or_begin (inl enclosed) =
        rw (answers Yes ((pairs_right a.pair d st).if_yes.1 (record { asked = pair; current = now; unmarked = free; tells = enclosed })))
    yes_or_begin (inr begin) =
        let outside : Encloses st x d → ⊥ = λ i. let own : place_of st x < place_of st x = rw begin.1 at i.0 in omega (arith, own) in
        rw (answers No ((pairs_right a.pair d st).if_no.1 (record { asked = pair; current = now; unmarked = free; tells = outside })), eq-eqb a.right insert_right begin.0, eq-eqb d x begin.1)

    goes_in : (a.right ≡ insert_right → Insertable a.kind (length ws) st) → was_allowed (allowed_reply a ws) ≡ true
    unfolding allowed_reply insert_reply insert_refused inserted_reply was_allowed replied
    goes_in fits =
        by_test (eqb a.right insert_right)
        (λ t. rw (t, refusal_said ws st says (insert_refusal (length ws) a.kind d), insertable_test (length ws) a.kind d st pair.other free (fits (eqb-true _ _ t))))
        (λ t. rw t)

  backward : Allowed p a c gs ws → was_allowed (party_reply p a c gs ws) ≡ true
  unfolding party_reply act_reply replied
  backward h =
      rw (h.in_range, held_of p x a.right c gs h.given, yes_or_begin h.store h.says h.asked h.current h.unmarked h.inside)
      (goes_in h.store h.says h.asked h.current h.unmarked h.insertable)

pub allowed_exactly : AllowedExactly
unfolding AllowedExactly
allowed_exactly p a c gs ws = (forward p a c gs ws, backward p a c gs ws)
