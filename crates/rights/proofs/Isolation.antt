-- Calls that change nothing may be left out of a history; and a party without a live grant changes nothing. Assumes nothing.
use mathlib.Core.Path.{◌≡◌, refl, ap, ◌∙◌}
use mathlib.Core.Bool.{Bool, true, false}
use mathlib.Core.List.{List, [], ◌∷◌}
use Prim.Native.Nat.{ℕ, zero, suc}
use lib.Dec.{eqb}
use lib.ListN.{length}
use Rattle.lists.specs.Lists.{some_holds}
use Rattle.lists.proofs.Tests.{and_left}
use Rattle.lists.proofs.Those.{none_stronger}
use Rattle.lists.specs.Fronts.{replied}
use Rattle.store_types.specs.declared.Act.{Act}
use Rattle.store_types.specs.declared.Answer.TheVariants.{Yes, No, Stale}
use Rattle.calls.specs.Replies.{question_reply}
use Rattle.calls.specs.Rights.{names, gives, held, is_allowed, act_words, party_refused, party_words}
use Rattle.system.specs.System.{System, live, Call, reply, with_words, step}
use Rattle.system.specs.Histories.{Entry, with_extras, without, afterwards, replies, shared_replies, AllPowerless}
use Rattle.rights.specs.Promise.{Powerless, Isolation}
use Rattle.std.specs.Prelude.{Result, Ok, Err}
use Rattle.store_types.specs.declared.Answer.{Answer}

-- ANY HISTORIES, where calls of a kind leave the system as it is
module _ {C Y Q : Type 0} (step : C → Y → Y) (reply : C → Y → Q) (P : C → Y → Type 0) (still : (c : C) (y : Y) → P c y → step c y ≡ y) where
  abbrev Isolated : List (Entry C) → Y → Type 0
  Isolated es y = (afterwards step (with_extras es) y ≡ afterwards step (without es) y) × (shared_replies step reply es y ≡ replies step reply (without es) y)

  one : (c : C) (t : Bool) (es : List (Entry C)) (y : Y) → (t ≡ true → P c y) → Isolated es (step c y) → Isolated (record { call = c; extra = t } ∷ es) y
  unfolding with_extras without afterwards replies shared_replies
  one c true es y p h = let e = still c y (p refl) in (h.0 ∙ ap (afterwards step (without es)) e, h.1 ∙ ap (replies step reply (without es)) e)
  one c false es y p h = (h.0, ap (λ (qs : List Q). reply c y ∷ qs) h.1)

  isolated : (es : List (Entry C)) (y : Y) → AllPowerless step P es y → Isolated es y
  unfolding with_extras without afterwards replies shared_replies AllPowerless
  isolated [] y p = (refl, refl)
  isolated (e ∷ es) y p = one e.call e.extra es y p.0 (isolated es (step e.call y) p.1)

-- A PARTY WITHOUT A GRANT is allowed nothing
never : (a : Act) (q : Result Answer ℕ) → is_allowed false a q ≡ false
unfolding is_allowed
never a (Err k) = refl
never a (Ok Yes) = refl
never a (Ok No) = refl
never a (Ok Stale) = refl

not_held : (p x q : ℕ) (y : System) → some_holds (λ g. eqb g.party p) (live y) ≡ false → held p x q y.count y.grants ≡ false
unfolding held gives names
not_held p x q y none =
    none_stronger (λ g. eqb g.party p) (gives p x q)
    (λ g t. and_left (eqb g.party p) (eqb g.section x) (and_left (names p x g) _ t)) (live y) none

words_stay : (p : ℕ) (a : Act) (y : System) → some_holds (λ g. eqb g.party p) (live y) ≡ false → party_words p a y.count y.grants y.words ≡ y.words
unfolding party_words act_words replied
words_stay p a y none = go (party_refused p a y.count (length y.grants))
  where
    go : (k : ℕ) → replied (λ _. y.words) k (act_words (held p a.pair.tag.0 a.right y.count y.grants) a y.words) ≡ y.words
    go zero = rw (not_held p a.pair.tag.0 a.right y none, never a (question_reply a.pair a.tag.0 y.words))
    go (suc k) = refl

still : (c : Call) (y : System) → Powerless c y → step c y ≡ y
unfolding step with_words
still c y h = rw (h.call_is, words_stay h.party h.asks_for y h.no_grant)

pub isolation : Isolation
unfolding Isolation
isolation y es p = let h = isolated step reply Powerless still es y p in record { systems = h.0; same_replies = h.1 }
