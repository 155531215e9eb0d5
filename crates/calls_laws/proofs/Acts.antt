-- A party's call over words (document 02, CR 6): where it replies an insertion it is that insertion, and otherwise it leaves every
-- word. Assumes nothing.
use mathlib.Core.Path.{◌≡◌, refl}
use mathlib.Core.Bool.{Bool, true, false, cond}
use mathlib.Core.List.{List}
use Prim.Native.Nat.{ℕ, zero, suc}
use native.Mathlib.Omega.{arith}
use lib.Dec.{eqb}
use lib.ListN.{length}
use Rattle.store_types.specs.Limits.{insert_right}
use Rattle.store_types.specs.declared.Act.{Act}
use Rattle.store_types.specs.declared.Answer.TheVariants.{Yes, No, Stale}
use Rattle.store_types.specs.declared.Grant.{Grant}
use Rattle.store_types.specs.declared.TagId.{TagId}
use Rattle.lists.specs.Fronts.{replied, written}
use Rattle.calls.specs.Replies.{insert_refused, insert_reply, insert_words, question_reply}
use Rattle.calls.specs.Rights.{held, is_allowed, turned_away, inserted_reply, allowed_reply, allowed_words, act_reply, act_words, party_refused, party_reply, party_words}
use Rattle.store_types.specs.declared.PartyAnswer.TheVariants as heard
use Rattle.std.specs.Prelude.{Result, Ok, Err}
use Rattle.store_types.specs.Replies.{insert_made}
use Rattle.store_types.specs.declared.Inserted.{Inserted}
use Rattle.store_types.specs.declared.PartyAnswer.{PartyAnswer}
use Rattle.store_types.specs.declared.Answer.{Answer}

-- what a reply tells of the words before and after
unfoldable pub Acted : Result PartyAnswer ℕ → Act → (before after : List ℕ) → Type 0
Acted (Ok (heard.Inserted i)) a ws us = (Ok i ≡ insert_reply a.kind a.tag.0 ws) × (us ≡ insert_words a.kind a.tag.0 ws)
Acted (Err k) a ws us = us ≡ ws
Acted (Ok heard.Yes) a ws us = us ≡ ws
Acted (Ok heard.Stale) a ws us = us ≡ ws

module _ (a : Act) (ws : List ℕ) where
  -- one of two by a test, and by a refusal
  by_cond : (t : Bool) (q p : Result PartyAnswer ℕ) (us vs : List ℕ) → Acted q a ws us → Acted p a ws vs → Acted (cond t q p) a ws (cond t us vs)
  by_cond true q p us vs f g = f
  by_cond false q p us vs f g = g

  by_refusal : (k : ℕ) (q : Result PartyAnswer ℕ) (us : List ℕ) → Acted q a ws us → Acted (replied Err k q) a ws (replied (λ _. ws) k us)
  unfolding Acted replied
  by_refusal zero q us f = f
  by_refusal (suc k) q us f = refl

  turned : (q : Result Answer ℕ) → Acted (turned_away q) a ws ws
  unfolding Acted turned_away
  turned (Err k) = refl
  turned (Ok Yes) = refl
  turned (Ok No) = refl
  turned (Ok Stale) = refl

  -- a refused insertion leaves the words
  stays : (k i : ℕ) (x : TagId) (m h : ℕ) (new : List ℕ) → Err i ≡ replied Err k (Ok (insert_made x m h)) → written k new ws ≡ ws
  unfolding written replied
  stays zero i x m h new e = absurd (let z : ◌≡◌ {A = ℕ} 0 1 = cc in omega arith)
  stays (suc k) i x m h new e = refl

  inserted : (q : Result Inserted ℕ) → q ≡ insert_reply a.kind a.tag.0 ws → Acted (inserted_reply q) a ws (insert_words a.kind a.tag.0 ws)
  unfolding Acted inserted_reply insert_reply insert_words
  inserted (Ok i) e = (e, refl)
  inserted (Err i) e = stays (insert_refused a.kind a.tag.0 ws) i _ _ _ _ e

  acted : (t : Bool) → Acted (act_reply t a ws) a ws (act_words t a ws)
  unfolding act_reply act_words allowed_reply allowed_words Acted
  acted t =
      let q = question_reply a.pair a.tag.0 ws in
      by_cond (is_allowed t a q) _ _ _ _ (by_cond (eqb a.right insert_right) _ _ _ _ (inserted _ refl) refl) (turned q)

-- the whole call
pub act_happened : (p : ℕ) (a : Act) (c : ℕ) (gs : List Grant) (q : Result PartyAnswer ℕ) (ws : List ℕ) → q ≡ party_reply p a c gs ws → Acted q a ws (party_words p a c gs ws)
unfolding party_reply party_words
act_happened p a c gs q ws reply =
    rw reply (by_refusal a ws (party_refused p a c (length gs)) _ _ (acted a ws (held p a.pair.tag.0 a.right c gs)))
