-- A party's call: what each end of the call replies and leaves. Assumes nothing.
use mathlib.Core.Path.{◌≡◌, refl}
use mathlib.Core.Bool.{Bool, true, false}
use mathlib.Core.List.{List}
use Prim.Native.Nat.{ℕ}
use borrow.Author.Tests.{eq-eqb, ne_eqb}
use Rattle.store_types.specs.Limits.{insert_right}
use Rattle.store_types.specs.declared.Act.{Act}
use Rattle.calls.specs.Replies.{refusal_over, question_reply, insert_reply, insert_words}
use Rattle.calls.specs.Rights.{is_allowed, turned_away, inserted_reply, allowed_reply, allowed_words, act_reply, act_words}
use Rattle.lists.proofs.Replied.{replied_refused}
use Rattle.store_refuse.proofs.Laws.{accepted_says}
use Rattle.party_rules.proofs.Replied.{by_refusal}
use Rattle.store_types.specs.declared.PartyAnswer.TheVariants as heard
use Rattle.std.specs.Prelude.{Result, Ok, Err}
use Rattle.store_types.specs.declared.Answer.{Answer}

module _ (t : Bool) (a : Act) (ws : List ℕ) where
  abbrev asked : Result Answer ℕ
  asked = question_reply a.pair a.tag.0 ws

  -- the words say no store: k is their refusal
  question_refused : {k : ℕ} → k ≡ refusal_over ws (λ st. 0) → (k ≡ 0 → ⊥) → Err k ≡ asked
  unfolding question_reply
  question_refused {k} e n = rw (← e) (replied_refused Err k _ n)

  pub unsaid_reply : {k : ℕ} → k ≡ refusal_over ws (λ st. 0) → (k ≡ 0 → ⊥) → Err k ≡ act_reply t a ws
  unfolding act_reply is_allowed turned_away
  unsaid_reply {k} e n = rw (← question_refused e n)

  pub unsaid_words : (refusal_over ws (λ st. 0) ≡ 0 → ⊥) → ws ≡ act_words t a ws
  unfolding act_words is_allowed
  unsaid_words n = rw (← question_refused refl n)

  pub away_reply : is_allowed t a asked ≡ false → turned_away asked ≡ act_reply t a ws
  unfolding act_reply
  away_reply left = rw left

  pub away_words : is_allowed t a asked ≡ false → ws ≡ act_words t a ws
  unfolding act_words
  away_words left = rw left

  module _ (taken : is_allowed t a asked ≡ true) where
    pub yes_reply : (a.right ≡ insert_right → ⊥) → Ok heard.Yes ≡ act_reply t a ws
    unfolding act_reply allowed_reply
    yes_reply n = rw (taken, ne_eqb a.right insert_right n)

    pub yes_words : (a.right ≡ insert_right → ⊥) → ws ≡ act_words t a ws
    unfolding act_words allowed_words
    yes_words n = rw (taken, ne_eqb a.right insert_right n)

    pub inserts_reply : a.right ≡ insert_right → inserted_reply (insert_reply a.kind a.tag.0 ws) ≡ act_reply t a ws
    unfolding act_reply allowed_reply
    inserts_reply right = rw (taken, eq-eqb a.right insert_right right)

    pub inserts_words : a.right ≡ insert_right → insert_words a.kind a.tag.0 ws ≡ act_words t a ws
    unfolding act_words allowed_words
    inserts_words right = rw (taken, eq-eqb a.right insert_right right)

pub ruleset of_a_party = (by_refusal, accepted_says, unsaid_reply, unsaid_words, away_reply, away_words, yes_reply, yes_words, inserts_reply, inserts_words)
