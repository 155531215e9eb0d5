-- A check that a call begins with, whose refusal `?` gives on: the call has this refusal, and its words stay as they were.
-- Assumes nothing.
use Rattle.std.proofs.Common.{◌≡◌, ℕ, List}
use Rattle.std.specs.Prelude.{Result, Err}
use Rattle.store_types.specs.declared.refusal.Refusal.{Refusal}
use Rattle.store_types.specs.Replies.{number_of, numbered, refusal_in}
use Rattle.store_types.proofs.Replies.{some_number}
use Rattle.lists.specs.Fronts.{replied, written}
use Rattle.lists.proofs.Replied.{replied_refused, written_refused}

module _ (A : Type 0) (r : Refusal) (k : ℕ) (e : refusal_in {A = A} (Err r) ≡ k) where
  pub not_passed : k ≡ 0 → ⊥
  unfolding refusal_in
  not_passed = rw (← e) (some_number r)

  pub check_refuses : {B : Type 0} (p : Result B Refusal) (a : Result B ℕ) → p ≡ Err r → numbered p ≡ replied Err k a
  unfolding refusal_in numbered
  check_refuses p a same = rw (same, ← e) (replied_refused Err (number_of r) a (some_number r))

  pub check_keeps : (new old : List ℕ) → old ≡ written k new old
  check_keeps new old = written_refused k new old not_passed

  pub check_told : {B : Type 0} (p : Result B Refusal) → p ≡ Err r → refusal_in p ≡ k
  unfolding refusal_in
  check_told p same = rw same e
