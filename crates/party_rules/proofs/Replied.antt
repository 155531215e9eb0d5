-- What the checks and `revoke` reply and write by a refusal: what is accepted, or the refusal, which is not 0. Assumes nothing.
use Rattle.std.proofs.Common.{◌≡◌, ℕ, refl}
use Rattle.lists.specs.Fronts.{replied}
use Rattle.lists.proofs.Replied.{replied_refused}
use Rattle.store_types.proofs.Replies.{some_number}

pub accepted : {A : Type 0} (f : ℕ → A) (a : A) → replied f 0 a ≡ a
unfolding replied
accepted f a = refl

pub ruleset by_refusal = (accepted, replied_refused, some_number)
