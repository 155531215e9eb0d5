-- What a scanner finds behind a test: it is found where the test lets through, and only there. Assumes nothing.
use mathlib.Core.Path.{◌≡◌, refl}
use mathlib.Core.Bool.{Bool, true, false, cond}
use mathlib.Core.Option.{Option, none, some, none-ne-some}

-- behind a test that refuses
pub past_refusal : {A : Type 0} {a : A} (t : Bool) (o : Option A) → cond t none o ≡ some a → (t ≡ false) × (o ≡ some a)
past_refusal {a} true o e = absurd (none-ne-some a e)
past_refusal false o e = (refl, e)

-- behind a test that must be passed
pub past_test : {A : Type 0} {a : A} (t : Bool) (o : Option A) → cond t o none ≡ some a → (t ≡ true) × (o ≡ some a)
past_test true o e = (refl, e)
past_test {a} false o e = absurd (none-ne-some a e)
