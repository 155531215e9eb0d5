-- Histories as lists of calls, and two that are alike but for extra calls that only the second has (document 02, CR 6), for any
-- calls, systems and replies. Assumes nothing: these are definitions.
use Rattle.std.specs.Prelude.{◌≡◌, Bool, true, cond, List, [], ◌∷◌}

-- a call, and whether only the second history has it
pub record Entry (C : Type 0) : Type 0 where
  pub call : C
  pub extra : Bool

-- the second history, and the first
unfoldable pub with_extras : {C : Type 0} → List (Entry C) → List C
with_extras [] = []
with_extras (e ∷ es) = e.call ∷ with_extras es

unfoldable pub without : {C : Type 0} → List (Entry C) → List C
without [] = []
without (e ∷ es) = let rest = without es in cond e.extra rest (e.call ∷ rest)

module _ {C Y : Type 0} (step : C → Y → Y) where
  unfoldable pub afterwards : List C → Y → Y
  afterwards [] y = y
  afterwards (c ∷ cs) y = afterwards cs (step c y)

  -- every extra call is powerless at its moment of the second history
  unfoldable pub AllPowerless : (Powerless : C → Y → Type 0) → List (Entry C) → Y → Type 0
  AllPowerless P [] y = Unit {0}
  AllPowerless P (e ∷ es) y = (e.extra ≡ true → P e.call y) × AllPowerless P es (step e.call y)

module _ {C Y Q : Type 0} (step : C → Y → Y) (reply : C → Y → Q) where
  unfoldable pub replies : List C → Y → List Q
  replies [] y = []
  replies (c ∷ cs) y = reply c y ∷ replies cs (step c y)

  -- these calls get these replies and lead from one system to another
  pub record Ran (cs : List C) (before : Y) (qs : List Q) (end : Y) : Type 0 where
    pub replied : replies cs before ≡ qs
    pub left : afterwards step cs before ≡ end

  -- of the second history, the replies to the calls that both have
  unfoldable pub shared_replies : List (Entry C) → Y → List Q
  shared_replies [] y = []
  shared_replies (e ∷ es) y =
      let rest = shared_replies es (step e.call y) in cond e.extra rest (reply e.call y ∷ rest)
