-- What the functions behind the calls need of words. Assumes nothing: these are definitions.
use Rattle.std.specs.Prelude.{List, ℕ, ◌<◌}
use Rattle.calls.specs.Store.{count}
use Rattle.calls.specs.Words.{Says}
use Rattle.calls.specs.Replies.{said}

-- words that say a store, and a tag of it
pub record TagSaid (ws : List ℕ) (x : ℕ) : Type 0 where
  pub says : Says ws (said ws)
  pub tag : x < count (said ws)
