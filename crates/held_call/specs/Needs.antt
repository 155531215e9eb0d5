-- What the judgement of a held pair needs. Assumes nothing: these are definitions.
use Rattle.std.specs.Prelude.{◌≡◌, true, List, ℕ}
use Rattle.store_types.specs.declared.HeldPair.{HeldPair}
use Rattle.calls.specs.Kind.{is_begin}
use Rattle.calls.specs.Store.{fact}
use Rattle.calls.specs.Replies.{said}
use Rattle.store_refuse.specs.Needs.{TagSaid}

-- words that say a store, a pair of this store's book and of a begin, and a tag
pub record PairAsked (ws : List ℕ) (p : HeldPair) (d : ℕ) : Type 0 where
  pub section : TagSaid ws p.tag.0
  pub other : TagSaid ws d
  pub book : p.book ≡ (said ws).number
  pub begins : is_begin (fact (said ws) p.tag.0).kind ≡ true
