-- The splits of an insertion by the sizes of the ancestors of a place. Follows the code of crate splits.
-- Assumes nothing: these are definitions.
use Rattle.std.specs.Prelude.{◌||◌, cond, List, ℕ, zero, suc, ◌+◌, leb, ltb}
use Rattle.store_types.specs.Layout.{at_prior, field, label_at}
use Rattle.powers.specs.Tables.{entry}

-- the highest height from h on whose ancestor comes to its limit with k leaves more; `left` heights are left below the
-- root, and `found` is the one below h
unfoldable pub highest_full : (highs sizes : List ℕ) → (k left h found : ℕ) → ℕ
highest_full hi sz k zero h found = found
highest_full hi sz k (suc m) h found = highest_full hi sz k m (suc h) (cond (leb (entry hi h) (entry sz h + k)) h found)

-- the tag left of a node, and how many of the node's tags stand up to a place
pub record Border : Type 0 where
  pub tag : ℕ
  pub steps : ℕ

-- from x on along prior as long as it is a tag of n with a label of at least low; `most` bounds the steps
unfoldable pub left_border : (most n : ℕ) → List ℕ → (low : ℕ) → (tag : ℕ) → Border
left_border zero n ws low x = record { tag = x; steps = 0 }
left_border (suc m) n ws low x =
    let here : Border = record { tag = x; steps = 0 } in
    let rest = left_border m n ws low (field ws x at_prior) in
    let further : Border = record { tag = rest.tag; steps = suc rest.steps } in
    cond (leb n x || ltb (label_at ws x) low) here further
