-- `insert_refuse::height_with` meets its contract. Assumes nothing.
use mathlib.Core.Path.{◌≡◌, ap, ◌∙◌}
use mathlib.Core.List.{List}
use Prim.Native.Nat.{ℕ, ◌*◌, ◌^◌}
use Rattle.store_types.specs.Layout.{at_s, at_r, at_height, word_at}
use Rattle.powers.specs.Tables.{entry}
use Rattle.shape.specs.Tables.{highs_of}
use Rattle.insert_refuse.proofs.Headers.{ranges, last_power, search_from}
use Rattle.insert_refuse.proofs.height_with.Goals as goal

-- the last entry of the highs is the root's
limit_read : (ws t : List ℕ) → t ≡ highs_of ws → entry t (word_at ws at_height) ≡ word_at ws at_s * word_at ws at_r ^ word_at ws at_height
unfolding highs_of
limit_read ws t e = last_power (word_at ws at_s) (word_at ws at_r) (word_at ws at_height) e

pub height_for-requires : goal.height_for-requires
height_for-requires c =
    search_from (ranges _ c.requires.0) c.requires.1 c.height_of-h.ensures
    (ap (entry c.args.tables.now.highs) c.height_of-h.ensures ∙ limit_read _ _ c.requires.2)
