-- Sums of labels and widths. Assumes nothing: these are definitions.
use Rattle.std.specs.Prelude.{ℕ, ◌%◌}
use Rattle.store_types.specs.Limits.{label_limit}

-- what a sum of numbers leaves of a label (in a sound store every label fits, and this changes nothing)
unfoldable pub cut : ℕ → ℕ
cut l = l % label_limit
