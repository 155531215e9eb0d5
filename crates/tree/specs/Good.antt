-- Forests that keep their limits, and complete trees, as facts (document 01, "The tree"). Assumes nothing: these are
-- definitions.
use Rattle.std.specs.Prelude.{◌≡◌, ℕ, zero, suc, ◌*◌, ◌^◌, ◌≤◌, ◌<◌}
use Rattle.tree.specs.Forest.{Forest, nil, leaf, node, size}

-- a forest of height j whose nodes keep their limits
abbrev pub Good : (s r : ℕ) → Forest → (j : ℕ) → Type 0
Good s r nil j = Unit {0}
Good s r (leaf x f) zero = Good s r f zero
Good s r (leaf x f) (suc j) = ⊥
Good s r (node g f) zero = ⊥
Good s r (node g f) (suc j) = (r ^ suc j ≤ size g) × (size g < s * r ^ suc j) × Good s r g j × Good s r f (suc j)

-- a forest of complete r-ary trees of height j
abbrev pub Complete : (r : ℕ) → Forest → (j : ℕ) → Type 0
Complete r nil j = Unit {0}
Complete r (leaf x f) zero = Complete r f zero
Complete r (leaf x f) (suc j) = ⊥
Complete r (node g f) zero = ⊥
Complete r (node g f) (suc j) = (size g ≡ r ^ suc j) × Complete r g j × Complete r f (suc j)
