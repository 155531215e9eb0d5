-- Where names of a text end: within it, and what stands up to there is the name. Assumes nothing.
use mathlib.Core.Path.{◌≡◌}
use mathlib.Core.List.{List}
use Prim.Native.Nat.{ℕ, ◌+◌, ◌-◌, ◌≤◌}
use native.Mathlib.Omega.{arith}
use lib.ListN.{length, take, drop}
use Rattle.xml.specs.Scan.{name_length}
use Rattle.xml_laws.proofs.Bounds.{name_end_within}
use Rattle.xml_scan.specs.Post.{name_from}

module _ (text : List ℕ) (a : ℕ) {b : ℕ} (ends : b ≡ a + name_length (drop a text)) where
  pub end_within : a ≤ length text → b ≤ length text
  end_within l = omega (arith, name_end_within text a l)

  pub name_part : take (b - a) (drop a text) ≡ name_from text a
  unfolding name_from
  name_part = let e : b - a ≡ name_length (drop a text) = omega arith in rw e
