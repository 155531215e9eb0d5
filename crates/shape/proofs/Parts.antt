-- Four tables as they are put together. Assumes nothing.
use mathlib.Core.Path.{refl}
use mathlib.Core.List.{List}
use Prim.Native.Nat.{ℕ}
use Rattle.shape.specs.Packed.{Packed}

pub as_made : {w lo hi ns : List ℕ} → Packed (record { widths = w; lows = lo; highs = hi; numbers = ns }) w lo hi
as_made = record { widths_are = refl; lows_are = refl; highs_are = refl }
