-- A text as its bytes, so that definitions and specimens are written as they are read. Assumes nothing: these are definitions.
use Rattle.std.specs.Prelude.{List, [], ◌∷◌, ℕ}
use Prim.Native.Char.{code}
use Prim.Native.String.{String, [] as []ₛ, ◌∷◌ as ◌∷ₛ◌}

-- each character here is one byte
abbrev pub bytes : String → List ℕ
bytes []ₛ = []
bytes (c ∷ₛ cs) = code c ∷ bytes cs
