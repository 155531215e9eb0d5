-- What scanners answer, from where they began. Assumes nothing: these are definitions.
use Rattle.std.specs.Prelude.{◌≡◌, Bool, ◌&&◌, not, List, ℕ, zero, suc, ◌+◌, ◌<◌, eqb, take, drop, Option, Some, None}
use Rattle.std.proofs.Math.Option as scan
use Rattle.xml.specs.Bytes.{is_char, less_than}
use Rattle.xml.specs.Scan.{name_length}

-- so many bytes after where a scan began, or nothing
unfoldable pub found : (from : ℕ) → scan.Option ℕ → Option ℕ
found a scan.none = None
found a (scan.some n) = Some (a + n)

-- a length that is 0 where nothing stands
unfoldable pub nonzero : (length : ℕ) → Option ℕ
nonzero zero = None
nonzero (suc n) = Some (suc n)

-- the answers at bytes are those of a test
abbrev pub Tells : (answers : ℕ → Bool → Type 0) → (test : ℕ → Bool) → Type 0
Tells answers test = (b : ℕ) (t : Bool) → b < 256 → answers b t → t ≡ test b

-- a byte that may stand in a value by itself, if it is not its quote and not &
unfoldable pub is_plain : ℕ → Bool
is_plain c = is_char c && not (eqb c less_than)

-- the name that begins at a place of a text
unfoldable pub name_from : (text : List ℕ) → (at : ℕ) → List ℕ
name_from bs i = take (name_length (drop i bs)) (drop i bs)
