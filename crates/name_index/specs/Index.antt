-- An index of names: where names of one text begin, each with its hash, in order of hash and then of the name's bytes.
-- Assumes nothing: these are definitions.
use Rattle.std.specs.Prelude.{◌≡◌, Bool, true, List, ◌∷◌, map, ℕ, ◌≤◌, ◌<◌, length, get_or, take}
use Rattle.std.specs.declared.cmp.Ordering.TheVariants.{Less}
use Rattle.xml.specs.Grammar.{among}
use Rattle.xml_scan.specs.Post.{name_from}
use Rattle.name_index.specs.Order.{order, hash_of, differ}

-- how many places an index has
abbrev pub places : ℕ
places = 1024

-- the names of the first n places, and the name of one
unfoldable pub names_at : (text starts : List ℕ) → (n : ℕ) → List (List ℕ)
names_at text ss n = map (name_from text) (take n ss)

unfoldable pub name_at : (text starts : List ℕ) → ℕ → List ℕ
name_at text ss i = name_from text (get_or ss i 0)

-- what an entry is ordered by
unfoldable pub key_at : (text hashes starts : List ℕ) → ℕ → List ℕ
key_at text hs ss i = get_or hs i 0 ∷ name_at text ss i

-- n names begin within the text, and there is room for them
pub record Begun (text ss : List ℕ) (n : ℕ) : Type 0 where
  pub room : n ≤ places
  pub within : (i : ℕ) → i < n → get_or ss i 0 ≤ length text

-- an index with n entries
pub record Index (text hs ss : List ℕ) (n : ℕ) : Type 0 where
  pub begun : Begun text ss n
  pub hashed : (i : ℕ) → i < n → get_or hs i 0 ≡ hash_of (name_at text ss i)
  pub ordered : (i j : ℕ) → i < j → j < n → order (key_at text hs ss i) (key_at text hs ss j) ≡ Less

-- the names that it holds: each entry is one of them, and each of them is an entry
pub record Holds (text ss : List ℕ) (n : ℕ) (names : List (List ℕ)) : Type 0 where
  pub each : (i : ℕ) → i < n → among (name_at text ss i) names ≡ true
  pub only : (x : List ℕ) → among x names ≡ true → (i : ℕ) × (i < n) × (name_at text ss i ≡ x)

-- places that are brought into order: whether their names differ, and where they do an index that holds them
pub record Arranged (text ss : List ℕ) (n : ℕ) (hs' ss' : List ℕ) (t : Bool) : Type 0 where
  pub tells : t ≡ differ (names_at text ss n)
  pub index : t ≡ true → Index text hs' ss' n
  pub holds : t ≡ true → Holds text ss' n (names_at text ss n)

-- the places of a row of names, one after the other
pub record Noted (text ss : List ℕ) (row : List (List ℕ)) : Type 0 where
  pub begun : Begun text ss (length row)
  pub names : names_at text ss (length row) ≡ row
