-- What the steps of a search and of arranging answer. Assumes nothing: these are definitions.
use Rattle.std.specs.Prelude.{◌≡◌, Bool, true, false, not, List, [], ◌∷◌, ◌++◌, ℕ, suc, ◌≤◌, ◌<◌, length, get_or}
use Rattle.std.specs.declared.cmp.Ordering.TheVariants.{Less}
use Rattle.xml.specs.Grammar.{among}
use Rattle.name_index.specs.Order.{order, hash_of}
use Rattle.name_index.specs.Index.{places, name_at, key_at, Index, Holds}

-- an entry that can be looked at
pub record Entry (text ss : List ℕ) (i : ℕ) : Type 0 where
  pub room : i < places
  pub within : get_or ss i 0 ≤ length text

-- where a key stands, or would go: the entries before it come before the key, and none from it on does
pub record Found (text hs ss : List ℕ) (n : ℕ) (key : List ℕ) (p : ℕ) : Type 0 where
  pub within : p ≤ n
  pub below : (i : ℕ) → i < p → order (key_at text hs ss i) key ≡ Less
  pub above : (i : ℕ) → p ≤ i → i < n → order (key_at text hs ss i) key ≡ Less → ⊥

-- whether a name is that of an entry
pub record Told (text ss : List ℕ) (n : ℕ) (name : List ℕ) (t : Bool) : Type 0 where
  pub yes : t ≡ true → (i : ℕ) × (i < n) × (name_at text ss i ≡ name)
  pub no : t ≡ false → (i : ℕ) → i < n → name_at text ss i ≡ name → ⊥

-- a name's hash and place, and whether it stands there
pub record Searched (text hs ss : List ℕ) (n : ℕ) (name : List ℕ) (h p : ℕ) (t : Bool) : Type 0 where
  pub hash : h ≡ hash_of name
  pub found : Found text hs ss n (h ∷ name) p
  pub told : Told text ss n name t

-- a value put in at p among the first n of a list: the later ones of these move up by one, onto the next, and those after it stay
pub record Inserted (old : List ℕ) (p n v : ℕ) (new : List ℕ) : Type 0 where
  pub size : length new ≡ length old
  pub below : (i : ℕ) → i < p → get_or new i 0 ≡ get_or old i 0
  pub here : get_or new p 0 ≡ v
  pub above : (i : ℕ) → p ≤ i → i < n → get_or new (suc i) 0 ≡ get_or old i 0
  pub later : (i : ℕ) → n < i → get_or new i 0 ≡ get_or old i 0

-- the first n are an index, and one more follows
pub record Next (text hs ss : List ℕ) (n : ℕ) : Type 0 where
  pub index : Index text hs ss n
  pub entry : Entry text ss n

-- the one more has joined them
pub record Added (text ss hs' ss' : List ℕ) (n : ℕ) : Type 0 where
  pub index : Index text hs' ss' (suc n)
  pub holds : (names : List (List ℕ)) → Holds text ss n names → Holds text ss' (suc n) (names ++ (name_at text ss n ∷ []))
  pub later : (i : ℕ) → n < i → get_or ss' i 0 ≡ get_or ss i 0

-- it has if its name is new
pub record Joined (text ss hs' ss' : List ℕ) (n : ℕ) (t : Bool) : Type 0 where
  pub tells : (names : List (List ℕ)) → Holds text ss n names → t ≡ not (among (name_at text ss n) names)
  pub added : t ≡ true → Added text ss hs' ss' n
