-- What the tests of one tag ask of their callers, and the parts of kind_fits (walk_model's Walk) that each decides.
-- Assumes nothing: these are definitions.
use Rattle.std.specs.Prelude.{◌≡◌, ◌⊎◌, Bool, ◌&&◌, ◌||◌, not, cond, List, ◌∷◌, ◌++◌, ℕ, ◌+◌, ◌-◌, ◌/◌, ◌%◌, ◌^◌, ◌<◌, ltb, leb, eqb, replicate}
use Rattle.store_types.specs.Limits.{no_tag}
use Rattle.store_types.specs.Layout.{at_prior, at_mate, at_up, at_kind, field, Room, Records}
use Rattle.walk_model.specs.Walk.{kind_fits}
use Rattle.kind_pick.specs.Needs.{KindWord}
use Rattle.words.specs.Offsets.{offset_of, RecordAt}

-- THE OPEN BEGINS, from the innermost on: each is a begin among n tags, and its up is the next
abbrev pub BeginWord : ℕ → Type 0
BeginWord c = (c ≡ 1) ⊎ (c ≡ 17)

pub data Open (ws : List ℕ) (n : ℕ) : ℕ → Type 0 where
  none : Open ws n no_tag
  begin : {o : ℕ} → o < n → BeginWord (field ws o at_kind) → Open ws n (field ws o at_up) → Open ws n o

-- the records of n tags are there, x is one of them, where it stands, and the open begin is one or no tag
pub record TagReads (ws : List ℕ) (n x at o : ℕ) : Type 0 where
  pub records : Records ws n
  pub below : x < n
  pub there : at ≡ offset_of x
  pub around : Open ws n o

-- x is there, and a record stands beside it at q
pub record Beside (ws : List ℕ) (x at q : ℕ) : Type 0 where
  pub room : Room ws x
  pub there : at ≡ offset_of x
  pub beside : RecordAt ws q

pub record MarkReads (ws : List ℕ) (x at marks : ℕ) : Type 0 where
  pub room : Room ws x
  pub there : at ≡ offset_of x
  pub kind : field ws x at_kind < 32
  pub few : marks < 4000000000

-- x is there, and of a right kind
pub record DepthReads (ws : List ℕ) (x at : ℕ) : Type 0 where
  pub room : Room ws x
  pub there : at ≡ offset_of x
  pub kind : KindWord (field ws x at_kind)

-- THE TABLE OF PAIRS OF KINDS: the kinds beside which a begin, an end, a text may stand; then the same, marked
unfoldable pub pair_table : List ℕ
pair_table =
    0 ∷ 2 ∷ 2 ∷ 10 ∷ replicate 13 0 ++ 131074 ∷ 131072 ∷ 655362 ∷ replicate 12 0

-- and its rule: c is a kind word; an end's is one more than the open begin's, so that both have the mark or none; and a tag
-- in a marked section is marked. `around` is the kind word of the open begin, or c itself where none is open
unfoldable pub is_kind_word : (c : ℕ) → Bool
is_kind_word c = ltb c 32 && (leb 1 (c % 16) && leb (c % 16) 3)

unfoldable pub pair_fits : (c around : ℕ) → Bool
pair_fits c around = is_kind_word c && (eqb (cond (eqb (c % 16) 2) around (c - 1)) (c - 1) && (leb 16 c || ltb around 16))

-- a bit of a word
unfoldable pub bit_of : (word bit : ℕ) → Bool
bit_of word bit = not (eqb (word / 2 ^ (bit % 32) % 2) 0)

-- ONE TAG x of kind word c behind its prior, where o is the open begin or no tag, and d is o, or x where that is no tag
unfoldable pub links_fit : List ℕ → (prior o x d c : ℕ) → Bool
links_fit ws prior o x d c =
    let beside = cond (eqb (c % 16) 2) d x in
    eqb (field ws x (cond (eqb (c % 16) 2) at_mate at_up)) o
    && (eqb (field ws x at_up) (field ws beside at_up) && eqb (field ws beside (cond (eqb (c % 16) 1) at_prior at_mate)) (cond (eqb (c % 16) 1) prior x))

-- with its prior
unfoldable pub fits_at : List ℕ → (n o x prior : ℕ) → Bool
fits_at ws n o x prior = eqb (field ws x at_prior) prior && kind_fits ws n o x (field ws x at_kind)

unfoldable pub marks_at : List ℕ → (x marks : ℕ) → ℕ
marks_at ws x marks = marks + cond (leb 16 (field ws x at_kind)) 1 0
