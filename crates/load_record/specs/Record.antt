-- The record of one new tag of a row. Follows the code of src/lib.rt. Assumes nothing: these are definitions.
use Rattle.std.specs.Prelude.{◌≡◌, true, cond, List, ◌⊎◌, ℕ, ◌+◌, ◌-◌, ◌≤◌, ◌<◌, ltb, eqb, length, drop}
use Rattle.store_types.specs.Layout.{header_words, at_next, at_prior, at_mate, at_up, at_kind, at_depth, word_at, words_for, field, with_field, with_label, Records}
use Rattle.calls.specs.Kind.{kind_of, own_depth, opens_after}
use Rattle.load_record.specs.declared.Open as code
use Rattle.load_record.specs.declared.Row as rows

-- the tag behind and the tag before tag x of a row
abbrev pub next_of : rows.Row → (x : ℕ) → ℕ
next_of w x = cond (ltb (x + 1) w.end) (x + 1) w.next.0

abbrev pub prior_of : rows.Row → (x : ℕ) → ℕ
prior_of w x = cond (ltb w.first x) (x - 1) w.prior.0

-- label, kind, next and prior of tag x of a row
unfoldable pub place_written : rows.Row → (x kind label : ℕ) → List ℕ → List ℕ
place_written w x c l ws =
    with_field (with_field (with_field (with_label ws x l) x at_kind c) x at_next (next_of w x)) x at_prior (prior_of w x)

-- a kind as the caller gives it
pub record KindNumber (c : ℕ) : Type 0 where
  pub low : 1 ≤ c
  pub high : c ≤ 3

-- its mate: of an end the innermost open begin o; any other tag is its own, a begin until its end is met
unfoldable pub new_mate : (x kind o : ℕ) → ℕ
new_mate x c o = cond (eqb c 2) o x

-- its up: of an end what stands around o
unfoldable pub new_up : (kind o : ℕ) → List ℕ → ℕ
new_up c o ws = cond (eqb c 2) (field ws o at_up) o

-- a tag with this mate, up and depth is the mate of its mate
unfoldable pub links_written : (x mate up depth : ℕ) → List ℕ → List ℕ
links_written x mate up depth ws =
    with_field (with_field (with_field (with_field ws x at_depth depth) x at_mate mate) mate at_mate x) x at_up up

-- the whole record, where d begins are open before the tag (document 02, CR 7)
unfoldable pub tag_written : rows.Row → (x kind label o d : ℕ) → List ℕ → List ℕ
tag_written w x c l o d ws =
    let placed = place_written w x c l ws in
    links_written x (new_mate x c o) (new_up c o placed) (own_depth (kind_of c) d) placed

-- the innermost open begin behind tag x
unfoldable pub open_behind : rows.Row → (x kind label o : ℕ) → List ℕ → ℕ
open_behind w x c l o ws = cond (eqb c 1) x (new_up c o (place_written w x c l ws))

-- what a depth is asked of, where d begins are open before the tag: an end has one open
pub record DepthFits (kind d : ℕ) : Type 0 where
  pub number : KindNumber kind
  pub some : kind ≡ 2 → 1 ≤ d

-- what a tag is asked of: the row's records are there, x is one of its tags, an end has a begin, and no more begins are open than
-- there are tags before x
pub record TagFits (ws : List ℕ) (w : rows.Row) (x kind o d : ℕ) : Type 0 where
  pub records : Records ws w.end
  pub past : w.first ≤ x
  pub below : x < w.end
  pub begun : kind ≡ 2 → o < w.end
  pub deep : d ≤ x
  pub depth : DepthFits kind d

-- what is carried of the open begins: where it is known, what stands around the innermost one is its up; and then one is open, of
-- the first x tags
pub record AroundKnown (ws : List ℕ) (x : ℕ) (v : code.Open) : Type 0 where
  pub up : v.known ≡ true → v.around.0 ≡ field ws v.begin.0 at_up
  pub below : v.known ≡ true → v.begin.0 < x

-- behind tag x with this up and depth: a begin opens, and stands in what its up says; a text changes nothing
pub record Opened (x kind up depth : ℕ) (v q : code.Open) : Type 0 where
  pub begin_is : q.begin.0 ≡ cond (eqb kind 1) x up
  pub around_is : q.around.0 ≡ cond (eqb kind 1) up v.around.0
  pub known : q.known ≡ true → (kind ≡ 1) ⊎ ((kind ≡ 3) × (v.known ≡ true))
  pub depth_is : q.depth ≡ opens_after (kind_of kind) depth

-- words outside the records of a row are as before
pub record Beside (before after : List ℕ) (w : rows.Row) : Type 0 where
  pub size : length after ≡ length before
  pub front : (i : ℕ) → i < words_for header_words w.first → word_at after i ≡ word_at before i
  pub rest : drop (words_for header_words w.end) after ≡ drop (words_for header_words w.end) before
