-- What the statements say of words: the tags met along next and prior, lists with a result in front, and how many tags a
-- call moved or marked. Assumes nothing: these are definitions.
use Rattle.std.specs.Prelude.{◌≡◌, Bool, ◌&&◌, not, ◌⊎◌, ℕ, leb, eqb, length, take, drop}
use mathlib.Core.List.{List, [], ◌∷◌, ◌++◌, head_d, reverse}
use Rattle.lists.specs.Lists.{numbers, how_many, those}
use Rattle.store_types.specs.Limits.{no_tag}
use Rattle.store_types.specs.Layout.{at_count, at_first, at_next, at_prior, at_mate, at_kind, word_at, field, label_at}

-- ALONG NEXT AND PRIOR. From a tag, step by step until no tag, just these tags are met
unfoldable pub Met : (step : ℕ → ℕ) → (from : ℕ) → (row : List ℕ) → Type 0
Met g x [] = x ≡ no_tag
Met g x (y ∷ ys) = (x ≡ y) × (y ≡ no_tag → ⊥) × Met g (g y) ys

-- the tags of a book in order: next from the first tag meets them, and prior from the last one meets them backwards
pub record BookRow (ws row : List ℕ) : Type 0 where
  pub next : Met (λ x. field ws x at_next) (word_at ws at_first) row
  pub prior : Met (λ x. field ws x at_prior) (head_d (reverse row) no_tag) (reverse row)

-- along next stand x, later d, later y
unfoldable pub Stand : List ℕ → (x d y : ℕ) → Type 0
Stand ws x d y =
    (before : List ℕ) × (between : List ℕ) × (then : List ℕ) × (behind : List ℕ)
    × Met (λ z. field ws z at_next) (word_at ws at_first) (before ++ x ∷ between ++ d ∷ then ++ y ∷ behind)

-- a kind word is a marked one's
unfoldable pub is_marked : List ℕ → (tag : ℕ) → Bool
is_marked ws x = leb 16 (field ws x at_kind)

unfoldable pub unmarked_of : List ℕ → (row : List ℕ) → List ℕ
unmarked_of ws = those (λ x. not (is_marked ws x))

-- the tags met along next strictly inside a section: between its begin and the begin's mate; from the front all
unfoldable pub Inside : List ℕ → (section : ℕ) → (row : List ℕ) → Type 0
Inside ws x xs =
    ((x ≡ no_tag) × Met (λ z. field ws z at_next) (word_at ws at_first) xs)
    ⊎ ((x ≡ no_tag → ⊥)
    × ((before : List ℕ) × (behind : List ℕ) × Met (λ z. field ws z at_next) (word_at ws at_first) (before ++ x ∷ xs ++ field ws x at_mate ∷ behind)))

-- A RESULT IN FRONT: as many words as before, the new ones first, and all past them as they were
pub record Fronted (new old now : List ℕ) : Type 0 where
  pub as_many : length now ≡ length old
  pub front : take (length new) now ≡ new
  pub past : drop (length new) now ≡ drop (length new) old

-- HOW MANY of the tags below n pass a test
abbrev pub count_below : (n : ℕ) → (ℕ → Bool) → ℕ
count_below n p = how_many p (numbers 0 n)

-- tags below the old n that have another label word afterwards, and no marked one's kind word before or afterwards
-- (document 02, CR 4)
unfoldable pub unmarked_changed : (before after : List ℕ) → ℕ
unmarked_changed ws vs =
    count_below (word_at ws at_count) (λ x. not (eqb (label_at ws x) (label_at vs x)) && (not (is_marked ws x) && not (is_marked vs x)))

-- tags whose kind word became a marked one
unfoldable pub became_marked : (before after : List ℕ) → ℕ
became_marked ws vs = count_below (word_at ws at_count) (λ x. not (is_marked ws x) && is_marked vs x)
