-- Soundness as document 01 writes it ("Sound means"), and document 02, CR 7, of depth, over words alone: the digits of labels, mates
-- and ups by a stack, depths by places.
-- Assumes nothing: these are definitions.
use Rattle.std.specs.Prelude.{◌≡◌, Bool, true, ◌&&◌, ◌⊎◌, ℕ, suc, ◌+◌, ◌*◌, ◌-◌, ◌/◌, ◌%◌, ◌^◌, ◌≤◌, ◌<◌, ltb, eqb, length}
use mathlib.Core.List.{List, [], ◌∷◌, map, head_d}
use Rattle.lists.specs.Lists.{how_many}
use Rattle.store_types.specs.Limits.{no_tag, label_limit, most_tags}
use Rattle.store_types.specs.Layout.{at_version, at_s, at_r, at_height, at_count, at_stamp, header_words, at_mate, at_up, at_kind, at_depth, tag_words, word_at, field, label_at}
use Rattle.tree.specs.Row.{member, place, all_below, rises}
use Rattle.tree.specs.Book.{base}
use Rattle.demands.specs.Words.{BookRow, is_marked, count_below}

-- DIGITS. The digit of a label at height j in base b: which child of its parent the label's ancestor of height j is. Labels
-- with the same quotient by b^j have the same ancestor of height j.
unfoldable pub digit : (b j label : ℕ) → ℕ
digit b j l = l / b ^ j % b

-- how many of the labels have an ancestor of height j with this quotient
abbrev pub count_under : (b j quotient : ℕ) → (labels : List ℕ) → ℕ
count_under b j q ls = how_many (λ l. eqb (l / b ^ j) q) ls

-- labels whose H digits spell a tree within its limits: where one of them is d + 1, another label has d there and the same
-- digits above; and an ancestor of height j, from 1 to H − 1, is over at least r^j labels and fewer than s times r^j
pub record Spells (s r h : ℕ) (labels : List ℕ) : Type 0 where
  pub no_gaps :
      (l j d : ℕ) → member l labels ≡ true → j < h → digit (base s r) j l ≡ suc d →
      (m : ℕ) × (member m labels ≡ true) × (m / base s r ^ suc j ≡ l / base s r ^ suc j) × (digit (base s r) j m ≡ d)
  pub limits :
      (l j : ℕ) → member l labels ≡ true → 1 ≤ j → j < h →
      (r ^ j ≤ count_under (base s r) j (l / base s r ^ j) labels) × (count_under (base s r) j (l / base s r ^ j) labels < s * r ^ j)

-- MATES AND UPS along a row, with a stack of the begins that are open, the innermost first. A begin or text has the innermost
-- as its up, or no tag; a text is its own mate; an end and the innermost are each other's mates, and then have the same up.
unfoldable pub Nests : List ℕ → (opened : List ℕ) → (row : List ℕ) → Type 0
Nests ws os [] = os ≡ []
Nests ws os (x ∷ xs) =
    ((field ws x at_kind % 16 ≡ 1) × (field ws x at_up ≡ head_d os no_tag) × Nests ws (x ∷ os) xs)
    ⊎ ((field ws x at_kind % 16 ≡ 2) × ((o : ℕ) × (around : List ℕ)
    × (os ≡ o ∷ around) × (field ws x at_mate ≡ o) × (field ws o at_mate ≡ x) × (field ws x at_up ≡ head_d around no_tag) × Nests ws around xs))
    ⊎ ((field ws x at_kind % 16 ≡ 3) × (field ws x at_mate ≡ x) × (field ws x at_up ≡ head_d os no_tag) × Nests ws os xs)

-- DEPTHS by places in a row: whether b is a begin that stands before x and whose mate stands after it
unfoldable pub stands_around : List ℕ → (row : List ℕ) → (tag b : ℕ) → Bool
stands_around ws xs x b =
    eqb (field ws b at_kind % 16) 1 && (ltb (place b xs) (place x xs) && ltb (place x xs) (place (field ws b at_mate) xs))

-- SOUND, sentence by sentence
pub record SoundWords (ws : List ℕ) : Type 0 where
  -- the value 1; words suffice; ranges; b^H ≤ 2^32
  pub version : word_at ws at_version ≡ 1
  pub room : header_words + tag_words * word_at ws at_count ≤ length ws
  pub s_range : (2 ≤ word_at ws at_s) × (word_at ws at_s ≤ 16)
  pub r_range : (2 ≤ word_at ws at_r) × (word_at ws at_r ≤ 16)
  pub height : 1 ≤ word_at ws at_height
  pub few : word_at ws at_count ≤ most_tags
  pub labels_fit : base (word_at ws at_s) (word_at ws at_r) ^ word_at ws at_height ≤ label_limit
  -- next from the first tag meets each number below n once, and prior is its reverse
  pub row : List ℕ
  pub along : BookRow ws row
  pub as_many : length row ≡ word_at ws at_count
  pub each : all_below (word_at ws at_count) row ≡ true
  -- labels rise strictly below b^H, and their digits spell a tree whose children stand at 0, 1, 2 without gaps, and whose
  -- nodes keep their limits; the root its own
  pub rise : rises (base (word_at ws at_s) (word_at ws at_r) ^ word_at ws at_height) (map (label_at ws) row) ≡ true
  pub spells : Spells (word_at ws at_s) (word_at ws at_r) (word_at ws at_height) (map (label_at ws) row)
  pub root_most : word_at ws at_count < word_at ws at_s * word_at ws at_r ^ word_at ws at_height
  pub root_least : 2 ≤ word_at ws at_height → 2 * word_at ws at_r ^ (word_at ws at_height - 1) ≤ word_at ws at_count
  -- kinds are 1, 2, 3, 17, 18, 19; mates and ups spell proper nesting
  pub kinds : (x : ℕ) → x < word_at ws at_count → field ws x at_kind < 32
  pub nesting : Nests ws [] row
  -- depth is the number of elements around a tag
  pub depths : (x : ℕ) → x < word_at ws at_count → field ws x at_depth ≡ how_many (stands_around ws row x) row
  -- a tag under a marked begin is marked, and mates are marked together
  pub marks_under : (x : ℕ) → x < word_at ws at_count → (field ws x at_up ≡ no_tag → ⊥) → is_marked ws (field ws x at_up) ≡ true → is_marked ws x ≡ true
  pub marks_mates : (x : ℕ) → x < word_at ws at_count → is_marked ws (field ws x at_mate) ≡ is_marked ws x
  -- stamp ≤ n plus the marked tags
  pub stamp : word_at ws at_stamp ≤ word_at ws at_count + count_below (word_at ws at_count) (is_marked ws)
