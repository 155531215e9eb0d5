-- What a listing needs of words, and what it finds there. Assumes nothing: these are definitions.
use Rattle.std.specs.Prelude.{◌≡◌, Bool, ◌||◌, not, cond, List, ℕ, ◌≤◌, ltb, eqb, get_or}
use Rattle.std.proofs.Math.Seq.{slice}
use Rattle.lists.specs.Lists.{first, those}
use Rattle.store_types.specs.Limits.{no_tag}
use Rattle.calls.specs.Store.{Store, fact, row, place_of, next_in}
use Rattle.calls.specs.Listing.{inside_tests}
use Rattle.calls.specs.Words.{Says}
use Rattle.calls.specs.Replies.{said}

-- a tag that stands in the row, or no tag, which stands behind the last
abbrev pub HasPlace : Store → (tag : ℕ) → Type 0
HasPlace st x = get_or (row st) (place_of st x) no_tag ≡ x

-- words that say a store, and two that stand in its row, the second not before the first
pub record SpanSaid (ws : List ℕ) (x d : ℕ) : Type 0 where
  pub says : Says ws (said ws)
  pub from : HasPlace (said ws) x
  pub to : HasPlace (said ws) d
  pub order : place_of (said ws) x ≤ place_of (said ws) d

-- the unmarked tags of a row, and those from one tag up to another
abbrev pub unmarked : Store → List ℕ → List ℕ
unmarked st = those (λ d. not (fact st d).marked)

unfoldable pub unmarked_between : Store → (x d : ℕ) → List ℕ
unmarked_between st x d = unmarked st (slice (place_of st x) (place_of st d) (row st))

-- 8, 9 and 10 of list, 0 where there is none (1 and 2 are the words', 11 the lent lists')
unfoldable pub inside_refusal : (section : ℕ) → Store → ℕ
inside_refusal x st = first (inside_tests x st) 0

-- where a listing starts: the first tag of the book, or the tag behind a begin; where it stops: behind the last tag, or at
-- the begin's mate
unfoldable pub first_inside : (section : ℕ) → Store → ℕ
first_inside x st = cond (eqb x no_tag) (get_or (row st) 0 no_tag) (next_in (row st) x)

unfoldable pub stop_of : (section : ℕ) → Store → ℕ
stop_of x st = cond (eqb x no_tag) no_tag (fact st x).mate

-- one of two lists has less room than so many
unfoldable pub short : (many tags labels : ℕ) → Bool
short many tags labels = ltb tags many || ltb labels many
