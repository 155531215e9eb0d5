-- Mark (document 01, "Calls and their replies"): a begin or text and all inside. Labels and depths stay.
-- Assumes nothing: these are definitions.
use Rattle.std.specs.Prelude.{Bool, ◌&&◌, ◌||◌, not, cond, List, [], ◌∷◌, ℕ, suc, ◌+◌, leb}
use Rattle.lists.specs.Lists.{first}
use Rattle.calls.specs.Kind.{is_end}
use Rattle.calls.specs.Store.{Store, Fact, new_fact, fact, count, place_of}

-- whether a tag is the section's own or inside it: its place is from the section's begin to its end
unfoldable pub within : Store → (section tag : ℕ) → Bool
within st x d = leb (place_of st x) (place_of st d) && leb (place_of st d) (place_of st (fact st x).mate)

-- the facts of the tags d, d + 1, .. after the mark
unfoldable pub mark_facts : Store → (section d : ℕ) → List Fact → List Fact
mark_facts st x d [] = []
mark_facts st x d (t ∷ ts) =
    new_fact t.kind (t.marked || within st x d) t.mate t.up t.depth ∷ mark_facts st x (suc d) ts

unfoldable pub mark_store : (section : ℕ) → Store → Store
mark_store x st = record { book = st.book; number = st.number; stamp = suc st.stamp; facts = mark_facts st x 0 st.facts }

-- how many of the tags d, d + 1, .. become marked
unfoldable pub new_marks : Store → (section d : ℕ) → List Fact → ℕ
new_marks st x d [] = 0
new_marks st x d (t ∷ ts) = cond (not t.marked && within st x d) 1 0 + new_marks st x (suc d) ts

unfoldable pub mark_count : (section : ℕ) → Store → ℕ
mark_count x st = new_marks st x 0 st.facts

-- the refusals, each with its test, in order; 0 where none is met (1 and 2 are the words'); hold has the same
unfoldable pub section_tests : (section : ℕ) → Store → List (Bool × ℕ)
section_tests x st =
    (leb (count st) x, 8)
    ∷ ((fact st x).marked, 9)
    ∷ (is_end (fact st x).kind, 10)
    ∷ []

unfoldable pub section_refusal : (section : ℕ) → Store → ℕ
section_refusal x st = first (section_tests x st) 0
