-- Held pairs and the question (document 01, "Calls and their replies"). Assumes nothing: these are definitions.
use Rattle.std.specs.Prelude.{Bool, ◌&&◌, ◌||◌, not, cond, List, [], ◌∷◌, ℕ, leb, ltb, eqb, Result, Ok, Err}
use Rattle.lists.specs.Lists.{those, first}
use Rattle.store_types.specs.declared.HeldPair.{HeldPair}
use Rattle.store_types.specs.declared.Answer.TheVariants.{Yes, No, Stale}
use Rattle.calls.specs.Kind.{is_begin}
use Rattle.calls.specs.Store.{Store, fact, count, row, place_of, label}
use Rattle.store_types.specs.declared.Answer.{Answer}

-- book, tag, start label, end label; the two labels are equal for a text, which is its own mate
unfoldable pub hold_pair : (section : ℕ) → Store → HeldPair
hold_pair x st =
    record { book = st.number; tag = record { 0 = x }; start = record { 0 = label st x }; end = record { 0 = label st (fact st x).mate } }

-- an element encloses a tag that stands between its two; its own two tags give no
unfoldable pub encloses : Store → (section tag : ℕ) → Bool
encloses st x d = ltb (place_of st x) (place_of st d) && ltb (place_of st d) (place_of st (fact st x).mate)

-- the elements around a tag, as begin tags in book order, marked ones too: the outermost first
unfoldable pub around : Store → (tag : ℕ) → List ℕ
around st x = those (λ b. is_begin (fact st b).kind && encloses st b x) (row st)

-- whether a pair's labels are the current ones and its section is not marked
unfoldable pub current : Store → HeldPair → Bool
current st p =
    (eqb p.start.0 (label st p.tag.0) && eqb p.end.0 (label st (fact st p.tag.0).mate)) && not (fact st p.tag.0).marked

-- stale if the book number differs, 8 (pair, then d), 10, stale if a label differs or the section is marked, 9 for d,
-- then yes or no (1 and 2 are the words')
unfoldable pub question_tests : HeldPair → (d : ℕ) → Store → List (Bool × Result Answer ℕ)
question_tests p d st =
    (not (eqb p.book st.number), Ok Stale)
    ∷ (leb (count st) p.tag.0 || leb (count st) d, Err 8)
    ∷ (not (is_begin (fact st p.tag.0).kind), Err 10)
    ∷ (not (current st p), Ok Stale)
    ∷ ((fact st d).marked, Err 9)
    ∷ []

unfoldable pub question : HeldPair → (d : ℕ) → Store → Result Answer ℕ
question p d st = first (question_tests p d st) (Ok (cond (encloses st p.tag.0 d) Yes No))
