-- What each call replies, and what the lent words then hold: for every input, words of any length and content
-- (document 01, "Calls and their replies"). Assumes nothing: these are definitions.
use Rattle.std.specs.Prelude.{not, cond, List, [], ◌∷◌, map, ℕ, ltb, length, Result, Ok, Err}
use Rattle.std.proofs.Math.Option.{Option, none, some}
use Rattle.store_types.specs.declared.HeldPair.{HeldPair}
use Rattle.store_types.specs.declared.Answer.{Answer}
use Rattle.store_types.specs.declared.Answer.TheVariants.{Yes, No, Stale}
use Rattle.store_types.specs.Layout.{header_words, words_for}
use Rattle.store_types.specs.FileLayout.{file_bytes}
use Rattle.lists.specs.Lists.{first}
use Rattle.lists.specs.Fronts.{replied, written}
use Rattle.tree.specs.Book.{height, loaded}
use Rattle.calls.specs.Kind.{kind_of}
use Rattle.calls.specs.Store.{Store, count}
use Rattle.calls.specs.Load.{load_refusal, load_store}
use Rattle.calls.specs.Insert.{insert_kinds, insert_refusal, insert_store, insert_moved, insert_split, insert_sheet_refusal, insert_sheet_store}
use Rattle.calls.specs.Mark.{section_refusal, mark_store, mark_count}
use Rattle.calls.specs.Held.{hold_pair, question}
use Rattle.calls.specs.Listing.{list_refusal, listed_tags, listed_labels}
use Rattle.calls.specs.Words.{words_of, read}
use Rattle.calls.specs.File.{file_of, count_in, formed, read_file}
use Rattle.store_types.specs.Replies.{load_made, insert_made}
use Rattle.store_types.specs.declared.Loaded.{Loaded}
use Rattle.store_types.specs.declared.Inserted.{Inserted}

-- 1 and 2 come first on every call but load and the reading of a file: under 8 words; no store is said. Then the refusal of the
-- store that is
unfoldable pub on_store : Option Store → (refusal : Store → ℕ) → ℕ
on_store none f = 2
on_store (some st) f = f st

unfoldable pub refusal_over : (words : List ℕ) → (refusal : Store → ℕ) → ℕ
refusal_over ws f = cond (ltb (length ws) header_words) 1 (on_store (read ws) f)

-- the store that words say; where they say none, every call has refused them already
unfoldable pub store_or : Option Store → Store
store_or none = load_store 2 2 0 []
store_or (some st) = st

unfoldable pub said : (words : List ℕ) → Store
said ws = store_or (read ws)

-- LOAD
unfoldable pub load_reply : (s r number : ℕ) → (kinds words : List ℕ) → Result Loaded ℕ
load_reply s r b cs ws = replied Err (load_refusal (length ws) s r cs) (Ok (load_made (length cs) (height (loaded s r (length cs)))))

unfoldable pub load_words : (s r number : ℕ) → (kinds words : List ℕ) → List ℕ
load_words s r b cs ws = written (load_refusal (length ws) s r cs) (words_of (load_store s r b cs)) ws

-- INSERT
unfoldable pub insert_refused : (kind place : ℕ) → (words : List ℕ) → ℕ
insert_refused c y ws = refusal_over ws (insert_refusal (length ws) c y)

unfoldable pub insert_reply : (kind place : ℕ) → (words : List ℕ) → Result Inserted ℕ
insert_reply c y ws =
    let st = said ws in
    replied Err (insert_refused c y ws)
    (Ok (insert_made (record { 0 = count st }) (insert_moved (insert_kinds c) y st) (insert_split (insert_kinds c) y st)))

unfoldable pub insert_words : (kind place : ℕ) → (words : List ℕ) → List ℕ
insert_words c y ws = written (insert_refused c y ws) (words_of (insert_store (insert_kinds c) y (said ws))) ws

-- INSERTION OF A SHEET (document 02, CR 5)
unfoldable pub insert_sheet_refused : (kinds : List ℕ) → (place : ℕ) → (words : List ℕ) → ℕ
insert_sheet_refused cs y ws = refusal_over ws (insert_sheet_refusal (length ws) cs y)

unfoldable pub insert_sheet_reply : (kinds : List ℕ) → (place : ℕ) → (words : List ℕ) → Result Inserted ℕ
insert_sheet_reply cs y ws =
    let st = said ws in
    let ks = map kind_of cs in
    replied Err (insert_sheet_refused cs y ws) (Ok (insert_made (record { 0 = count st }) (insert_moved ks y st) (insert_split ks y st)))

unfoldable pub insert_sheet_words : (kinds : List ℕ) → (place : ℕ) → (words : List ℕ) → List ℕ
insert_sheet_words cs y ws = written (insert_sheet_refused cs y ws) (words_of (insert_sheet_store (map kind_of cs) y (said ws))) ws

-- MARK
unfoldable pub mark_reply : (section : ℕ) → (words : List ℕ) → Result ℕ ℕ
mark_reply x ws = replied Err (refusal_over ws (section_refusal x)) (Ok (mark_count x (said ws)))

unfoldable pub mark_words : (section : ℕ) → (words : List ℕ) → List ℕ
mark_words x ws = written (refusal_over ws (section_refusal x)) (words_of (mark_store x (said ws))) ws

-- HOLD
unfoldable pub hold_reply : (section : ℕ) → (words : List ℕ) → Result HeldPair ℕ
hold_reply x ws = replied Err (refusal_over ws (section_refusal x)) (Ok (hold_pair x (said ws)))

-- THE HELD-PAIR QUESTION
unfoldable pub question_reply : HeldPair → (d : ℕ) → (words : List ℕ) → Result Answer ℕ
question_reply p d ws = replied Err (refusal_over ws (λ st. 0)) (question p d (said ws))

-- LIST, into two lent lists
unfoldable pub list_refused : (section : ℕ) → (words tags labels : List ℕ) → ℕ
list_refused x ws ts ls = refusal_over ws (list_refusal (length ts) (length ls) x)

unfoldable pub list_reply : (section : ℕ) → (words tags labels : List ℕ) → Result ℕ ℕ
list_reply x ws ts ls = replied Err (list_refused x ws ts ls) (Ok (length (listed_tags x (said ws))))

unfoldable pub list_tags : (section : ℕ) → (words tags labels : List ℕ) → List ℕ
list_tags x ws ts ls = written (list_refused x ws ts ls) (listed_tags x (said ws)) ts

unfoldable pub list_labels : (section : ℕ) → (words tags labels : List ℕ) → List ℕ
list_labels x ws ts ls = written (list_refused x ws ts ls) (listed_labels x (said ws)) ls

-- WRITING A FILE into lent bytes (document 02, CR 3): 16 where so many are too few
unfoldable pub write_refusal : (lent : ℕ) → Store → ℕ
write_refusal lent st = cond (ltb lent (file_bytes (count st))) 16 0

unfoldable pub write_refused : (words bytes : List ℕ) → ℕ
write_refused ws bs = refusal_over ws (write_refusal (length bs))

unfoldable pub write_reply : (words bytes : List ℕ) → Result ℕ ℕ
write_reply ws bs = replied Err (write_refused ws bs) (Ok (file_bytes (count (said ws))))

unfoldable pub write_bytes : (words bytes : List ℕ) → List ℕ
write_bytes ws bs = written (write_refused ws bs) (file_of (said ws)) bs

-- READING A FILE into lent words: 15, 1 as on load, 2
unfoldable pub file_refusal : (lent : ℕ) → (bytes : List ℕ) → ℕ
file_refusal lent bs =
    first ((not (formed bs), 15) ∷ (ltb lent (words_for header_words (count_in bs)), 1) ∷ []) (on_store (read_file bs) (λ st. 0))

unfoldable pub read_reply : (bytes words : List ℕ) → Result Loaded ℕ
read_reply bs ws =
    let st = store_or (read_file bs) in replied Err (file_refusal (length ws) bs) (Ok (load_made (count st) (height st.book)))

unfoldable pub read_words : (bytes words : List ℕ) → List ℕ
read_words bs ws = written (file_refusal (length ws) bs) (words_of (store_or (read_file bs))) ws

-- THE NUMBERS OF A REPLY, as document 01 gives them: 0 (ok) and the reply's values in its order, or the refusal alone
unfoldable pub load_numbers : Result Loaded ℕ → List ℕ
load_numbers (Ok l) = 0 ∷ l.tags ∷ l.height ∷ []
load_numbers (Err k) = k ∷ []

unfoldable pub insert_numbers : Result Inserted ℕ → List ℕ
insert_numbers (Ok i) = 0 ∷ i.first.0 ∷ i.moved ∷ i.split ∷ []
insert_numbers (Err k) = k ∷ []

unfoldable pub hold_numbers : Result HeldPair ℕ → List ℕ
hold_numbers (Ok p) = 0 ∷ p.book ∷ p.tag.0 ∷ p.start.0 ∷ p.end.0 ∷ []
hold_numbers (Err k) = k ∷ []

-- 0 no, 1 yes, 2 stale
unfoldable pub answer_number : Answer → ℕ
answer_number No = 0
answer_number Yes = 1
answer_number Stale = 2

unfoldable pub question_numbers : Result Answer ℕ → List ℕ
question_numbers (Ok a) = 0 ∷ answer_number a ∷ []
question_numbers (Err k) = k ∷ []
