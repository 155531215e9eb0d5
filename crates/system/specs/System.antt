-- The system: the words of a store, a lent list of grants and their count. Every entry is a call on it: what it replies, and what it
-- leaves (document 01, "Calls and their replies"; document 02, CR 3, 5 and 6). Assumes nothing: these are definitions.
use Rattle.store_types.specs.Replies.{count_numbers}
use Rattle.std.specs.Prelude.{Bool, ℕ, eqb, take, Result}
use mathlib.Core.List.{List, [], ◌∷◌, head_d}
use Rattle.store_types.specs.declared.Act.{Act}
use Rattle.store_types.specs.declared.Grant.{Grant}
use Rattle.store_types.specs.declared.HeldPair.{HeldPair}
use Rattle.calls.specs.Replies.{load_reply, load_words, insert_reply, insert_words, insert_sheet_reply, insert_sheet_words, mark_reply, mark_words, hold_reply, question_reply, list_reply, list_tags, list_labels, write_reply, write_bytes, read_reply, read_words, load_numbers, insert_numbers, hold_numbers, question_numbers}
use Rattle.calls.specs.Rights.{grant_reply, grant_count, grant_list, revoke_reply, revoke_count, revoke_list, party_reply, party_words, emptied_by, party_numbers}
use Rattle.calls.specs.Changes.{Change, load, insert, sheet, mark}
use Rattle.store_types.specs.declared.Loaded.{Loaded}
use Rattle.store_types.specs.declared.Inserted.{Inserted}
use Rattle.store_types.specs.declared.PartyAnswer.{PartyAnswer}
use Rattle.store_types.specs.declared.Answer.{Answer}

pub record System : Type 0 where
  pub words : List ℕ
  pub grants : List Grant
  pub count : ℕ

-- the live grants
abbrev pub live : System → List Grant
live y = take y.count y.grants

-- THE CALLS, sorted by what they may write. A reading writes no word of the store, but lists or bytes that its caller lends
pub data Reading : Type 0 where
  hold : (section : ℕ) → Reading
  ask : HeldPair → (d : ℕ) → Reading
  list : (section : ℕ) → (tags labels : List ℕ) → Reading
  write : (bytes : List ℕ) → Reading

-- the list of grants and its count. A caller may lend any: `lend` puts them in place
pub data Keeping : Type 0 where
  grant : (party section rights : ℕ) → Keeping
  revoke : (party section : ℕ) → Keeping
  lend : List Grant → (count : ℕ) → Keeping

-- a change of the store; a reading; a call on the grants; a party's call; the reading of a file; and load and the reading of a file
-- where the caller lends the count of grants too, which they end
pub data Call : Type 0 where
  changes : Change → Call
  reads : Reading → Call
  keeps : Keeping → Call
  acts : (party : ℕ) → Act → Call
  restores : (bytes : List ℕ) → Call
  load_with_grants : (s r number : ℕ) → (kinds : List ℕ) → Call
  restore_with_grants : (bytes : List ℕ) → Call

-- THE REPLIES. What a reading found
pub data Finding : Type 0 where
  held : Result HeldPair ℕ → Finding
  answered : Result Answer ℕ → Finding
  listed : Result ℕ ℕ → Finding
  filed : Result ℕ ℕ → Finding

-- what became of the grants
pub data KeepingReply : Type 0 where
  granted : Result ℕ ℕ → KeepingReply
  revoked : Result ℕ ℕ → KeepingReply
  lent : KeepingReply

-- a reading's reply comes with what the lists then hold that its caller lent
pub data Reply : Type 0 where
  loaded : Result Loaded ℕ → Reply
  inserted : Result Inserted ℕ → Reply
  marked : Result ℕ ℕ → Reply
  found : Finding → (lists : List (List ℕ)) → Reply
  kept : KeepingReply → Reply
  acted : Result PartyAnswer ℕ → Reply

-- the papers' numbers of a reply: 0 and its values, or the refusal alone
unfoldable pub finding_numbers : Finding → List ℕ
finding_numbers (held q) = hold_numbers q
finding_numbers (answered q) = question_numbers q
finding_numbers (listed q) = count_numbers q
finding_numbers (filed q) = count_numbers q

unfoldable pub keeping_numbers : KeepingReply → List ℕ
keeping_numbers (granted q) = count_numbers q
keeping_numbers (revoked q) = count_numbers q
keeping_numbers lent = 0 ∷ []

unfoldable pub numbers_of : Reply → List ℕ
numbers_of (loaded q) = load_numbers q
numbers_of (inserted q) = insert_numbers q
numbers_of (marked q) = count_numbers q
numbers_of (found q ls) = finding_numbers q
numbers_of (kept q) = keeping_numbers q
numbers_of (acted q) = party_numbers q

-- the first number is the refusal, 0 where the call is accepted: stale is no refusal, of a question and of a party's call alike
unfoldable pub refusal_in : List ℕ → ℕ
refusal_in ns = head_d ns 0

unfoldable pub accepted : Reply → Bool
accepted q = eqb (refusal_in (numbers_of q)) 0

-- WHAT EACH REPLIES AND LEAVES. Changes
unfoldable pub change_reply : Change → (words : List ℕ) → Reply
change_reply (load s r b cs) ws = loaded (load_reply s r b cs ws)
change_reply (insert c x) ws = inserted (insert_reply c x ws)
change_reply (sheet cs x) ws = inserted (insert_sheet_reply cs x ws)
change_reply (mark x) ws = marked (mark_reply x ws)

unfoldable pub change_words : Change → (words : List ℕ) → List ℕ
change_words (load s r b cs) ws = load_words s r b cs ws
change_words (insert c x) ws = insert_words c x ws
change_words (sheet cs x) ws = insert_sheet_words cs x ws
change_words (mark x) ws = mark_words x ws

-- readings: what is found, and what the lent lists and bytes then hold
unfoldable pub finding : Reading → (words : List ℕ) → Finding
finding (hold x) ws = held (hold_reply x ws)
finding (ask p d) ws = answered (question_reply p d ws)
finding (list x ts ls) ws = listed (list_reply x ws ts ls)
finding (write bs) ws = filed (write_reply ws bs)

unfoldable pub reading_lists : Reading → (words : List ℕ) → List (List ℕ)
reading_lists (hold x) ws = []
reading_lists (ask p d) ws = []
reading_lists (list x ts ls) ws = list_tags x ws ts ls ∷ list_labels x ws ts ls ∷ []
reading_lists (write bs) ws = write_bytes ws bs ∷ []

-- grants
unfoldable pub keeping : Keeping → System → KeepingReply
keeping (grant p x q) y = granted (grant_reply p x q y.count y.grants y.words)
keeping (revoke p x) y = revoked (revoke_reply p x y.count y.grants)
keeping (lend gs c) y = lent

unfoldable pub kept_grants : Keeping → System → List Grant
kept_grants (grant p x q) y = grant_list p x q y.count y.grants y.words
kept_grants (revoke p x) y = revoke_list p x y.count y.grants
kept_grants (lend gs c) y = gs

unfoldable pub kept_count : Keeping → System → ℕ
kept_count (grant p x q) y = grant_count p x q y.count y.grants y.words
kept_count (revoke p x) y = revoke_count p x y.count y.grants
kept_count (lend gs c) y = c

-- every call
unfoldable pub reply : Call → System → Reply
reply (changes c) y = change_reply c y.words
reply (reads r) y = found (finding r y.words) (reading_lists r y.words)
reply (keeps k) y = kept (keeping k y)
reply (acts p a) y = acted (party_reply p a y.count y.grants y.words)
reply (restores bs) y = loaded (read_reply bs y.words)
reply (load_with_grants s r b cs) y = loaded (load_reply s r b cs y.words)
reply (restore_with_grants bs) y = loaded (read_reply bs y.words)

-- the system with other words, and with the count that a load or the reading of a file leaves
unfoldable pub with_words : (words : List ℕ) → System → System
with_words ws y = record { words = ws; grants = y.grants; count = y.count }

unfoldable pub ended_by : Result Loaded ℕ → (words : List ℕ) → System → System
ended_by q ws y = record { words = ws; grants = y.grants; count = emptied_by q y.count }

unfoldable pub step : Call → System → System
step (changes c) y = with_words (change_words c y.words) y
step (reads r) y = y
step (keeps k) y = record { words = y.words; grants = kept_grants k y; count = kept_count k y }
step (acts p a) y = with_words (party_words p a y.count y.grants y.words) y
step (restores bs) y = with_words (read_words bs y.words) y
step (load_with_grants s r b cs) y = ended_by (load_reply s r b cs y.words) (load_words s r b cs y.words) y
step (restore_with_grants bs) y = ended_by (read_reply bs y.words) (read_words bs y.words) y
