-- The refusal that a reply tells is the one that the definitions give, and what is written goes by it: of changes and of the reading of
-- a file. Assumes nothing.
use mathlib.Core.Path.{◌≡◌, refl}
use mathlib.Core.Bool.{false, true≢false}
use mathlib.Core.List.{List, head_d}
use Prim.Native.Nat.{ℕ, zero, suc}
use lib.Dec.{eqb}
use lib.ListN.{length}
use Rattle.store_types.specs.Replies.{count_numbers}
use Rattle.lists.specs.Fronts.{replied, written}
use Rattle.lists.proofs.Replied.{first_number}
use Rattle.calls.specs.Store.{Store}
use Rattle.calls.specs.Load.{load_refusal}
use Rattle.calls.specs.Words.{words_of, Says}
use Rattle.calls.specs.Replies.{refusal_over, said, load_reply, load_words, insert_refused, insert_reply, insert_words, insert_sheet_refused, insert_sheet_reply, insert_sheet_words, mark_reply, mark_words, file_refusal, read_reply, read_words, load_numbers, insert_numbers}
use Rattle.calls.specs.Changes.{Change, load, insert, sheet, mark, refusal, changed}
use Rattle.calls_laws.proofs.WordSteps.{refusal_said}
use Rattle.system.specs.System.{numbers_of, refusal_in, change_reply, change_words}
use Rattle.std.specs.Prelude.{Err}

-- A CHANGE over words: 1 and 2 come first on all but load
unfoldable pub change_refused : Change → (words : List ℕ) → ℕ
change_refused (load s r b cs) ws = load_refusal (length ws) s r cs
change_refused (insert c x) ws = insert_refused c x ws
change_refused (sheet cs x) ws = insert_sheet_refused cs x ws
change_refused (mark x) ws = refusal_over ws (refusal (length ws) (mark x))

pub change_tells : (c : Change) (ws : List ℕ) → refusal_in (numbers_of (change_reply c ws)) ≡ change_refused c ws
unfolding refusal_in numbers_of change_reply change_refused refusal load_reply insert_reply insert_sheet_reply mark_reply load_numbers insert_numbers count_numbers head_d
change_tells (load s r b cs) ws = first_number Err load_numbers (load_refusal (length ws) s r cs) _ (λ i. refl) refl
change_tells (insert c x) ws = first_number Err insert_numbers (insert_refused c x ws) _ (λ i. refl) refl
change_tells (sheet cs x) ws = first_number Err insert_numbers (insert_sheet_refused cs x ws) _ (λ i. refl) refl
change_tells (mark x) ws = first_number Err count_numbers (refusal_over ws (refusal (length ws) (mark x))) _ (λ i. refl) refl

pub change_writes : (c : Change) (ws : List ℕ) → change_words c ws ≡ written (change_refused c ws) (words_of (changed c (said ws))) ws
unfolding change_words change_refused changed refusal load_words insert_words insert_sheet_words mark_words
change_writes (load s r b cs) ws = refl
change_writes (insert c x) ws = refl
change_writes (sheet cs x) ws = refl
change_writes (mark x) ws = refl

-- on words that say a store it is the refusal of the change there
pub change_said : (c : Change) (ws : List ℕ) (st : Store) → Says ws st → change_refused c ws ≡ refusal (length ws) c st
unfolding change_refused refusal insert_refused insert_sheet_refused
change_said (load s r b cs) ws st h = refl
change_said (insert c x) ws st h = refusal_said ws st h (refusal (length ws) (insert c x))
change_said (sheet cs x) ws st h = refusal_said ws st h (refusal (length ws) (sheet cs x))
change_said (mark x) ws st h = refusal_said ws st h (refusal (length ws) (mark x))

-- THE READING OF A FILE
pub restore_tells : (bs ws : List ℕ) → refusal_in (load_numbers (read_reply bs ws)) ≡ file_refusal (length ws) bs
unfolding refusal_in read_reply load_numbers head_d
restore_tells bs ws = first_number Err load_numbers (file_refusal (length ws) bs) _ (λ i. refl) refl

-- WHAT IS WRITTEN by a call that is refused is nothing
pub written_stays : (k : ℕ) (new old : List ℕ) → eqb k 0 ≡ false → written k new old ≡ old
unfolding written replied
written_stays zero new old f = absurd (true≢false f)
written_stays (suc k) new old f = refl
