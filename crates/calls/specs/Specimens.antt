-- Specimens A to L of document 01, and others that tell the calls from wrong ones: one table, which proofs/Specimens.antt
-- shows to hold. Each is a list of calls over one lent slice of words, all 0 at first, with the numbers that each
-- replies. Expected values are worked out by hand from document 01.
use Rattle.store_types.specs.Replies.{count_numbers}
use Rattle.std.specs.Prelude.{Bool, true, ◌&&◌, List, [], ◌∷◌, ℕ, length, replicate}
use Rattle.store_types.specs.Limits.{no_tag}
use Rattle.store_types.specs.declared.HeldPair.{HeldPair}
use Rattle.lists.specs.Lists.{same}
use Rattle.store_types.specs.Layout.{header_words, words_for}
use Rattle.calls.specs.Replies.{load_reply, load_words, insert_reply, insert_words, mark_reply, mark_words, hold_reply, question_reply, list_reply, list_tags, list_labels, load_numbers, insert_numbers, hold_numbers, question_numbers}

-- a call and the numbers it replies; a list also says the tags and labels that it writes; `sizes` is a load of which only
-- the reply is looked at
pub data Exchange : Type 0 where
  sizes : (s r : ℕ) → (kinds replies : List ℕ) → Exchange
  load : (s r number : ℕ) → (kinds replies : List ℕ) → Exchange
  insert : (kind place : ℕ) → (replies : List ℕ) → Exchange
  mark : (section : ℕ) → (replies : List ℕ) → Exchange
  hold : (section : ℕ) → (replies : List ℕ) → Exchange
  ask : (number tag start end d : ℕ) → (replies : List ℕ) → Exchange
  list : (section : ℕ) → (replies tags labels : List ℕ) → Exchange

unfoldable pub pair : (number tag start end : ℕ) → HeldPair
pair b x l k = record { book = b; tag = record { 0 = x }; start = record { 0 = l }; end = record { 0 = k } }

unfoldable pub replies_hold : (words : List ℕ) → List Exchange → Bool
replies_hold ws [] = true
replies_hold ws (sizes s r cs q ∷ es) = same (load_numbers (load_reply s r 0 cs ws)) q && replies_hold ws es
replies_hold ws (load s r b cs q ∷ es) = same (load_numbers (load_reply s r b cs ws)) q && replies_hold (load_words s r b cs ws) es
replies_hold ws (insert c y q ∷ es) = same (insert_numbers (insert_reply c y ws)) q && replies_hold (insert_words c y ws) es
replies_hold ws (mark x q ∷ es) = same (count_numbers (mark_reply x ws)) q && replies_hold (mark_words x ws) es
replies_hold ws (hold x q ∷ es) = same (hold_numbers (hold_reply x ws)) q && replies_hold ws es
replies_hold ws (ask b x l k d q ∷ es) = same (question_numbers (question_reply (pair b x l k) d ws)) q && replies_hold ws es
replies_hold ws (list x q ts ls ∷ es) =
    (same (count_numbers (list_reply x ws ts ls)) q && (same (list_tags x ws (replicate (length ts) 0) ls) ts && same (list_labels x ws ts (replicate (length ls) 0)) ls))
    && replies_hold ws es

-- so many tags fit the lent words
pub record Specimen : Type 0 where
  pub room : ℕ
  pub exchanges : List Exchange

unfoldable pub specimen_holds : Specimen → Bool
specimen_holds e = replies_hold (replicate (words_for header_words e.room) 0) e.exchanges

abbrev texts : ℕ → List ℕ
texts n = replicate n 3

-- BBEBEE
abbrev printed : List ℕ
printed = 1 ∷ 1 ∷ 2 ∷ 1 ∷ 2 ∷ 2 ∷ []

abbrev pub specimen_table : List Specimen
specimen_table =
    -- A, B, C: 0, 3 and 4 texts
    record { room = 0; exchanges = load 2 2 7 [] (0 ∷ 0 ∷ 1 ∷ []) ∷ list no_tag (0 ∷ 0 ∷ []) [] [] ∷ [] } ∷
    record {
      room = 3;
      exchanges = load 2 2 7 (texts 3) (0 ∷ 3 ∷ 1 ∷ []) ∷ list no_tag (0 ∷ 3 ∷ []) (0 ∷ 1 ∷ 2 ∷ []) (0 ∷ 1 ∷ 2 ∷ []) ∷ [];
    } ∷
    record {
      room = 4;
      exchanges =
          load 2 2 7 (texts 4) (0 ∷ 4 ∷ 2 ∷ []) ∷ list no_tag (0 ∷ 4 ∷ []) (0 ∷ 1 ∷ 2 ∷ 3 ∷ []) (0 ∷ 1 ∷ 3 ∷ 4 ∷ []) ∷ [];
    } ∷
    -- D, E: 5 texts, then a text after tag 4
    record {
      room = 6;
      exchanges =
          load 2 2 7 (texts 5) (0 ∷ 5 ∷ 2 ∷ []) ∷ list no_tag (0 ∷ 5 ∷ []) (0 ∷ 1 ∷ 2 ∷ 3 ∷ 4 ∷ []) (0 ∷ 1 ∷ 3 ∷ 4 ∷ 5 ∷ []) ∷
          insert 3 4 (0 ∷ 5 ∷ 1 ∷ 1 ∷ []) ∷
          list no_tag (0 ∷ 6 ∷ []) (0 ∷ 1 ∷ 2 ∷ 3 ∷ 4 ∷ 5 ∷ []) (0 ∷ 1 ∷ 3 ∷ 4 ∷ 6 ∷ 7 ∷ []) ∷ [];
    } ∷
    -- F to J: the printed case, with the pairs of tags 3, 1 and 0 held before it
    record {
      room = 8;
      exchanges =
          load 2 2 7 printed (0 ∷ 6 ∷ 2 ∷ []) ∷
          hold 3 (0 ∷ 7 ∷ 3 ∷ 4 ∷ 6 ∷ []) ∷ hold 1 (0 ∷ 7 ∷ 1 ∷ 1 ∷ 3 ∷ []) ∷ hold 0 (0 ∷ 7 ∷ 0 ∷ 0 ∷ 7 ∷ []) ∷
          insert 3 2 (0 ∷ 6 ∷ 1 ∷ 0 ∷ []) ∷
          ask 7 3 4 6 6 (0 ∷ 2 ∷ []) ∷ ask 7 0 0 7 6 (0 ∷ 1 ∷ []) ∷
          insert 3 2 (0 ∷ 7 ∷ 4 ∷ 2 ∷ []) ∷
          ask 7 1 1 3 6 (0 ∷ 0 ∷ []) ∷ ask 7 0 0 7 6 (0 ∷ 2 ∷ []) ∷
          list no_tag (0 ∷ 8 ∷ []) (0 ∷ 1 ∷ 2 ∷ 7 ∷ 6 ∷ 3 ∷ 4 ∷ 5 ∷ []) (0 ∷ 1 ∷ 3 ∷ 4 ∷ 9 ∷ 10 ∷ 12 ∷ 13 ∷ []) ∷
          -- a section's own two tags give no, and a list of it has only what is strictly inside
          ask 7 0 0 13 0 (0 ∷ 0 ∷ []) ∷ ask 7 0 0 13 5 (0 ∷ 0 ∷ []) ∷
          list 0 (0 ∷ 6 ∷ []) (1 ∷ 2 ∷ 7 ∷ 6 ∷ 3 ∷ 4 ∷ []) (1 ∷ 3 ∷ 4 ∷ 9 ∷ 10 ∷ 12 ∷ []) ∷ [];
    } ∷
    -- K, L: s = 16, r = 2; 31^6 ≤ 2^32 < 31^7. And 128 texts at s = 12: 23^7 ≤ 2^32 < 24^7
    record { room = 127; exchanges = sizes 16 2 (texts 127) (0 ∷ 127 ∷ 6 ∷ []) ∷ [] } ∷
    record { room = 128; exchanges = sizes 16 2 (texts 128) (7 ∷ []) ∷ sizes 12 2 (texts 128) (0 ∷ 128 ∷ 7 ∷ []) ∷ [] } ∷
    -- right siblings of a split node move
    record {
      room = 6;
      exchanges =
          load 2 2 7 (texts 4) (0 ∷ 4 ∷ 2 ∷ []) ∷ insert 3 0 (0 ∷ 4 ∷ 1 ∷ 0 ∷ []) ∷ insert 3 0 (0 ∷ 5 ∷ 4 ∷ 1 ∷ []) ∷ [];
    } ∷
    -- a marked tag counts as a leaf: the fourth tag brings the root to its limit
    record {
      room = 4;
      exchanges =
          load 2 2 7 (texts 3) (0 ∷ 3 ∷ 1 ∷ []) ∷ mark 1 (0 ∷ 1 ∷ []) ∷ insert 3 2 (0 ∷ 3 ∷ 1 ∷ 1 ∷ []) ∷
          list no_tag (0 ∷ 3 ∷ []) (0 ∷ 2 ∷ 3 ∷ []) (0 ∷ 3 ∷ 4 ∷ []) ∷ [];
    } ∷
    -- a marked tag moves and does not count as moved (document 02, CR 4): where nothing is split; among the right siblings of
    -- a split node; in a split root, and shifted again
    record {
      room = 5;
      exchanges =
          load 2 2 7 (texts 4) (0 ∷ 4 ∷ 2 ∷ []) ∷ mark 1 (0 ∷ 1 ∷ []) ∷ insert 3 0 (0 ∷ 4 ∷ 0 ∷ 0 ∷ []) ∷
          list no_tag (0 ∷ 4 ∷ []) (0 ∷ 4 ∷ 2 ∷ 3 ∷ []) (0 ∷ 1 ∷ 3 ∷ 4 ∷ []) ∷ [];
    } ∷
    record {
      room = 6;
      exchanges =
          load 2 2 7 (texts 4) (0 ∷ 4 ∷ 2 ∷ []) ∷ mark 3 (0 ∷ 1 ∷ []) ∷ insert 3 0 (0 ∷ 4 ∷ 1 ∷ 0 ∷ []) ∷ insert 3 0 (0 ∷ 5 ∷ 3 ∷ 1 ∷ []) ∷
          list no_tag (0 ∷ 5 ∷ []) (0 ∷ 5 ∷ 4 ∷ 1 ∷ 2 ∷ []) (0 ∷ 1 ∷ 3 ∷ 4 ∷ 6 ∷ []) ∷ [];
    } ∷
    record {
      room = 5;
      exchanges =
          load 2 2 7 (1 ∷ 3 ∷ 2 ∷ []) (0 ∷ 3 ∷ 1 ∷ []) ∷ mark 0 (0 ∷ 3 ∷ []) ∷
          insert 3 no_tag (0 ∷ 3 ∷ 0 ∷ 1 ∷ []) ∷ insert 3 no_tag (0 ∷ 4 ∷ 1 ∷ 0 ∷ []) ∷ [];
    } ∷
    -- and by an element: both of its tags at once, and one after the other
    record { room = 4; exchanges = load 2 2 7 (texts 2) (0 ∷ 2 ∷ 1 ∷ []) ∷ mark 1 (0 ∷ 1 ∷ []) ∷ insert 1 no_tag (0 ∷ 2 ∷ 1 ∷ 1 ∷ []) ∷ [] } ∷
    record { room = 4; exchanges = load 3 2 7 (texts 2) (0 ∷ 2 ∷ 1 ∷ []) ∷ mark 1 (0 ∷ 1 ∷ []) ∷ insert 1 no_tag (0 ∷ 2 ∷ 1 ∷ 0 ∷ []) ∷ [] } ∷
    -- a pair of another book is stale, whatever its labels and tag; of a marked section too; the refusals of the question
    record {
      room = 6;
      exchanges =
          load 2 2 7 printed (0 ∷ 6 ∷ 2 ∷ []) ∷ ask 7 0 0 7 1 (0 ∷ 1 ∷ []) ∷ ask 8 0 0 7 1 (0 ∷ 2 ∷ []) ∷ ask 8 6 0 7 1 (0 ∷ 2 ∷ []) ∷
          ask 7 6 0 7 1 (8 ∷ []) ∷ ask 7 0 0 7 6 (8 ∷ []) ∷ ask 7 2 0 7 1 (10 ∷ []) ∷
          mark 1 (0 ∷ 2 ∷ []) ∷ ask 7 1 1 3 0 (0 ∷ 2 ∷ []) ∷ ask 7 0 0 7 1 (9 ∷ []) ∷ ask 7 0 0 7 4 (0 ∷ 1 ∷ []) ∷ [];
    } ∷
    -- an element at the front and inside; marks reach all inside, and only those that became marked count
    record {
      room = 8;
      exchanges =
          load 2 2 7 (1 ∷ 2 ∷ []) (0 ∷ 2 ∷ 1 ∷ []) ∷ insert 1 no_tag (0 ∷ 2 ∷ 2 ∷ 1 ∷ []) ∷
          list no_tag (0 ∷ 4 ∷ []) (2 ∷ 3 ∷ 0 ∷ 1 ∷ []) (0 ∷ 1 ∷ 3 ∷ 4 ∷ []) ∷
          insert 1 0 (0 ∷ 4 ∷ 1 ∷ 1 ∷ []) ∷
          list no_tag (0 ∷ 6 ∷ []) (2 ∷ 3 ∷ 0 ∷ 4 ∷ 5 ∷ 1 ∷ []) (0 ∷ 1 ∷ 3 ∷ 4 ∷ 6 ∷ 7 ∷ []) ∷
          mark 4 (0 ∷ 2 ∷ []) ∷ mark 0 (0 ∷ 2 ∷ []) ∷
          list no_tag (0 ∷ 2 ∷ []) (2 ∷ 3 ∷ []) (0 ∷ 1 ∷ []) ∷ list 2 (0 ∷ 0 ∷ []) [] [] ∷ [];
    } ∷
    -- the refusals, in their order
    record {
      room = 3;
      exchanges =
          mark no_tag (2 ∷ []) ∷ load 1 2 7 (9 ∷ []) (3 ∷ []) ∷ load 2 17 7 [] (3 ∷ []) ∷ load 2 2 7 (texts 4) (1 ∷ []) ∷
          load 2 2 7 (1 ∷ 4 ∷ []) (4 ∷ []) ∷ load 2 2 7 (1 ∷ 3 ∷ []) (5 ∷ []) ∷ load 2 2 7 (2 ∷ 1 ∷ []) (5 ∷ []) ∷
          load 2 2 7 (1 ∷ 2 ∷ []) (0 ∷ 2 ∷ 1 ∷ []) ∷ insert 2 9 (4 ∷ []) ∷ insert 3 2 (8 ∷ []) ∷ insert 1 0 (6 ∷ []) ∷
          mark 1 (10 ∷ []) ∷ mark no_tag (8 ∷ []) ∷ hold 1 (10 ∷ []) ∷ list 1 (10 ∷ []) [] [] ∷ insert 3 0 (0 ∷ 2 ∷ 1 ∷ 0 ∷ []) ∷
          list 2 (10 ∷ []) [] [] ∷ list no_tag (11 ∷ []) (0 ∷ 0 ∷ []) (0 ∷ 0 ∷ 0 ∷ []) ∷ hold 2 (0 ∷ 7 ∷ 2 ∷ 1 ∷ 1 ∷ []) ∷
          mark 2 (0 ∷ 1 ∷ []) ∷ mark 2 (9 ∷ []) ∷ hold 2 (9 ∷ []) ∷ insert 3 2 (9 ∷ []) ∷ mark 0 (0 ∷ 2 ∷ []) ∷
          list 1 (9 ∷ []) [] [] ∷ hold 1 (9 ∷ []) ∷ insert 3 no_tag (6 ∷ []) ∷ [];
    } ∷
    []
