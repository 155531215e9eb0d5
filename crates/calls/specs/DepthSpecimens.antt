-- Depths worked out by hand from document 02, CR 7: one table, which proofs/DepthSpecimens.antt shows to hold. Each is a list of
-- calls over one lent slice of words, all 0 at first, with what each replies and what the words then hold.
use Rattle.store_types.specs.Replies.{count_numbers}
use Rattle.std.specs.Prelude.{Bool, true, ◌&&◌, ◌||◌, List, [], ◌∷◌, ◌++◌, ℕ, suc, ◌-◌, eqb, length, take, drop, replicate}
use Rattle.lists.specs.Lists.{numbers, same, all_hold}
use Rattle.store_types.specs.Limits.{no_tag}
use Rattle.store_types.specs.Layout.{at_count, header_words, at_depth, word_at, field, with_field}
use Rattle.calls.specs.Replies.{load_reply, load_words, insert_reply, insert_words, insert_sheet_reply, insert_sheet_words, mark_reply, mark_words, hold_reply, load_numbers, insert_numbers, hold_numbers}
use Rattle.calls.specs.SheetSpecimens.{fields_hold}

-- a call and the numbers that it replies, of loads with book number 7; so many words more are lent, all 0; what the words then hold
-- after the header, and the depths of the tags from one on; and no word of depth is any other
pub data Deed : Type 0 where
  load : (s r : ℕ) → (kinds replies : List ℕ) → Deed
  insert : (kind place : ℕ) → (replies : List ℕ) → Deed
  sheet : (kinds : List ℕ) → (place : ℕ) → (replies : List ℕ) → Deed
  mark : (section : ℕ) → (replies : List ℕ) → Deed
  lend : (more : ℕ) → Deed
  records : (words : List ℕ) → Deed
  depths : (from : ℕ) → (values : List ℕ) → Deed
  alone : Deed

-- with another depth of a tag the words say no book: the call refuses with 2
unfoldable pub depth_fails : (words : List ℕ) → (tag depth : ℕ) → Bool
depth_fails ws x d = eqb (field ws x at_depth) d || same (hold_numbers (hold_reply 0 (with_field ws x at_depth d))) (2 ∷ [])

-- one more, one less, and no tag's number
unfoldable pub depth_alone : (words : List ℕ) → (tag : ℕ) → Bool
depth_alone ws x =
    let d = field ws x at_depth in depth_fails ws x (suc d) && (depth_fails ws x (d - 1) && depth_fails ws x no_tag)

unfoldable pub deeds_hold : (words : List ℕ) → List Deed → Bool
deeds_hold ws [] = true
deeds_hold ws (load s r cs q ∷ ds) = same (load_numbers (load_reply s r 7 cs ws)) q && deeds_hold (load_words s r 7 cs ws) ds
deeds_hold ws (insert c y q ∷ ds) = same (insert_numbers (insert_reply c y ws)) q && deeds_hold (insert_words c y ws) ds
deeds_hold ws (sheet cs y q ∷ ds) = same (insert_numbers (insert_sheet_reply cs y ws)) q && deeds_hold (insert_sheet_words cs y ws) ds
deeds_hold ws (mark x q ∷ ds) = same (count_numbers (mark_reply x ws)) q && deeds_hold (mark_words x ws) ds
deeds_hold ws (lend k ∷ ds) = deeds_hold (ws ++ replicate k 0) ds
deeds_hold ws (records vs ∷ ds) = same (take (length vs) (drop header_words ws)) vs && deeds_hold ws ds
deeds_hold ws (depths x vs ∷ ds) = fields_hold ws at_depth x vs && deeds_hold ws ds
deeds_hold ws (alone ∷ ds) = all_hold (depth_alone ws) (numbers 0 (word_at ws at_count)) && deeds_hold ws ds

pub record DepthSpecimen : Type 0 where
  pub lent : ℕ
  pub deeds : List Deed

unfoldable pub depth_specimen_holds : DepthSpecimen → Bool
depth_specimen_holds e = deeds_hold (replicate e.lent 0) e.deeds

-- BBEBEE, and the records of that book
abbrev printed : List ℕ
printed = 1 ∷ 1 ∷ 2 ∷ 1 ∷ 2 ∷ 2 ∷ []

abbrev pub printed_records : List ℕ
printed_records =
    (0 ∷ 1 ∷ no_tag ∷ 5 ∷ no_tag ∷ 1 ∷ 0 ∷ [])
    ++ (1 ∷ 2 ∷ 0 ∷ 2 ∷ 0 ∷ 1 ∷ 1 ∷ [])
    ++ (3 ∷ 3 ∷ 1 ∷ 1 ∷ 0 ∷ 2 ∷ 1 ∷ [])
    ++ (4 ∷ 4 ∷ 2 ∷ 4 ∷ 0 ∷ 1 ∷ 1 ∷ [])
    ++ (6 ∷ 5 ∷ 3 ∷ 3 ∷ 0 ∷ 2 ∷ 1 ∷ [])
    ++ (7 ∷ no_tag ∷ 4 ∷ 0 ∷ no_tag ∷ 2 ∷ 0 ∷ [])

-- BTBEET and BBTETE, sheets
abbrev around_a_text : List ℕ
around_a_text = 1 ∷ 3 ∷ 1 ∷ 2 ∷ 2 ∷ 3 ∷ []

abbrev two_deep : List ℕ
two_deep = 1 ∷ 1 ∷ 3 ∷ 2 ∷ 3 ∷ 2 ∷ []

abbrev pub depth_specimen_table : List DepthSpecimen
depth_specimen_table =
    -- the printed load; a text in its first element's place, an element deeper; then 71 words are full, and at the front depth is 0
    record {
      lent = 71;
      deeds =
          load 2 2 printed (0 ∷ 6 ∷ 2 ∷ []) ∷ records printed_records ∷
          insert 3 2 (0 ∷ 6 ∷ 1 ∷ 0 ∷ []) ∷ depths 6 (1 ∷ []) ∷ insert 1 1 (0 ∷ 7 ∷ 5 ∷ 2 ∷ []) ∷ depths 7 (2 ∷ 2 ∷ []) ∷
          alone ∷ insert 3 no_tag (6 ∷ []) ∷ lend 7 ∷ insert 3 no_tag (0 ∷ 9 ∷ 2 ∷ 0 ∷ []) ∷ depths 9 (0 ∷ []) ∷ [];
    } ∷
    -- a mark changes none, and marked elements count
    record {
      lent = 71;
      deeds =
          load 2 2 printed (0 ∷ 6 ∷ 2 ∷ []) ∷ insert 3 2 (0 ∷ 6 ∷ 1 ∷ 0 ∷ []) ∷ insert 1 1 (0 ∷ 7 ∷ 5 ∷ 2 ∷ []) ∷
          depths 0 (0 ∷ 1 ∷ 1 ∷ 1 ∷ 1 ∷ 0 ∷ 1 ∷ 2 ∷ 2 ∷ []) ∷ mark 1 (0 ∷ 4 ∷ []) ∷ depths 0 (0 ∷ 1 ∷ 1 ∷ 1 ∷ 1 ∷ 0 ∷ 1 ∷ 2 ∷ 2 ∷ []) ∷ [];
    } ∷
    -- seven words a tag
    record { lent = 28; deeds = load 2 2 (3 ∷ 3 ∷ 3 ∷ []) (1 ∷ []) ∷ lend 1 ∷ load 2 2 (3 ∷ 3 ∷ 3 ∷ []) (0 ∷ 3 ∷ 1 ∷ []) ∷ [] } ∷
    -- a sheet stands as deep as its place: in an element, after it, and at the front; 63 words are too few
    record {
      lent = 63;
      deeds =
          load 4 4 (1 ∷ 2 ∷ []) (0 ∷ 2 ∷ 1 ∷ []) ∷ sheet around_a_text 0 (6 ∷ []) ∷ lend 1 ∷
          sheet around_a_text 0 (0 ∷ 2 ∷ 1 ∷ 0 ∷ []) ∷ depths 0 (0 ∷ 0 ∷ 1 ∷ 2 ∷ 2 ∷ 2 ∷ 1 ∷ 1 ∷ []) ∷ [];
    } ∷
    record {
      lent = 64;
      deeds =
          load 4 4 (1 ∷ 2 ∷ []) (0 ∷ 2 ∷ 1 ∷ []) ∷ sheet around_a_text 1 (0 ∷ 2 ∷ 0 ∷ 0 ∷ []) ∷ depths 0 (0 ∷ 0 ∷ 0 ∷ 1 ∷ 1 ∷ 1 ∷ 0 ∷ 0 ∷ []) ∷
          load 4 4 (1 ∷ 2 ∷ []) (0 ∷ 2 ∷ 1 ∷ []) ∷ sheet around_a_text no_tag (0 ∷ 2 ∷ 2 ∷ 0 ∷ []) ∷ depths 0 (0 ∷ 0 ∷ 0 ∷ 1 ∷ 1 ∷ 1 ∷ 0 ∷ 0 ∷ []) ∷ [];
    } ∷
    record {
      lent = 92;
      deeds =
          load 2 2 printed (0 ∷ 6 ∷ 2 ∷ []) ∷ sheet two_deep 1 (0 ∷ 6 ∷ 4 ∷ 2 ∷ []) ∷ depths 6 (2 ∷ 3 ∷ 4 ∷ 3 ∷ 3 ∷ 2 ∷ []) ∷ [];
    } ∷
    []
