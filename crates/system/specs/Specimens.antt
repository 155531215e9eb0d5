-- Histories of one system, worked out by hand from document 02, CR 6 and CR 7, and document 01, "The bare list"; proofs/Specimens.antt shows
-- them to hold. A contractor's rights are one table: each is a list of calls, with the numbers that each replies and what the system
-- then holds.
use Rattle.std.specs.Prelude.{Bool, true, ◌&&◌, ℕ, eqb, replicate}
use mathlib.Core.List.{List, [], ◌∷◌, flat_map}
use Rattle.lists.specs.Lists.{same}
use Rattle.store_types.specs.Limits.{no_tag}
use Rattle.store_types.specs.Layout.{header_words, words_for, at_stamp, at_depth, word_at, field, label_at}
use Rattle.store_types.specs.declared.Grant.{Grant}
use Rattle.calls.specs.Changes.{load, insert, mark}
use Rattle.calls.specs.Reference.{reference_load, reference_after}
use Rattle.calls.specs.Specimens.{pair}
use Rattle.system.specs.System.{System, hold, grant, revoke, lend, Call, changes, reads, keeps, acts, load_with_grants, numbers_of, reply, step}
use Rattle.system.specs.Histories.{replies}
use Rattle.system.specs.Feed.{told, total_moved}

-- what a call replies, or what the system holds: all records of the list, live or not, as numbers, and the count; a tag's
-- label; its depth; the stamp
pub data Exchange : Type 0 where
  says : Call → (numbers : List ℕ) → Exchange
  grants : (records : List ℕ) → (count : ℕ) → Exchange
  label : (tag value : ℕ) → Exchange
  depth : (tag value : ℕ) → Exchange
  stamp : ℕ → Exchange

unfoldable pub record_numbers : Grant → List ℕ
record_numbers g = g.party ∷ g.section ∷ g.rights ∷ []

unfoldable pub exchanges_hold : System → List Exchange → Bool
exchanges_hold y [] = true
exchanges_hold y (says c ns ∷ es) = same (numbers_of (reply c y)) ns && exchanges_hold (step c y) es
exchanges_hold y (grants ns n ∷ es) = (same (flat_map record_numbers y.grants) ns && eqb y.count n) && exchanges_hold y es
exchanges_hold y (label x l ∷ es) = eqb (label_at y.words x) l && exchanges_hold y es
exchanges_hold y (depth x d ∷ es) = eqb (field y.words x at_depth) d && exchanges_hold y es
exchanges_hold y (stamp n ∷ es) = eqb (word_at y.words at_stamp) n && exchanges_hold y es

-- so many tags fit the lent words, so many records the lent list; the count at first
pub record Specimen : Type 0 where
  pub room : ℕ
  pub records : ℕ
  pub count : ℕ
  pub exchanges : List Exchange

unfoldable pub specimen_holds : Specimen → Bool
specimen_holds e =
    let y : System = record {
      words = replicate (words_for header_words e.room) 0;
      grants = replicate e.records (record { party = 0; section = 0; rights = 0 });
      count = e.count;
    } in
    exchanges_hold y e.exchanges

-- a party's call with a pair of book 7
abbrev shows : (party tag start end d right kind : ℕ) → Call
shows p x l m d q k = acts p (record { pair = pair 7 x l m; tag = record { 0 = d }; right = q; kind = k })

-- the replies of a party's call
abbrev yes : List ℕ
yes = 0 ∷ 1 ∷ []

abbrev stale : List ℕ
stale = 0 ∷ 2 ∷ []

abbrev refused : ℕ → List ℕ
refused k = k ∷ []

abbrev accepted : ℕ → List ℕ
accepted n = 0 ∷ n ∷ []

-- BBEBEE: the pair of tag 0 is 0 and 7, that of tag 1 is 1 and 3
abbrev printed : Call
printed = load_with_grants 2 2 7 (1 ∷ 1 ∷ 2 ∷ 1 ∷ 2 ∷ 2 ∷ [])

abbrev pub specimen_table : List Specimen
specimen_table =
    record {
      room = 8;
      records = 3;
      count = 9;
      exchanges =
          -- a count above the list; a load ends it
          says (keeps (grant 5 0 1)) (refused 17) ∷ says (keeps (revoke 5 0)) (refused 17) ∷ says printed (0 ∷ 6 ∷ 2 ∷ []) ∷ grants (replicate 9 0) 0 ∷
          -- what grants refuse: 17, 8, 10, and 19 behind them
          says (keeps (grant 0 0 1)) (refused 17) ∷ says (keeps (grant 65536 0 1)) (refused 17) ∷ says (keeps (grant 5 0 0)) (refused 17) ∷ says (keeps (grant 5 0 8)) (refused 17) ∷
          says (keeps (grant 5 6 1)) (refused 8) ∷ says (keeps (grant 5 2 1)) (refused 10) ∷ says (keeps (grant 5 no_tag 1)) (refused 8) ∷
          says (keeps (grant 5 0 5)) (accepted 1) ∷ says (keeps (grant 6 1 7)) (accepted 2) ∷ says (keeps (grant 5 0 2)) (accepted 3) ∷
          says (keeps (grant 5 9 1)) (refused 8) ∷ says (keeps (grant 5 0 1)) (refused 19) ∷
          -- the third grant has the right to write; 3 is no right
          says (shows 5 0 0 7 3 1 0) yes ∷ says (shows 5 0 0 7 3 2 0) yes ∷ says (shows 5 0 0 7 3 3 0) (refused 17) ∷
          -- another's section, its own begin, its own end
          says (shows 6 0 0 7 3 1 0) (refused 18) ∷ says (shows 5 0 0 7 0 1 0) (refused 18) ∷ says (shows 5 0 0 7 5 4 3) (refused 18) ∷
          -- the question's replies come first
          says (acts 5 (record { pair = pair 8 0 0 7; tag = record { 0 = 3 }; right = 1; kind = 0 })) stale ∷
          says (shows 5 9 0 7 3 1 0) (refused 8) ∷ says (shows 5 0 0 7 9 1 0) (refused 8) ∷ says (shows 5 0 0 7 no_tag 4 3) (refused 8) ∷
          -- 18 before 4
          says (shows 9 0 0 7 3 4 2) (refused 18) ∷ says (shows 5 0 0 7 3 4 2) (refused 4) ∷ stamp 0 ∷
          -- right behind the begin, where the question says no; then the label tells it inside
          says (shows 6 1 1 3 1 4 3) (0 ∷ 3 ∷ 6 ∷ 0 ∷ 0 ∷ []) ∷ label 6 2 ∷ stamp 1 ∷
          says (shows 6 1 1 3 6 1 0) yes ∷ says (shows 6 1 1 3 2 4 3) (refused 18) ∷
          -- its own insertion makes the pair stale
          says (shows 6 1 1 3 1 4 3) (0 ∷ 3 ∷ 7 ∷ 5 ∷ 2 ∷ []) ∷ says (shows 6 1 1 3 1 4 3) stale ∷ label 2 9 ∷
          -- the first and the third go, the second moves up, and what stood behind the new count stays
          says (keeps (revoke 5 0)) (accepted 2) ∷ grants (6 ∷ 1 ∷ 7 ∷ 6 ∷ 1 ∷ 7 ∷ 5 ∷ 0 ∷ 2 ∷ []) 1 ∷
          says (keeps (revoke 5 0)) (accepted 0) ∷ says (keeps (revoke 0 0)) (refused 17) ∷ says (shows 5 0 0 13 3 2 0) (refused 18) ∷
          -- the words are full
          says (shows 6 1 1 9 6 4 1) (refused 6) ∷ stamp 2 ∷ [];
    } ∷
    -- a text and a marked section get no grant, a marked tag 9; a refused load leaves the count, and so does one without it; an accepted
    -- one does not
    record {
      room = 3;
      records = 1;
      count = 0;
      exchanges =
          says (load_with_grants 2 2 7 (1 ∷ 3 ∷ 2 ∷ [])) (0 ∷ 3 ∷ 1 ∷ []) ∷ says (keeps (grant 65535 1 7)) (refused 10) ∷ says (keeps (grant 65535 0 7)) (accepted 1) ∷
          says (shows 65535 0 0 2 1 2 0) yes ∷ says (changes (mark 1)) (accepted 1) ∷ says (shows 65535 0 0 2 1 2 0) (refused 9) ∷
          says (load_with_grants 1 2 7 []) (refused 3) ∷ grants (65535 ∷ 0 ∷ 7 ∷ []) 1 ∷ says (changes (mark 0)) (accepted 2) ∷ says (keeps (grant 5 0 7)) (refused 9) ∷
          says (shows 65535 0 0 2 1 2 0) stale ∷ says (changes (load 2 2 9 [])) (0 ∷ 0 ∷ 1 ∷ []) ∷ grants (65535 ∷ 0 ∷ 7 ∷ []) 1 ∷
          says (load_with_grants 2 2 8 []) (0 ∷ 0 ∷ 1 ∷ []) ∷ grants (65535 ∷ 0 ∷ 7 ∷ []) 0 ∷ [];
    } ∷
    -- a party's tags are as deep as their place, right after the begin and after its own; the words have room for one of an element's
    record {
      room = 8;
      records = 1;
      count = 0;
      exchanges =
          says printed (0 ∷ 6 ∷ 2 ∷ []) ∷ says (keeps (grant 6 1 7)) (accepted 1) ∷ says (shows 6 1 1 3 1 4 3) (0 ∷ 3 ∷ 6 ∷ 0 ∷ 0 ∷ []) ∷ depth 6 2 ∷
          says (shows 6 1 1 3 6 4 1) (refused 6) ∷ says (shows 6 1 1 3 6 4 3) (0 ∷ 3 ∷ 7 ∷ 5 ∷ 2 ∷ []) ∷ depth 7 2 ∷ [];
    } ∷
    -- no list: a party's call is refused with 18, a grant with 19
    record {
      room = 3;
      records = 0;
      count = 0;
      exchanges =
          says (shows 5 0 0 2 1 1 0) (refused 2) ∷ says (load_with_grants 2 2 7 (1 ∷ 3 ∷ 2 ∷ [])) (0 ∷ 3 ∷ 1 ∷ []) ∷ says (keeps (grant 5 0 1)) (refused 19) ∷
          says (shows 5 0 0 2 1 1 0) (refused 18) ∷ says (keeps (revoke 5 0)) (accepted 0) ∷ [];
    } ∷ []

-- WHAT A HISTORY TELLS. The printed book; party 6 with rights on section 1 puts two texts right after its begin, which moves none and 5,
-- and may not put one after the section's end; an insertion that is refused with 8, a mark, a pair held
abbrev history : List Call
history =
    changes (load 2 2 7 (1 ∷ 1 ∷ 2 ∷ 1 ∷ 2 ∷ 2 ∷ [])) ∷ keeps (lend (record { party = 6; section = 1; rights = 7 } ∷ []) 1) ∷
    shows 6 1 1 3 1 4 3 ∷ shows 6 1 1 3 2 4 3 ∷ shows 6 1 1 3 1 4 3 ∷ changes (insert 3 9) ∷ changes (mark 3) ∷ reads (hold 0) ∷ []

-- the reference list after it, and T, which an accepted load begins anew
unfoldable pub feed_right : Bool
feed_right =
    let y : System = record { words = replicate (words_for header_words 8) 0; grants = []; count = 0 } in
    let a = reference_after (told history y) (reference_load 3 3 0) in
    ((same a.row (0 ∷ 1 ∷ 7 ∷ 6 ∷ 2 ∷ 3 ∷ 4 ∷ 5 ∷ []) && eqb a.height 3) && (eqb a.n0 6 && eqb a.m 2))
    && (eqb a.s 2 && eqb (total_moved 9 (replies step reply history y)) 5)
