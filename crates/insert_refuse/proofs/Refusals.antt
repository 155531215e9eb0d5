-- The refusals of an insertion: from what each test reads in words that say a store. Assumes nothing.
use mathlib.Core.Path.{◌≡◌, refl, sym, ◌∙◌}
use mathlib.Core.Bool.{Bool, true, false, ◌&&◌, not, cond, and-false}
use mathlib.Core.List.{List, ◌++◌}
use Prim.Native.Nat.{ℕ, pred, ◌+◌, ◌*◌, ◌-◌, ◌^◌, ◌≤◌, ◌<◌}
use native.Mathlib.Nat.{mul_assoc}
use lib.Pow.{pow-add}
use native.Mathlib.Omega.{arith}
use borrow.Author.Tests.{lt-ltb, le-ltb, le-leb, lt-leb}
use lib.Dec.{ltb, eqb}
use lib.ListN.{length, length-map}
use Rattle.store_types.specs.Limits.{no_tag, most_tags}
use Rattle.lists.specs.Lists.{all_hold, first}
use Rattle.lists.proofs.First.{first_append, first_decided, refused_before, refused_behind}
use Rattle.store_types.specs.Layout.{at_s, at_r, at_height, at_count, header_words, at_kind, word_at, words_for, field}
use Rattle.shape.specs.Needs.{LeastRoom}
use Rattle.tree.specs.Book.{height}
use Rattle.tree.specs.Grown.{height_for}
use Rattle.tree_laws.proofs.RowHeight.{Least, search_least, least_one}
use Rattle.calls.specs.Kind.{kind_of}
use Rattle.calls.specs.Store.{count, power_fits}
use Rattle.calls.specs.Load.{kinds_tests}
use Rattle.calls.specs.Insert.{place_tests, room_tests, row_refusal, insert_sheet_refusal}
use Rattle.calls.specs.Words.{Says}
use Rattle.calls.specs.Replies.{said, insert_sheet_refused}
use Rattle.calls.specs.Promise.{SheetsRunOut, least_height}
use Rattle.calls_laws.proofs.WordSteps.{header_said, refusal_said}
use Rattle.calls_laws.proofs.Sheets.{sheets_run_out}
use Rattle.load_refuse.specs.Refusals.{kinds_refusal}
use Rattle.store_refuse.specs.Needs.{TagSaid}
use Rattle.store_refuse.proofs.Laws.{kind_of_tag}
use Rattle.insert_refuse.specs.Parts.{row_room, place_refusal, room_refusal}
use Rattle.words.proofs.Fields.{record_room}
use Rattle.store_types.proofs.Replies.{some_number}
use Rattle.insert_refuse.proofs.Headers.{Ranges, ranges, room, header_room, search_from, last_power}

-- THE PLACE y: t says whether it is the front
module _ (ws : List ℕ) (y : ℕ) {t : Bool} (e : t ≡ eqb y no_tag) where
  pub place_front : t ≡ true → 0 ≡ place_refusal y (said ws)
  unfolding place_refusal place_tests first
  place_front p = rw (← e, p)

  module _ (h : Says ws (said ws)) (p : t ≡ false) where
    pub place_beyond : word_at ws at_count ≤ y → 8 ≡ place_refusal y (said ws)
    unfolding place_refusal place_tests first
    place_beyond l = rw (← e, p, ← (header_said ws (said ws) h).issued, le-leb (word_at ws at_count) y l)

    -- k is its kind word
    module _ (l : y < word_at ws at_count) {k : ℕ} (q : k ≡ field ws y at_kind) where
      tag : TagSaid ws y
      tag = record { says = h; tag = rw (header_said ws (said ws) h).issued at l }

      pub place_marked : 16 ≤ k → 9 ≡ place_refusal y (said ws)
      unfolding place_refusal place_tests first
      place_marked m = rw (← e, p, ← (header_said ws (said ws) h).issued, lt-leb (word_at ws at_count) y l, ← (kind_of_tag tag).marks, ← q, le-leb 16 k m)

      pub place_fine : k < 16 → 0 ≡ place_refusal y (said ws)
      unfolding place_refusal place_tests first
      place_fine m = rw (← e, p, ← (header_said ws (said ws) h).issued, lt-leb (word_at ws at_count) y l, ← (kind_of_tag tag).marks, ← q, lt-leb 16 k m)

-- H WITH SO MANY TAGS: the least height that is found is the one that the definitions search for
pub height_found : {s r h n all limit g top : ℕ} → Ranges s r h n → g ≡ h → limit ≡ s * r ^ h → LeastRoom all limit r g top → top ≡ height_for (all - n) s r all h
height_found {s} {r} {h} {n} {all} {limit} {g} {top} f same is read =
    let found : LeastRoom all limit r h top = rw same at read in
    let r_least = f.degrees.r_least in
    let scaled : (i : ℕ) → limit * r ^ i ≡ s * r ^ (h + i) = λ i. rw (is, mul_assoc, ← pow-add) in
    let own : Least s r all h top =
    record {
      low = found.low;
      fits = (let whole : h + (top - h) ≡ top = omega (arith, found.low) in rw (scaled (top - h), whole) at found.fits);
      least = λ l. (let whole : h + (top - h - 1) ≡ pred top = omega arith in rw (scaled (top - h - 1), whole) at (found.least l));
    } in
    least_one r_least own (search_least (all - n) s r all h f.degrees.s_least r_least (omega (arith, f.below)))

-- THE ROOM for k tags more: n are there
module _ (ws : List ℕ) (h : Says ws (said ws)) (k : ℕ) where
  pub room_many : most_tags < word_at ws at_count + k → 6 ≡ room_refusal (length ws) k (said ws)
  unfolding room_refusal room_tests first
  room_many m = rw (← (header_said ws (said ws) h).issued, lt-ltb most_tags (word_at ws at_count + k) m)

  module _ (few : word_at ws at_count + k ≤ most_tags) where
    pub room_short : length ws < words_for header_words (word_at ws at_count + k) → 6 ≡ room_refusal (length ws) k (said ws)
    unfolding room_refusal room_tests first
    room_short m = rw (← (header_said ws (said ws) h).issued, le-ltb most_tags (word_at ws at_count + k) few, lt-ltb (length ws) (words_for header_words (word_at ws at_count + k)) m)

    module _ (long : words_for header_words (word_at ws at_count + k) ≤ length ws) {top : ℕ}
        (is_top : top ≡ height_for k (word_at ws at_s) (word_at ws at_r) (word_at ws at_count + k) (word_at ws at_height)) where
      -- labels do not suffice where H rises to a height at which they do not fit
      by_labels : (t : Bool) → (ltb (word_at ws at_height) top && not (power_fits (word_at ws at_s) (word_at ws at_r) top)) ≡ t → cond t 7 0 ≡ room_refusal (length ws) k (said ws)
      unfolding room_refusal room_tests first SheetsRunOut least_height Says
      by_labels t e =
          let f = header_said ws (said ws) h in
          let top_said : top ≡ height_for k (said ws).book.s (said ws).book.r (count (said ws) + k) (height (said ws).book) = rw (f.degree_s, f.degree_r, f.issued, f.levels) at is_top in
          let few_said = rw f.issued at (le-ltb most_tags (word_at ws at_count + k) few) in
          let long_said = rw f.issued at (le-ltb (length ws) (words_for header_words (word_at ws at_count + k)) long) in
          let runs = rw (← top_said) at (sheets_run_out (said ws) k h.0) in
          rw (few_said, long_said, runs, rw (f.degree_s, f.degree_r, f.levels) at e)

      pub room_below : top ≡ word_at ws at_height → 0 ≡ room_refusal (length ws) k (said ws)
      room_below same = by_labels false (rw (same, le-ltb (word_at ws at_height) (word_at ws at_height) (omega arith)))

      -- where H rises, t says whether labels of that height fit
      module _ (higher : top ≡ word_at ws at_height → ⊥) {t : Bool} (e : t ≡ power_fits (word_at ws at_s) (word_at ws at_r) top) where
        pub room_fits : t ≡ true → 0 ≡ room_refusal (length ws) k (said ws)
        room_fits p = by_labels false (rw (← e, p) (and-false (ltb (word_at ws at_height) top)))

        pub room_none : t ≡ false → 7 ≡ room_refusal (length ws) k (said ws)
        room_none p =
            let f = ranges ws h in
            let least = search_least k (word_at ws at_s) (word_at ws at_r) (word_at ws at_count + k) (word_at ws at_height) f.degrees.s_least f.degrees.r_least (omega (arith, f.below)) in
            let raised : word_at ws at_height ≤ top = rw is_top least.low in
            by_labels true (rw (← e, p, lt-ltb (word_at ws at_height) top (omega (arith, higher))))

-- A SHEET
module _ (ws cs : List ℕ) (y : ℕ) (says : Says ws (said ws)) where
  -- the tests of the place and the room stand behind those of the kinds
  in_order : insert_sheet_refused cs y ws ≡ first (kinds_tests 0 cs) (first (place_tests y (said ws) ++ row_room (length ws) (length cs) (said ws)) 0)
  unfolding insert_sheet_refused insert_sheet_refusal row_refusal
  in_order = refusal_said ws (said ws) says (insert_sheet_refusal (length ws) cs y) ∙ rw (length-map cs kind_of)

  module _ {k : ℕ} (f : k ≡ kinds_refusal 0 cs) where
    pub refused_kinds : (k ≡ 0 → ⊥) → k ≡ insert_sheet_refused cs y ws
    unfolding kinds_refusal
    refused_kinds n = f ∙ sym (in_order ∙ first_decided (kinds_tests 0 cs) 0 _ (λ i. n (f ∙ i)))

    -- the kinds are fine: p is what the place gives
    module _ (fine : k ≡ 0) {p : ℕ} (g : p ≡ place_refusal y (said ws)) where
      behind_kinds : insert_sheet_refused cs y ws ≡ first (place_tests y (said ws) ++ row_room (length ws) (length cs) (said ws)) 0
      unfolding kinds_refusal kinds_tests all_hold
      behind_kinds =
          in_order
          ∙ sym (first_append (kinds_tests 0 cs) (place_tests y (said ws) ++ row_room (length ws) (length cs) (said ws)) 0)
          ∙ refused_behind (kinds_tests 0 cs) (place_tests y (said ws) ++ row_room (length ws) (length cs) (said ws)) refl (sym f ∙ fine)

      pub refused_place : (p ≡ 0 → ⊥) → p ≡ insert_sheet_refused cs y ws
      unfolding place_refusal
      refused_place n = g ∙ sym (behind_kinds ∙ refused_before (place_tests y (said ws)) (row_room (length ws) (length cs) (said ws)) (λ i. n (g ∙ i)))

      pub refused_room : {m : ℕ} → p ≡ 0 → m ≡ room_refusal (length ws) (length cs) (said ws) → m ≡ insert_sheet_refused cs y ws
      unfolding place_refusal room_refusal place_tests all_hold
      refused_room none q = q ∙ sym (behind_kinds ∙ refused_behind (place_tests y (said ws)) (row_room (length ws) (length cs) (said ws)) refl (sym g ∙ none))

pub ruleset place_refusals = (place_front, place_beyond, place_marked, place_fine, header_room, record_room, room)

pub ruleset room_refusals = (room_many, room_short, room_below, room_fits, room_none, header_room, ranges)

pub ruleset sheet_refusals = (refused_kinds, refused_place, refused_room, some_number)

pub ruleset height_lemmas = (height_found, header_room, ranges, search_from, last_power)
