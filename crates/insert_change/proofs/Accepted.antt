-- An accepted sheet that has tags: its place, the tables and its plan are as the code asks, and so are the words with the new tags.
-- Assumes nothing.
use mathlib.Core.Path.{◌≡◌, refl, sym, ◌∙◌}
use mathlib.Core.Bool.{false}
use mathlib.Core.List.{List, [], map}
use mathlib.Core.Logic.{◌⊎◌, inl, inr}
use Prim.Native.Nat.{ℕ, suc, pred, ◌+◌, ◌-◌, ◌≤◌, ◌<◌}
use native.Mathlib.Numerals.{sub-one}
use native.Mathlib.Omega.{arith}
use borrow.Author.Tests.{eq-eqb, ne_eqb, le-ltb}
use lib.ListN.{length, get_or, replicate, length-map}
use Rattle.store_types.specs.Limits.{no_tag, most_tags}
use Rattle.store_types.specs.Layout.{at_s, at_r, at_height, at_count, word_at, Records}
use Rattle.lists.proofs.Tests.{by_test}
use Rattle.words.specs.Places.{TagOrNone, behind, up_word, depth_word}
use Rattle.powers.specs.Tables.{entry, entry_limit, table_length}
use Rattle.shape.specs.Tables.{widths_of, lows_of, highs_of}
use Rattle.shape.specs.Packed.{s_in, r_in}
use Rattle.shape.specs.declared.Tables as by_height
use Rattle.shape.specs.Needs.{TablesFit}
use Rattle.shape.proofs.Sums.{cut_small}
use Rattle.shape.proofs.Fits.{Fits, widths_fit, lows_fit, highs_fit}
use Rattle.tree.specs.Forest.{size}
use Rattle.tree.specs.Book.{height, inserted_row}
use Rattle.tree_laws.proofs.RowHeight.{search_least, height_grown}
use Rattle.calls.specs.Kind.{Kind, kind_of, is_begin}
use Rattle.calls.specs.Store.{Store, fact, count, row}
use Rattle.calls.specs.Nesting.{new_facts}
use Rattle.calls.specs.Insert.{position, up_at, depth_at, book_after, insert_store, insert_sheet_refusal}
use Rattle.calls.specs.Words.{Says}
use Rattle.calls.specs.Promise.{InsertSound}
use Rattle.calls.specs.Replies.{said, insert_sheet_refused}
use Rattle.calls_laws.proofs.Tests.{Sound, sane, facts_of}
use Rattle.calls_laws.proofs.Heights.{sound_height}
use Rattle.calls_laws.proofs.Sections.{up_fits}
use Rattle.calls_laws.proofs.Depths.{depth_at_few}
use Rattle.calls_laws.proofs.Inserts.{row_degrees, RowAccepted, accepted_row, insert_sound}
use Rattle.calls_laws.proofs.Steps.{SheetAccepted, accepted_sheet}
use Rattle.calls_laws.proofs.WordSteps.{header_said}
use Rattle.walk_model.specs.Walk.{shape_of}
use Rattle.walk_model.specs.Watch.{watched_numbers, TablesAt, sizes_at}
use Rattle.edit_model.specs.Image.{image_of}
use Rattle.edit_model.specs.Split.{left_border}
use Rattle.edit_model.specs.Insert.{Plan, numbers_at, added_row, raised_words, root_plan, plan, plan_of, row_edit}
use Rattle.edit_model.proofs.Image.{proper_image}
use Rattle.edit_model.proofs.Plans.{sound_said, image_said, behind_said, sizes_few}
use Rattle.edit_model.proofs.Renumbered.{WordsIn}
use Rattle.edit_model.proofs.Row.{place_said, up_said, depth_said, fits, row_found, path_there, lower_there, header_there}
use Rattle.store_refuse.proofs.Laws.{accepted_says, accepted_store}
use Rattle.insert_link.specs.Needs.{NewRowFits}
use Rattle.insert_plan.specs.Parts.{inner_plan}
use Rattle.insert_plan.specs.Needs.{NodeFits, RootReads, PlanReads, Applicable}
use Rattle.insert_plan.proofs.Plans.{plan_root, plan_inner, plan_by}
use Rattle.insert_refuse.specs.Parts.{height_after}
use Rattle.insert_refuse.proofs.Headers.{Ranges, ranges}
use Rattle.insert_change.specs.Parts.{row_put, put_edit}
use Rattle.insert_change.specs.Needs.{Edits, PutFits, Accepted, Rises}
use Rattle.insert_change.proofs.Rows as rows
use Rattle.insert_change.proofs.Tables.{TablesTo, r_said, s_said, widths_most, highs_most, splits_said}

module _ {ws cs : List ℕ} {y : ℕ} (a : Accepted ws cs y) where
  abbrev st : Store
  st = said ws

  abbrev ks : List Kind
  ks = map kind_of cs

  abbrev n : ℕ
  n = word_at ws at_count

  abbrev s : ℕ
  s = word_at ws at_s

  abbrev r : ℕ
  r = word_at ws at_r

  pub says : Says ws st
  unfolding insert_sheet_refused
  says = accepted_says ws (insert_sheet_refusal (length ws) cs y) a.refusal

  sheet : SheetAccepted (length ws) cs y st
  unfolding insert_sheet_refused
  sheet = accepted_sheet (length ws) cs y st (accepted_store ws (insert_sheet_refusal (length ws) cs y) a.refusal)

  as_many : length ks ≡ length cs
  as_many = length-map cs kind_of

  pub some_kinds : 1 ≤ length ks
  some_kinds = rw as_many a.some

  pub accepted : RowAccepted (length ws) ks y st
  accepted = accepted_row (length ws) ks y st sheet.row

  pub here : Ranges s r (word_at ws at_height) n
  here = ranges ws says

  own : Sound st
  own = sound_said ws st says

  issued : n ≡ count st
  issued = (header_said ws st says).issued

  -- THE PLACE, the tag behind it and the begin around it
  words_said : WordsIn ws n
  unfolding image_of
  words_said = let g = image_said ws st says in record { image = image_of st; rest = g.0; words_are = g.1; proper = proper_image own; counted = sym issued }

  pub few_all : n + length cs ≤ most_tags
  few_all = rw (issued, ← as_many) accepted.few

  pub records_said : Records ws n
  records_said = rows.records_in words_said here.few

  place_or_front : TagOrNone n y
  place_or_front = go accepted.place
    where
      go : (y ≡ no_tag) ⊎ ((y < count st) × ((fact st y).marked ≡ false)) → TagOrNone n y
      go (inl e) other = absurd (other e)
      go (inr l) other = rw issued l.0

  next_or_none : TagOrNone n (behind ws y)
  unfolding image_of words_said
  next_or_none =
      let p = position y st in
      let next : behind ws y ≡ get_or (row st) p no_tag = rw (place_said ws st says ks y some_kinds accepted) at (behind_said ws st says p (fits ws st says ks y some_kinds accepted)) in
      rw next (rows.place_or_none words_said here.few p)

  up_or_none : TagOrNone n (up_word ws y)
  unfolding up_at
  up_or_none = rw (up_said ws st says ks y some_kinds accepted) (go accepted.place)
    where
      around : (x : ℕ) → (x ≡ no_tag) ⊎ (x < count st) → TagOrNone n x
      around x (inl e) other = absurd (other e)
      around x (inr l) other = rw issued l

      go : (y ≡ no_tag) ⊎ ((y < count st) × ((fact st y).marked ≡ false)) → TagOrNone n (up_at y st)
      go (inl e) = rw (eq-eqb y no_tag e) (λ other. absurd (other refl))
      go (inr l) =
          rw (ne_eqb y no_tag (λ e. omega (arith, own.few, l.0)))
          (by_test (is_begin (fact st y).kind) (λ t. rw t (around y (inr l.0))) (λ t. rw t (around (fact st y).up (up_fits own y l.0))))

  deep_few : depth_word ws y ≤ n
  deep_few = rw (depth_said ws st says ks y some_kinds accepted, issued) (depth_at_few own y (go accepted.place))
    where
      go : (y ≡ no_tag) ⊎ ((y < count st) × ((fact st y).marked ≡ false)) → (y ≡ no_tag) ⊎ (y < count st)
      go (inl e) = inl e
      go (inr l) = inr l.0

  pub new_row : NewRowFits ws cs n y
  new_row =
      record {
        records = record { few = few_all; long = rw (issued, ← as_many) accepted.room };
        some = a.some;
        kinds = sheet.kinds;
        nesting = sheet.nesting;
        place = place_or_front;
        next = next_or_none;
        up = up_or_none;
        deep = deep_few;
      }

  -- H AFTERWARDS is the least height with room, and labels fit there
  abbrev top : ℕ
  top = height_after ws (length cs)

  top_is : height (inserted_row (length ks) (position y st) (count st) st.book) ≡ top
  top_is =
      let head = header_said ws st says in
      let inside : position y st ≤ size st.book.root = omega (arith, fits ws st says ks y some_kinds accepted, own.as_many) in
      sym (height_grown (length ks) (position y st) (count st) st.book (sane own) inside)
      ∙ rw (as_many, own.as_many, head.degree_s, head.degree_r, head.issued, head.levels)

  -- no higher than the present one, as the code has read both
  pub stays_read : {g h : ℕ} → g ≡ top → h ≡ word_at ws at_height → g ≤ h → top ≤ word_at ws at_height
  stays_read found high low = omega arith

  pub raised : word_at ws at_height ≤ top
  raised = (search_least (length cs) s r (n + length cs) (word_at ws at_height) here.degrees.s_least here.degrees.r_least (omega (arith, here.below))).low

  sound_after : Sound (insert_store ks y st)
  unfolding InsertSound Says
  sound_after = facts_of (insert_store ks y st) (insert_sound (length ws) y ks st says.0 sheet.nesting some_kinds sheet.row)

  pub fits_after : Fits s r top
  unfolding insert_store book_after
  fits_after =
      let head = header_said ws st says in
      let same = row_degrees (length ks) (position y st) (count st) st.book in
      let labels = rw (same.0, same.1, top_is, ← head.degree_s, ← head.degree_r) at sound_after.labels_fit in
      record {
        s_least = here.degrees.s_least;
        s_most = here.degrees.s_most;
        r_least = here.degrees.r_least;
        r_most = here.degrees.r_most;
        high = rw top_is at (sound_height sound_after);
        labels = labels;
      }

  some_top : 1 ≤ top
  some_top = omega (arith, raised, here.low)

  pub tables_fit : TablesFit s r top
  tables_fit = record { s_most = here.degrees.s_most; r_most = here.degrees.r_most; widths = widths_fit fits_after; lows = lows_fit fits_after; highs = highs_fit fits_after }

  -- THE PLAN, with the tables of H afterwards
  abbrev q : Plan
  q = plan_of ws (length cs) y

  -- the words with the new tags
  put_is : row_put ws cs n y q ≡ raised_words (added_row ws (count st) y (new_facts (up_at y st) [] (depth_at y st) (count st) ks)) (plan_of ws (length ks) y).height
  unfolding row_put
  put_is = rw (issued, up_said ws st says ks y some_kinds accepted, depth_said ws st says ks y some_kinds accepted, as_many)

  by_fits : (k : ℕ) → (plan_of ws k y).by ≤ entry_limit
  unfolding plan_of
  by_fits k = plan_by ws _ _ _ _ y _ _ _ _

  module _ {t : by_height.Tables} (packed : TablesTo s r top t) where
    pub applicable : Applicable (row_put ws cs n y q) q t
    applicable =
        let e = row_found ws st says ks y some_kinds accepted in
        let few = accepted.few in
        let counted = rows.issued_in e.words_in few in
        let path = rw (← (header_said ws st says).degree_r) at (path_there ws st says ks y some_kinds accepted) in
        let lower = rw top_is at (lower_there ws st says ks y some_kinds accepted) in
        rw (put_is, ← as_many)
        (record {
          records = rw counted (rows.records_in e.words_in few);
          left = rw counted (rows.left_or_none e few);
          row = rows.row_there e few;
          path = record {
            most = (rows.row_there e few).most;
            path = rw (r_said fits_after some_top packed) path;
            splits = splits_said fits_after some_top packed _ (omega arith);
          };
          numbers = record { number = cut_small _; widths = widths_most fits_after some_top packed };
          by = by_fits (length ks);
        })

    -- and doing it is the edit of the row
    pub edits_row : put_edit ws cs n y q t ≡ row_edit ks y ws
    unfolding put_edit row_put row_edit widths_of
    edits_row =
        let up = up_said ws st says ks y some_kinds accepted in
        let deep = depth_said ws st says ks y some_kinds accepted in
        let e = row_found ws st says ks y some_kinds accepted in
        let counted = rw (← issued, ← up, ← deep, as_many) at (rows.issued_in e.words_in accepted.few) in
        let head = header_said ws st says in
        let there = rw (← issued, ← up, ← deep, as_many) at (header_there ws st says ks y some_kinds accepted) in
        let high = rw (← issued, as_many) at top_is in
        rw (
          as_many,
          counted,
          s_said fits_after some_top packed,
          r_said fits_after some_top packed,
          packed.widths_are,
          there.0 ∙ sym head.degree_s,
          there.1 ∙ sym head.degree_r,
          there.2 ∙ high,
        )

    -- as the code has read it
    module _ {m : ℕ} {p : Plan} (counted : m ≡ n) (planned : p ≡ q) where
      pub put_fits : PutFits ws cs m y p t
      put_fits = rw (counted, planned) (record { row = new_row; plan = applicable })

      pub put_edits : {xs : List ℕ} {d e : ℕ} → Edits xs d e (put_edit ws cs m y p t) → Edits xs d e (row_edit ks y ws)
      put_edits done = rw (counted, planned, edits_row) at done

    -- what plans read
    node_fits : (h : ℕ) → h ≤ top → NodeFits h (length cs) t
    node_fits h l = record { few = omega (arith, few_all); splits = splits_said fits_after some_top packed h l; limit = highs_most fits_after some_top packed h }

    -- THE ROOT IS SPLIT
    pub root_reads : RootReads ws (length cs) (top - 1) t
    root_reads = record { records = records_said; node = node_fits (top - 1) (omega arith) }

    pub root_planned : word_at ws at_height < top → {p : Plan} → p ≡ root_plan (s_in t) (r_in t) (top - 1) n (length cs) (left_border n n ws 0 y) → p ≡ q
    unfolding plan_of
    root_planned higher e =
        let levels : suc (pred (word_at ws at_height)) ≡ word_at ws at_height = omega (arith, here.low) in
        e
        ∙ rw (s_said fits_after some_top packed, r_said fits_after some_top packed, sub-one top)
        (rw levels at (plan_root ws (sizes_at ws y (replicate table_length 0)) n (length cs) (pred (word_at ws at_height)) y s r (widths_of ws) (highs_of ws) (rw levels higher)))

  -- to a height that the code has found
  module _ {m : ℕ} (rise : Rises ws cs m) where
    pub rise_fits : TablesFit s r m
    rise_fits = rw rise.top_is tables_fit

    module _ {t : by_height.Tables} (made : TablesTo s r m t) where
      pub rise_packed : TablesTo s r top t
      rise_packed = rw rise.top_is at made

      pub rise_reads : RootReads ws (length cs) (m - 1) t
      rise_reads = rw rise.top_is (root_reads rise_packed)

      pub rise_planned : {p : Plan} → p ≡ root_plan (s_in t) (r_in t) (m - 1) n (length cs) (left_border n n ws 0 y) → p ≡ q
      rise_planned e = root_planned rise_packed (rw rise.top_is at rise.higher) (rw rise.top_is at e)

  -- THE ROOT IS NOT SPLIT: the tables are those of the place
  module _ (stays : top ≤ word_at ws at_height) {t : by_height.Tables} {sz : List ℕ} (tables : TablesAt ws y t) (sizes : sz ≡ sizes_at ws y (replicate table_length 0)) where
    same_height : top ≡ word_at ws at_height
    same_height = omega (arith, raised)

    pub packed_here : TablesTo s r top t
    unfolding widths_of lows_of highs_of
    packed_here = rw same_height tables.packed

    few_sizes : (h : ℕ) → 1 ≤ h → h ≤ pred (word_at ws at_height) → entry sz h ≤ most_tags
    few_sizes h low high =
        let head = header_said ws st says in
        let inside : h ≤ st.book.under = omega (arith, head.levels) in
        let few = rw (place_said ws st says ks y some_kinds accepted) at (sizes_few ws st says (position y st) (fits ws st says ks y some_kinds accepted) h low inside) in
        rw sizes (omega (arith, own.few))

    pub inner_reads : PlanReads ws (length cs) y t sz
    unfolding watched_numbers numbers_at shape_of
    inner_reads =
        record {
          records = records_said;
          place = place_or_front;
          low = here.low;
          high = omega (arith, here.high);
          node = node_fits packed_here (pred (word_at ws at_height)) (omega (arith, same_height));
          limits = highs_most fits_after some_top packed_here;
          sizes_few = few_sizes;
          widths = widths_most fits_after some_top packed_here;
          numbers_are = tables.numbers ∙ rw tables.packed.widths_are;
          numbers = tables.fit;
        }

    pub inner_planned : {p : Plan} → p ≡ inner_plan ws t sz n (length cs) (pred (word_at ws at_height)) y → p ≡ q
    unfolding plan_of
    inner_planned e =
        let levels : suc (pred (word_at ws at_height)) ≡ word_at ws at_height = omega (arith, here.low) in
        let degree_s = s_said fits_after some_top packed_here in
        let degree_r = r_said fits_after some_top packed_here in
        let unsplit = le-ltb (word_at ws at_height) top stays in
        e
        ∙ plan_inner ws sz n (length cs) (pred (word_at ws at_height)) y t (rw (degree_s, degree_r, levels) unsplit)
        ∙ rw (degree_s, degree_r, tables.packed.widths_are, tables.packed.highs_are, sizes)
