-- An accepted row of new tags over words: the words are those of the new store, and what moved and what was split is as the
-- definitions say. Assumes nothing.
use mathlib.Core.Path.{◌≡◌, refl, ap, sym, ◌∙◌}
use mathlib.Core.Bool.{Bool, true, false, cond}
use mathlib.Core.List.{List, [], ◌∷◌, ◌++◌, map}
use mathlib.Core.Logic.{◌⊎◌, inl, inr, ⊎_elim}
use Prim.Native.Nat.{ℕ, suc, ◌+◌, ◌*◌, ◌-◌, ◌≤◌, ◌<◌}
use native.Mathlib.Nat.{one-mul}
use native.Mathlib.Omega.{arith}
use borrow.Author.Tests.{eq-eqb, ne_eqb}
use lib.Dec.{leb, eqb}
use lib.ListN.{length, get_or, drop, replicate, length-append, length-replicate}
use lib.Seq.{get_or-append-add}
use Rattle.store_types.specs.Limits.{no_tag, most_tags}
use Rattle.store_types.specs.Layout.{at_s, at_r, at_height, at_kind, header_words, word_at, words_for, field}
use Rattle.lists.specs.Lists.{numbers}
use Rattle.lists.proofs.Tests.{by_test}
use Rattle.lists.proofs.Numbers.{length_numbers}
use Rattle.lists.specs.Fronts.{in_front}
use Rattle.powers.specs.Tables.{entry}
use Rattle.shape.specs.Tables.{widths_of}
use Rattle.powers.proofs.TableLaws.{table_at}
use Rattle.words.specs.Places.{up_word, depth_word}
use Rattle.tree.specs.Row.{member, insert_at}
use Rattle.tree.specs.Forest.{size}
use Rattle.tree.specs.Book.{Book, height, labels_of, base, inserted_row}
use Rattle.tree.specs.Grown.{PathFits}
use Rattle.tree.specs.Promise.{Sane, RowsGrow, RowGrows}
use Rattle.tree_laws.proofs.Rows.{Apart, member_first, member_later, getD_place, length_insert, getD_before, distinct_numbers, number_bounds}
use Rattle.tree_laws.proofs.Insertion.{sane_inserted_row, tags_inserted_row}
use Rattle.tree_laws.proofs.RowFlat.{RowFlat, row_flat, row_with, row_shift, row_levels, row_lower}
use Rattle.tree_laws.proofs.RowsGrow.{rows_grow}
use Rattle.calls.specs.Kind.{Kind, begin, end, text, code, kind_word, is_begin, opens_after}
use Rattle.calls.specs.Store.{Store, Fact, no_fact, fact, count, row, width, height_fits}
use Rattle.calls.specs.Nesting.{new_facts}
use Rattle.calls.specs.Insert.{position, up_at, depth_at, book_after, insert_store, insert_moved, insert_split}
use Rattle.calls.specs.Words.{words_of, Says}
use Rattle.calls_laws.proofs.Tests.{Sound, sane}
use Rattle.calls_laws.proofs.Fields.{length_words, TagSays, tag_says, header_says}
use Rattle.calls_laws.proofs.Sections.{in_row, distinct_row, new_apart}
use Rattle.calls_laws.proofs.NewFacts.{length_new_facts, new_unmarked}
use Rattle.calls_laws.proofs.Inserts.{row_degrees, labels_kept, RowAccepted, position_fits}
use Rattle.calls_laws.proofs.Moved.{moved_unmarked, moved_once}
use Rattle.calls_laws.proofs.Widths.{store_powers}
use Rattle.calls_laws.proofs.WordSteps.{header_said}
use Rattle.edit_model.specs.Image.{Image, image_header, image_words, image_of, with_labels}
use Rattle.edit_model.specs.Relabel.{Relabelled}
use Rattle.edit_model.specs.Insert.{Plan, Edited, added_row, applied, plan_of, raised_words, row_edit, stamped}
use Rattle.edit_model.proofs.Image.{Proper, proper_image, image_header_word, store_image, Alike, image_is}
use Rattle.edit_model.proofs.Along.{unmarked_by, unmarked_row}
use Rattle.edit_model.proofs.Differ.{differ}
use Rattle.edit_model.proofs.Moves.{moved_and_new, moved_with_facts}
use Rattle.edit_model.proofs.Added.{with_tags, added_image, proper_with_tags, with_levels, with_stamp, levels_set, stamp_set}
use Rattle.edit_model.proofs.Widest.{labels_below}
use Rattle.edit_model.proofs.Renumbered.{Right, WordsIn, RowIn, row_in, renumbered_words, renumbered_moved}
use Rattle.edit_model.proofs.Plans.{place_tag, Planned, sound_said, image_said, planned}

-- a begin by its word, where it is not marked
begin_word : (c : Kind) → eqb (kind_word c false) 1 ≡ is_begin c
unfolding kind_word code is_begin
begin_word begin = refl
begin_word end = refl
begin_word text = refl

-- where each tag of a row passes a test
all_pass : (f : ℕ → Bool) (xs : List ℕ) → ((x : ℕ) → member x xs ≡ true → f x ≡ true) → map f xs ≡ replicate (length xs) true
all_pass f [] pass = refl
all_pass f (x ∷ xs) pass = rw (pass x (member_first x xs), all_pass f xs (λ z m. pass z (member_later z x xs m)))

-- THE STAMP
unfoldable stamped_store : Store → Store
stamped_store st = record { book = st.book; number = st.number; stamp = suc st.stamp; facts = st.facts }

stamped_words : (st : Store) (rest : List ℕ) → stamped (words_of st ++ rest) ≡ words_of (stamped_store st) ++ rest
unfolding stamped stamped_store with_stamp image_of
stamped_words st rest =
    let alike : Alike (with_stamp (suc st.stamp) (image_of st)) (image_of (stamped_store st)) =
    record { s = refl; r = refl; levels = refl; number = refl; stamp = refl; tags = refl; labels = refl; facts = refl } in
    rw ((header_says st rest).stamp, store_image st) (stamp_set (image_of st) rest (suc st.stamp) ∙ rw (image_is _ (stamped_store st) alike))

-- THE LEVELS of an image, raised where the split is that high
raised_image : (u : Image) (rest : List ℕ) (h a : ℕ) → a ≡ cond (leb u.levels h) (suc h) u.levels →
    raised_words (image_words u ++ rest) h ≡ image_words (with_levels a u) ++ rest
unfolding raised_words image_header with_levels
raised_image u rest h a e =
    rw (image_header_word u rest at_height (omega arith), e)
    (by_test (leb u.levels h) (λ t. rw t (levels_set u rest (suc h))) (λ t. rw t))

-- WHAT A ROW OF KINDS OVER WORDS IS TO DO
pub record EditRight (ks : List Kind) (y : ℕ) (ws : List ℕ) (st : Store) (e : Edited) : Type 0 where
  pub words_are : stamped e.words ≡ in_front (words_of (insert_store ks y st)) ws
  pub moved_is : e.moved ≡ insert_moved ks y st
  pub split_is : e.split ≡ insert_split ks y st

module _ (ws : List ℕ) (st : Store) (says : Says ws st) (ks : List Kind) (y : ℕ) (some : 1 ≤ length ks) (a : RowAccepted (length ws) ks y st) where
  own : Sound st
  own = sound_said ws st says

  -- the place, and the up and the depth of what goes in there
  pub place_said : place_tag st (position y st) ≡ y
  unfolding position
  place_said = go a.place
    where
      go : (y ≡ no_tag) ⊎ ((y < count st) × ((fact st y).marked ≡ false)) → place_tag st (position y st) ≡ y
      go (inl e) = rw (eq-eqb y no_tag e) (sym e)
      go (inr l) = rw (ne_eqb y no_tag (λ e. omega (arith, own.few, l.0))) (getD_place y (row st) no_tag (in_row own y l.0))

  -- the front, or a tag whose words say what the store does
  by_place : {G : Type 0} → (eqb y no_tag ≡ true → G) → (eqb y no_tag ≡ false → TagSays ws st y → eqb (field ws y at_kind) 1 ≡ is_begin (fact st y).kind → G) → G
  unfolding Says
  by_place at_front at_tag =
      ⊎_elim
      (λ e. at_front (eq-eqb y no_tag e))
      (λ l. let tag : TagSays ws st y = rw says.1.1 (tag_says st says.1.0 y l.0) in
      at_tag (ne_eqb y no_tag (λ e. omega (arith, own.few, l.0))) tag (rw (tag.kind_is, l.1) (begin_word (fact st y).kind)))
      a.place

  pub up_said : up_word ws y ≡ up_at y st
  unfolding up_word up_at
  up_said = by_place (λ e. rw e) (λ e tag begins. rw (e, begins, tag.up_word))

  pub depth_said : depth_word ws y ≡ depth_at y st
  unfolding depth_word depth_at opens_after
  depth_said = by_place (λ e. rw e) (λ e tag begins. rw (e, begins, tag.depth_is))

  -- THE NEW TAGS: where they go, their numbers and facts, and the book with them
  abbrev p : ℕ
  p = position y st

  abbrev n : ℕ
  n = count st

  abbrev k : ℕ
  k = length ks

  abbrev ns : List ℕ
  ns = numbers n k

  abbrev ts : List Fact
  ts = new_facts (up_at y st) [] (depth_at y st) n ks

  abbrev after : Book
  after = inserted_row k p n st.book

  abbrev rest : List ℕ
  rest = drop (words_for header_words (n + k)) ws

  abbrev q : Plan
  q = plan_of ws k (place_tag st p)

  facts_long : length ts ≡ k
  facts_long = length_new_facts (up_at y st) [] (depth_at y st) n ks

  numbers_long : length ns ≡ k
  numbers_long = length_numbers n k

  pub fits : p ≤ n
  fits = omega (arith, position_fits (length ws) ks y st own a, own.as_many)

  in_book : p ≤ size st.book.root
  in_book = omega (arith, own.as_many, fits)

  grows : RowGrows k p n st.book
  unfolding RowsGrow
  grows = rows_grow k p n st.book (sane own) in_book

  after_sane : Sane after
  after_sane = sane_inserted_row k p n st.book (sane own) in_book

  labels_fit : height_fits st (height after) ≡ true
  labels_fit =
      let b = st.book in
      let many = own.as_many in
      labels_kept (height_fits st) b.s b.r k p n b (sane own) refl refl in_book (rw many a.labels) own.labels_fit

  -- the labels afterwards, in parts
  d : RowFlat (width st) p ns st.book
  d = row_flat (width st) p ns st.book (sane own) in_book (rw numbers_long some)

  abbrev ls : List ℕ
  ls = labels_of (width st) after

  labels_now : ls ≡ d.before ++ (d.piece.new ++ (map (λ l. l + d.piece.shift) d.beside ++ d.after))
  labels_now = rw grows.book d.now

  label_below : (i : ℕ) → i < length ls → get_or ls i 0 < no_tag
  label_below =
      let same = row_degrees k p n st.book in labels_below own after after_sane same.0 same.1 labels_fit

  -- the plan is right
  right_plan : Planned st p ns d q
  right_plan = rw numbers_long at (planned ws st says p fits ns d)

  -- THE IMAGE with the new tags, and with its levels
  abbrev v : Image
  v = with_tags p ts (image_of st)

  abbrev u : Image
  u = with_levels (height after) v

  added_said : added_row ws n (place_tag st p) ts ≡ image_words v ++ rest
  unfolding image_of
  added_said =
      let is = image_said ws st says in
      rw is.1
      (added_image (proper_image own) p (omega (arith, in_book)) ts (rw facts_long some) (omega (arith, a.few, facts_long)) is.0
      ∙ rw facts_long)

  levels_said : height after ≡ cond (leb (height st.book) q.height) (suc q.height) (height st.book)
  levels_said = rw (grows.book, right_plan.height_is) (row_levels d)

  raised_said : raised_words (added_row ws n (place_tag st p) ts) q.height ≡ image_words u ++ rest
  unfolding image_of with_tags
  raised_said = rw added_said (raised_image v rest q.height (height after) levels_said)

  proper_row : Proper v
  unfolding image_of
  proper_row = proper_with_tags (proper_image own) p (omega (arith, in_book)) ts (rw facts_long some) (omega (arith, a.few, facts_long))

  proper_raised : Proper u
  unfolding with_levels
  proper_raised = record { as_many = proper_row.as_many; each = proper_row.each; labelled = proper_row.labelled }

  counted : length u.facts ≡ n + k
  unfolding with_levels with_tags image_of
  counted = length-append st.facts ts ∙ rw facts_long

  -- the widths of its levels
  widths_said : (h : ℕ) → h ≤ height after → entry (widths_of (image_words u ++ rest)) h ≡ width st h
  unfolding widths_of image_header with_levels with_tags image_of base
  widths_said h l =
      rw (image_header_word u rest at_s (omega arith), image_header_word u rest at_r (omega arith), image_header_word u rest at_height (omega arith))
      (table_at 1 (st.book.s * st.book.r - 1) (height after) h l ∙ one-mul _ ∙ sym (store_powers st h))

  -- THE PLAN IS RIGHT on the words with the new tags
  abbrev old : List ℕ
  old = insert_at d.piece.offset (replicate k no_tag) d.piece.old

  old_long : length old ≡ length d.piece.old + length ns
  old_long = omega (arith, length_insert d.piece.offset (replicate k no_tag) d.piece.old, length-replicate k no_tag, numbers_long)

  right : Right u (widths_of (image_words u ++ rest)) (width st) st.book.s st.book.r q d.before old d.piece.new d.beside d.after d.piece.shift
  unfolding with_levels with_tags image_of insert_at
  right =
      record {
        was = rw facts_long (row_with d (replicate k no_tag));
        left =
            right_plan.left_is
            ∙ rw facts_long (sym (getD_before (suc p) ns (no_tag ∷ row st) (length d.before) no_tag (omega (arith, in_book)) (omega (arith, d.place_is))));
        count = right_plan.count_is ∙ sym old_long;
        complete = λ zs many. rw (right_plan.height_is, right_plan.cursor_is, right_plan.rest_is, right_plan.number_is) (d.piece.complete zs (many ∙ old_long));
        as_many = d.piece.as_many ∙ sym old_long;
        wide = rw right_plan.height_is (λ h l. widths_said h (rw grows.book (omega (arith, row_lower d))));
        by_is = λ l. right_plan.by_is l (omega (arith, row_shift d no_tag (rw grows.book at label_below) l));
        low = right_plan.low;
        stop = right_plan.stop;
      }

  few_tags : length u.facts ≤ most_tags
  few_tags = omega (arith, counted, a.few)

  -- the words, and how many labels are others
  abbrev table : List ℕ
  table = widths_of (image_words u ++ rest)

  abbrev numbered : Relabelled
  numbered = applied (image_words u ++ rest) table st.book.s st.book.r (length u.facts) q

  numbered_words : numbered.words ≡ image_words (with_labels ls u) ++ rest
  numbered_words =
      renumbered_words proper_raised few_tags table (width st) st.book.s st.book.r q d.before old d.piece.new d.beside d.after d.piece.shift right ls labels_now label_below rest

  numbered_moved : numbered.moved ≡ differ (unmarked_row u) u.labels ls
  numbered_moved =
      renumbered_moved proper_raised few_tags table (width st) st.book.s st.book.r q d.before old d.piece.new d.beside d.after d.piece.shift right ls labels_now label_below rest

  -- THE STORE afterwards, not stamped yet
  abbrev su : Store
  su = record { book = after; number = st.number; stamp = st.stamp; facts = st.facts ++ ts }

  alike_after : Alike (with_labels ls u) (image_of su)
  unfolding with_levels with_labels with_tags image_of
  alike_after =
      let same = row_degrees k p n st.book in
      record {
        s = sym same.0;
        r = sym same.1;
        levels = refl;
        number = refl;
        stamp = refl;
        tags = rw facts_long (sym (tags_inserted_row k p n st.book (sane own) in_book));
        labels = rw (same.0, same.1);
        facts = refl;
      }

  -- HOW MANY TAGS MOVED: a new one counts as moved where it is numbered
  new_passes : map (unmarked_by (st.facts ++ ts)) ns ≡ replicate (length ns) true
  new_passes =
      all_pass (unmarked_by (st.facts ++ ts)) ns (λ x new.
      let behind : n + (x - n) ≡ x = omega (arith, number_bounds x n k new) in
      let free = new_unmarked (up_at y st) [] (depth_at y st) n ks (x - n) in
      rw (rw behind at (get_or-append-add st.facts ts (x - n) no_fact), free))

  apart : Apart ns (row st)
  apart = new_apart own k

  moved_said : moved_unmarked st after + k ≡ differ (unmarked_row u) u.labels ls
  unfolding with_levels with_tags image_of insert_at
  moved_said =
      let both =
      moved_and_new (width st) st.book after p ns (distinct_row own) (distinct_numbers n k) apart in_book (tags_inserted_row k p n st.book (sane own) in_book)
      (unmarked_by (st.facts ++ ts)) no_tag label_below new_passes in
      rw facts_long (rw (moved_with_facts own ts after, numbers_long) at both)

  -- ALL OF IT
  raised_there : raised_words (added_row ws n y ts) (plan_of ws k y).height ≡ image_words u ++ rest
  raised_there = rw place_said at raised_said

  edit_is : row_edit ks y ws ≡ record { words = numbered.words; moved = numbered.moved - k; split = q.height }
  unfolding row_edit
  edit_is =
      let head = header_said ws st says in
      rw (head.issued, head.degree_s, head.degree_r, up_said, depth_said, raised_there, counted, place_said)

  stored : stamped_store su ≡ insert_store ks y st
  unfolding stamped_store insert_store book_after
  stored = refl

  edit_words : stamped (row_edit ks y ws).words ≡ in_front (words_of (insert_store ks y st)) ws
  unfolding in_front stamped_store
  edit_words =
      let long : length (words_of (stamped_store su)) ≡ words_for header_words (n + k) = length_words (stamped_store su) ∙ ap (words_for header_words) (length-append st.facts ts ∙ rw facts_long) in
      rw (edit_is, numbered_words, image_is (with_labels ls u) su alike_after, ← stored, long) (stamped_words su rest)

  edit_moved : (row_edit ks y ws).moved ≡ insert_moved ks y st
  unfolding book_after
  edit_moved = rw (edit_is, numbered_moved) (omega (arith, moved_said, moved_once ks y own))

  edit_split : (row_edit ks y ws).split ≡ insert_split ks y st
  unfolding insert_split
  edit_split = rw edit_is (right_plan.height_is ∙ sym d.height_is ∙ rw numbers_long (sym grows.split))

  -- an accepted row
  pub row_right : EditRight ks y ws st (row_edit ks y ws)
  row_right = record { words_are = edit_words; moved_is = edit_moved; split_is = edit_split }

  -- WHAT THE CODE IS TO FIND on the words with the new tags and their height: the row that the plan numbers, as a path that is one,
  -- and the header
  abbrev there : List ℕ
  there = raised_words (added_row ws n y ts) (plan_of ws k y).height

  pub row_found : RowIn there (n + k) (plan_of ws k y)
  row_found =
      let g : WordsIn (raised_words (added_row ws n (place_tag st p) ts) q.height) (n + k) = record { image = u; rest = rest; words_are = raised_said; proper = proper_raised; counted = counted } in
      rw place_said at (row_in q g table (width st) st.book.s st.book.r d.before old d.piece.new d.beside d.after d.piece.shift right)

  pub path_there : PathFits st.book.r (plan_of ws k y).height (plan_of ws k y).cursor (plan_of ws k y).rest (plan_of ws k y).count
  path_there =
      rw place_said at (rw (← right_plan.height_is, ← right_plan.cursor_is, ← right_plan.rest_is, ← right_plan.count_is) at d.piece.paths)

  -- H afterwards is above the plan's height
  pub lower_there : (plan_of ws k y).height < height after
  lower_there = let lower : q.height < height after = rw (grows.book, right_plan.height_is) (row_lower d) in rw place_said at lower

  pub header_there : (word_at there at_s ≡ st.book.s) × (word_at there at_r ≡ st.book.r) × (word_at there at_height ≡ height after)
  unfolding image_header with_levels with_tags image_of
  header_there =
      rw raised_there
      (image_header_word u rest at_s (omega arith), image_header_word u rest at_r (omega arith), image_header_word u rest at_height (omega arith))
