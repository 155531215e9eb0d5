-- The plan of a row of tags: it is what the flat view of that row says. Assumes nothing.
use mathlib.Core.Path.{◌≡◌, refl, sym, ◌∙◌}
use mathlib.Core.Bool.{true, false, cond}
use mathlib.Core.List.{List, ◌∷◌, ◌++◌}
use Prim.Native.Nat.{ℕ, zero, suc, pred, ◌+◌, ◌*◌, ◌-◌, ◌^◌, ◌≤◌, ◌<◌}
use native.Mathlib.Nat.{le_refl}
use native.Mathlib.Omega.{arith}
use borrow.Author.Tests.{le-ltb, lt-ltb, ltb-true, ltb-false, eq-eqb, ne_eqb, eqb-true, eqb-false}
use lib.Dec.{ltb, eqb}
use lib.ListN.{length, get_or, replicate, length-append, get_or-append, get_or-eq_default}
use lib.Seq.{get_or-append-add}
use Rattle.store_types.specs.Limits.{no_tag, label_limit}
use Rattle.store_types.specs.Layout.{label_at}
use Rattle.lists.proofs.Tests.{by_test}
use Rattle.powers.specs.Tables.{entry, table_length}
use Rattle.shape.specs.Tables.{widths_of, highs_of}
use Rattle.shape.specs.Sums.{cut}
use Rattle.shape.proofs.Sums.{cut_below}
use Rattle.tree.specs.Good.{Good}
use Rattle.tree.specs.Forest.{Forest, nil, leaf, node, leaves, size, labels}
use Rattle.tree.specs.Book.{height, labels_of}
use Rattle.tree.specs.Reach.{left_in, size_in}
use Rattle.tree.specs.Grown.{height_for}
use Rattle.tree_laws.proofs.Rows.{member_getD}
use Rattle.tree_laws.proofs.Spread.{some_power}
use Rattle.tree_laws.proofs.Labels.{length_labels, Rising, rising_order, rising_from, rising_below}
use Rattle.tree_laws.proofs.Insertion.{rooted, empty_low}
use Rattle.tree_laws.proofs.Ancestors.{size_most, node_number, at_inside}
use Rattle.tree_laws.proofs.Root.{whole}
use Rattle.tree_laws.proofs.Border.{Cut, label_within}
use Rattle.tree_laws.proofs.Full.{split_root, split_inner}
use Rattle.tree_laws.proofs.RowFlat.{RowFlat, row_parts, row_cut}
use Rattle.calls.specs.Store.{Store, count, row, width}
use Rattle.calls.specs.Words.{Says}
use Rattle.calls_laws.proofs.Widths.{store_widths}
use Rattle.calls_laws.proofs.Tests.{Sound, sane, facts_of}
use Rattle.calls_laws.proofs.Sections.{row_below}
use Rattle.calls_laws.proofs.WordSteps.{header_said, width_said}
use Rattle.walk_model.specs.Walk.{shape_of}
use Rattle.words.specs.Places.{watched_label, behind}
use Rattle.walk_model.specs.Watch.{ancestor_numbers, sizes_at}
use Rattle.walk_model.specs.Promise.{TablesRight}
use Rattle.walk_model.proofs.Shapes.{tables_right}
use Rattle.walk_model.proofs.WalkRight.{facts as header_facts_said}
use Rattle.walk_model.proofs.Numbers.{numbers_whole}
use Rattle.walk_model.proofs.Sizes.{sizes_right}
use Rattle.edit_model.specs.Image.{image_words, image_of}
use Rattle.edit_model.specs.Split.{highest_full, left_border}
use Rattle.edit_model.specs.Insert.{Plan, numbers_at, plain_plan, root_plan, split_plan, plan, plan_of}
use Rattle.edit_model.proofs.Image.{store_image, proper_image}
use Rattle.edit_model.proofs.Along.{label_of_place}
use Rattle.edit_model.proofs.Splits.{Highest, Fills, highest_one, full_highest, full_found}
use Rattle.edit_model.proofs.Behind.{behind_place}
use Rattle.edit_model.proofs.Borders.{ended, left_front, left_ancestor}

-- the first label of a forest is its number
first_label : (s r : ℕ) (f : Forest) (w : ℕ → ℕ) (j a : ℕ) → 2 ≤ r → Good s r f j → 1 ≤ size f → get_or (labels f w j a) 0 0 ≡ a
unfolding labels leaves
first_label s r nil w j a r_least good some = absurd (omega arith)
first_label s r (leaf x f) w j a r_least good some = refl
first_label s r (node g f) w zero a r_least good some = absurd good
first_label s r (node g f) w (suc j) a r_least good some =
    let inner : 1 ≤ size g = omega (arith, good.0, some_power r (suc j) r_least) in
    get_or-append (labels g w j a) (labels f w (suc j) (a + w (suc j))) 0 0 (rw (length_labels g w j a) inner) ∙ first_label s r g w j a r_least good.2 inner

-- the tag before the place behind the first p tags, and the numbers and sizes of the ancestors of that place
abbrev pub place_tag : Store → (p : ℕ) → ℕ
place_tag st p = get_or (no_tag ∷ row st) p no_tag

abbrev pub numbers_before : (ws : List ℕ) → Store → (p : ℕ) → List ℕ
numbers_before ws st p = ancestor_numbers (widths_of ws) st.book.under (get_or (labels_of (width st) st.book) (p - 1) 0) 0 (replicate table_length 0)

abbrev pub sizes_before : (ws : List ℕ) → Store → (p : ℕ) → List ℕ
sizes_before ws st p = sizes_at ws (place_tag st p) (replicate table_length 0)

-- the height that is found by them for m tags
abbrev pub height_found : (ws : List ℕ) → Store → (p m : ℕ) → ℕ
height_found ws st p m = highest_full (highs_of ws) (sizes_before ws st p) m st.book.under 1 0

-- the flat view of a row of new tags in a store
abbrev pub RowInStore : Store → (p : ℕ) → (new : List ℕ) → Type 0
RowInStore st p ns = RowFlat (width st) p ns st.book

-- A PLAN THAT IS RIGHT: what the flat view says; its bound cuts what is shifted from what stands behind. What it shifts by is cut
-- to a label.
pub record Planned (st : Store) (p : ℕ) (ns : List ℕ) (d : RowInStore st p ns) (q : Plan) : Type 0 where
  pub height_is : q.height ≡ d.height
  pub left_is : q.left ≡ place_tag st (length d.before)
  pub number_is : q.number ≡ d.piece.number
  pub count_is : q.count ≡ length d.piece.old + length ns
  pub cursor_is : q.cursor ≡ d.piece.cursor
  pub rest_is : q.rest ≡ d.piece.rest
  pub by_is : 1 ≤ length d.beside → d.piece.shift < label_limit → q.by ≡ d.piece.shift
  pub low : (i : ℕ) → i < length d.beside → get_or d.beside i 0 < q.bound
  pub stop : 1 ≤ length d.after → q.bound ≤ get_or d.after 0 0

-- a bound within the width of a root that a label can hold is a sum that is not cut
pub bound_whole : (c e : ℕ) (behind : List ℕ) → Rising c e behind → e < label_limit → cut c ≡ c
bound_whole c e ls rising narrow = cut_below c (omega (arith, rising_order c e ls rising))

-- where labels are cut, those just before the cut are below it and the first behind it is not
pub cut_low : (a c e : ℕ) (xs ys zs ts : List ℕ) → Cut a c e (xs ++ (ys ++ zs)) ts → (i : ℕ) → i < length zs → get_or zs i 0 < c
cut_low a c e xs ys zs ts cut i l =
    let at = get_or-append-add xs (ys ++ zs) (length ys + i) 0 ∙ get_or-append-add ys zs i 0 in
    rw at at (rising_below a c (xs ++ (ys ++ zs)) cut.0 (length xs + (length ys + i)) (simp length-append (omega arith)))

module _ (ws : List ℕ) (st : Store) (says : Says ws st) where
  pub sound_said : Sound st
  unfolding Says
  sound_said = facts_of st says.0

  -- THE WORDS are an image's
  pub image_said : (rest : List ℕ) × (ws ≡ image_words (image_of st) ++ rest)
  unfolding Says
  image_said = (says.1.0, says.1.1 ∙ rw (store_image st))

  -- THE TABLES are right
  tables_said : TablesRight st.book.s st.book.r (width st) (height st.book) (shape_of ws).tables
  tables_said = rw (width_said ws st says) at (tables_right (header_facts_said ws st says))

  low_enough : height st.book < table_length
  low_enough = omega (arith, tables_said.top_fits)

  pub widths_right : (h : ℕ) → h ≤ height st.book → entry (widths_of ws) h ≡ width st h
  unfolding shape_of
  widths_right h l = tables_said.widths h l

  -- a label can hold where the root ends
  pub narrow_said : width st (height st.book) < label_limit
  narrow_said = tables_said.narrow (height st.book) (le_refl (height st.book))

  pub highs_right : (h : ℕ) → h ≤ height st.book → entry (highs_of ws) h ≡ st.book.s * st.book.r ^ h
  unfolding shape_of
  highs_right h l = tables_said.highs h l

  -- A PLACE behind the first p tags: the tag before it, its label, and the tag behind it
  tag_said : (i : ℕ) → i < count st → get_or (row st) i no_tag < count st
  tag_said i l = row_below sound_said _ (member_getD (row st) i no_tag (omega (arith, sound_said.as_many)))

  pub is_tag : (i : ℕ) → i < count st → eqb (get_or (row st) i no_tag) no_tag ≡ false
  is_tag i l = ne_eqb (get_or (row st) i no_tag) no_tag (λ e. omega (arith, sound_said.few, tag_said i l))

  pub behind_said : (p : ℕ) → p ≤ count st → behind ws (place_tag st p) ≡ get_or (row st) p no_tag
  unfolding image_of
  behind_said p fits =
      rw image_said.1 (behind_place (proper_image sound_said) sound_said.few image_said.0 p (omega (arith, sound_said.as_many)))

  pub label_said : (i : ℕ) → i < count st → label_at ws (get_or (row st) i no_tag) ≡ get_or (labels_of (width st) st.book) i 0
  unfolding image_of
  label_said i l = rw image_said.1 (label_of_place (proper_image sound_said) image_said.0 i no_tag (omega (arith, sound_said.as_many)))

  first_said : get_or (labels_of (width st) st.book) 0 0 ≡ 0
  first_said =
      let k = st.book in
      by_test (eqb (size k.root) 0)
      (λ t. get_or-eq_default (labels_of (width st) k) 0 {n = 0} (omega (arith, length_labels k.root (width st) k.under 0, eqb-true (size k.root) 0 t)))
      (λ t. let some = eqb-false (size k.root) 0 t in
      first_label k.s k.r k.root (width st) k.under 0 sound_said.degrees.r_least (rooted k (sane sound_said)).good (omega arith))

  -- a root whose children are nodes is over some tag
  some_said : 1 ≤ st.book.under → 1 ≤ count st
  some_said high =
      omega (arith, sound_said.as_many, (rooted st.book (sane sound_said)).low (λ i. omega arith), some_power st.book.r st.book.under sound_said.degrees.r_least)

  -- the label by which the ancestors of the place are watched
  pub watched_said : (p : ℕ) → p ≤ count st → watched_label ws (place_tag st p) ≡ get_or (labels_of (width st) st.book) (p - 1) 0
  unfolding watched_label
  watched_said zero fits = rw ((header_said ws st says).issued, le-ltb no_tag (count st) (omega (arith, sound_said.few))) (sym first_said)
  watched_said (suc q) fits =
      let before : suc q - 1 ≡ q = omega arith in
      rw ((header_said ws st says).issued, lt-ltb (get_or (row st) q no_tag) (count st) (tag_said q fits), before) (label_said q fits)

  -- the label right behind it
  pub next_number : (p n : ℕ) → p ≤ count st → (p ≡ 0 → n ≡ 0) → ((q : ℕ) → p ≡ suc q → n ≡ get_or (labels_of (width st) st.book) q 0 + width st 0) →
      cond (eqb (place_tag st p) no_tag) 0 (cut (label_at ws (place_tag st p) + entry (widths_of ws) 0)) ≡ n
  next_number zero n fits front next = sym (front refl)
  next_number (suc q) n fits front next =
      let room = label_within (store_widths st) (sane sound_said) q (omega (arith, sound_said.as_many)) in
      rw (is_tag q fits, label_said q fits, widths_right 0 (omega arith)) (cut_below _ (omega (arith, narrow_said)) ∙ sym (next q refl))

  module _ (p : ℕ) (fits : p ≤ count st) where
    pub numbers_said : numbers_at ws (widths_of ws) st.book.under (place_tag st p) ≡ numbers_before ws st p
    unfolding numbers_at
    numbers_said = rw (watched_said p fits)

    -- the plan of m tags
    pub plan_said : (m : ℕ) → plan_of ws m (place_tag st p) ≡ plan ws st.book.s st.book.r (widths_of ws) (highs_of ws) (sizes_before ws st p) (count st) m st.book.under (place_tag st p)
    unfolding plan_of
    plan_said m = let head = header_said ws st says in rw (head.degree_s, head.degree_r, head.levels, head.issued)

    pub size_said : p ≤ size st.book.root
    size_said = omega (arith, sound_said.as_many)

    -- the numbers, and the bound of a height
    pub number_right : (h : ℕ) → 1 ≤ h → h ≤ height st.book → entry (numbers_before ws st p) h ≡ node_number (whole st.book) (width st) (height st.book) h p 0
    number_right =
        numbers_whole st.book (store_widths st) (sane sound_said) (widths_of ws) p size_said (λ h l. widths_right h (omega arith)) low_enough

    -- the tag left of the ancestor of a height below the root
    pub left_said : (h : ℕ) → 1 ≤ h → h ≤ st.book.under →
        left_border (count st) (count st) ws (entry (numbers_before ws st p) h) (place_tag st p)
        ≡ ended (place_tag st (left_in (whole st.book) (height st.book) h p)) (p - left_in (whole st.book) (height st.book) h p)
    unfolding image_of
    left_said h least most =
        let k = st.book in
        let inside = at_inside k.root nil (width st) (height k) h p 0 size_said (λ i. omega arith) in
        rw (number_right h least (omega arith), inside.0, inside.1, image_said.1)
        (left_ancestor sound_said.degrees.s_least sound_said.degrees.r_least (store_widths st) (proper_image sound_said) (omega (arith, sound_said.few)) image_said.0 k.root k.under p h
        (rooted k (sane sound_said)).good size_said (omega (arith, some_said (omega arith), sound_said.as_many)) refl refl least most)

    -- to the front
    front_said : left_border (count st) (count st) ws 0 (place_tag st p) ≡ ended no_tag p
    unfolding image_of
    front_said =
        rw image_said.1 (left_front (proper_image sound_said) (omega (arith, sound_said.few)) image_said.0 p fits (omega (arith, sound_said.as_many)))

    -- its size, and the height that is found by the sizes
    sizes_said : (h : ℕ) → 1 ≤ h → h ≤ st.book.under → entry (sizes_before ws st p) h ≡ size_in st.book.root st.book.under h p
    sizes_said h least most =
        sizes_right ws st says p (place_tag st p) fits (some_said (omega arith)) (watched_said p fits) (replicate table_length 0) refl h least most

    pub sizes_few : (h : ℕ) → 1 ≤ h → h ≤ st.book.under → entry (sizes_before ws st p) h ≤ count st
    sizes_few h least most = rw (sizes_said h least most) (omega (arith, size_most st.book.root st.book.under h p, sound_said.as_many))

    pub found_highest : (m : ℕ) → Highest (Fills st.book.s st.book.r st.book.root st.book.under p m) st.book.under (height_found ws st p m)
    found_highest =
        full_found st.book.s st.book.r st.book.root st.book.under p (highs_of ws) (sizes_before ws st p) (λ h l. highs_right h (omega arith)) sizes_said

    module _ (ns : List ℕ) (d : RowInStore st p ns) where
      bound_cuts : d.height ≤ st.book.under →
          Cut 0 (entry (numbers_before ws st p) (suc d.height) + entry (widths_of ws) (suc d.height)) (width st (height st.book)) (d.before ++ (d.piece.old ++ d.beside)) d.after
      bound_cuts low =
          rw (number_right (suc d.height) (omega arith) (omega arith), widths_right (suc d.height) (omega arith))
          (row_cut (store_widths st) (sane sound_said) size_said d low)

      -- A ROOT SPLIT numbers all tags anew
      root_planned : st.book.under < d.height → Planned st p ns d (root_plan st.book.s st.book.r d.height (count st) (length ns) (ended no_tag p))
      unfolding root_plan
      root_planned above =
          let none = d.root above in
          let all = rw (none.1, none.2, none.3) at (row_parts d) in
          let many : length d.piece.old ≡ count st = omega (arith, sound_said.as_many) in
          let here : p ≡ d.piece.offset = d.place_is ∙ rw none.1 (omega arith) in
          let piece = rw many at (d.piece.split (omega arith)) in
          record {
            height_is = refl;
            left_is = rw none.1;
            number_is = sym none.0;
            count_is = rw many;
            cursor_is = rw here (sym piece.cursor_is);
            rest_is = sym piece.rest_is;
            by_is = rw none.2 (λ l. absurd (omega arith));
            low = rw none.2 (λ i l. absurd (omega arith));
            stop = rw none.3 (λ l. absurd (omega arith));
          }

      -- NO SPLIT: the new tags alone
      plain_planned : d.height ≡ 0 → Planned st p ns d (plain_plan ws (widths_of ws) (length ns) st.book.under (place_tag st p))
      unfolding plain_plan
      plain_planned none =
          let piece = d.piece.plain none in
          let here : p ≡ length d.before = omega (arith, d.place_is, piece.offset_is) in
          let cuts = rw none at (bound_cuts (omega arith)) in
          record {
            height_is = sym none;
            left_is = rw (← here);
            number_is = next_number p d.piece.number fits d.front (d.next none);
            count_is = rw piece.none (omega arith);
            cursor_is = sym piece.cursor_is;
            rest_is = sym piece.rest_is;
            by_is = λ l small. rw (widths_right 0 (omega arith), ← piece.shift_is) (cut_below d.piece.shift small);
            low = rw (numbers_said, bound_whole _ _ d.after cuts.1 narrow_said) (cut_low _ _ _ d.before d.piece.old d.beside d.after cuts);
            stop = rw (numbers_said, bound_whole _ _ d.after cuts.1 narrow_said) (rising_from _ _ d.after cuts.1 0);
          }

      -- BELOW THE ROOT: the height that is found is that of the split
      split_planned : 1 ≤ d.height → d.height ≤ st.book.under →
          Planned st p ns d (split_plan st.book.s st.book.r (widths_of ws) (numbers_before ws st p) d.height (length d.piece.old) (length ns)
          (ended (place_tag st (length d.before)) d.piece.offset))
      unfolding split_plan
      split_planned least most =
          let piece = d.piece.split least in
          let cuts = bound_cuts most in
          record {
            height_is = refl;
            left_is = refl;
            number_is = number_right d.height least (omega arith) ∙ d.number_is most least;
            count_is = refl;
            cursor_is = sym piece.cursor_is;
            rest_is = sym piece.rest_is;
            by_is = λ l small. rw (widths_right d.height (omega arith), ← piece.shift_is) (cut_below d.piece.shift small);
            low = rw (bound_whole _ _ d.after cuts.1 narrow_said) (cut_low _ _ _ d.before d.piece.old d.beside d.after cuts);
            stop = rw (bound_whole _ _ d.after cuts.1 narrow_said) (rising_from _ _ d.after cuts.1 0);
          }

      -- what is found: whether the root is split, its height, and that below it
      abbrev top_found : ℕ
      top_found = height_for (length ns) st.book.s st.book.r (count st + length ns) (height st.book)

      root_found : ltb (height st.book) top_found ≡ ltb st.book.under d.height
      root_found = rw (← sound_said.as_many) d.grows

      top_said : ltb st.book.under d.height ≡ true → pred top_found ≡ d.height
      top_said t = rw (← sound_said.as_many) (sym (split_root (length ns) p st.book (d.grows ∙ t)) ∙ d.height_is)

      height_said : ltb st.book.under d.height ≡ false → height_found ws st p (length ns) ≡ d.height
      height_said t =
          let k = st.book in
          highest_one (found_highest (length ns)) (full_highest k.s k.r sound_said.degrees.r_least k.root k.under (length ns) p (rooted k (sane sound_said)).good size_said (empty_low k (sane sound_said)))
          ∙ sym (split_inner (length ns) p k (d.grows ∙ t)) ∙ d.height_is

      -- the tags of the split node, and the tag left of it
      split_size : 1 ≤ d.height → d.height ≤ st.book.under → entry (sizes_before ws st p) d.height ≡ length d.piece.old
      split_size least most =
          let k = st.book in
          sizes_said d.height least most ∙ sym (at_inside k.root nil (width st) (height k) d.height p 0 size_said (λ i. omega arith)).2 ∙ d.size_is most

      split_left : 1 ≤ d.height → d.height ≤ st.book.under →
          left_border (count st) (count st) ws (entry (numbers_before ws st p) d.height) (place_tag st p) ≡ ended (place_tag st (length d.before)) d.piece.offset
      split_left least most =
          let steps : p - length d.before ≡ d.piece.offset = omega (arith, d.place_is) in
          left_said d.height least most ∙ rw (d.left_is most, steps)

      inside_planned : ltb st.book.under d.height ≡ false → (h : ℕ) → d.height ≡ h → Planned st p ns d
          (cond (eqb (height_found ws st p (length ns)) 0)
          (plain_plan ws (widths_of ws) (length ns) st.book.under (place_tag st p))
          (split_plan st.book.s st.book.r (widths_of ws) (numbers_at ws (widths_of ws) st.book.under (place_tag st p)) (height_found ws st p (length ns))
          (entry (sizes_before ws st p) (height_found ws st p (length ns))) (length ns)
          (left_border (count st) (count st) ws (entry (numbers_at ws (widths_of ws) st.book.under (place_tag st p)) (height_found ws st p (length ns))) (place_tag st p))))
      inside_planned t zero e = rw (eq-eqb _ 0 (height_said t ∙ e)) (plain_planned e)
      inside_planned t (suc h) e =
          let most = ltb-false st.book.under d.height t in
          rw (height_said t, numbers_said, ne_eqb d.height 0 (λ i. omega arith), split_size (omega arith) most, split_left (omega arith) most) (split_planned (omega arith) most)

      -- THE PLAN OF A ROW OF TAGS
      pub planned : Planned st p ns d (plan_of ws (length ns) (place_tag st p))
      unfolding plan
      planned =
          rw (plan_said (length ns))
          (by_test (ltb st.book.under d.height)
          (λ t. rw (root_found ∙ t, top_said t, front_said) (root_planned (ltb-true _ _ t)))
          (λ t. rw (root_found ∙ t) (inside_planned t d.height refl)))
