-- The pass (walk_model's Walk): one turn of its loop from what the calls answer, what a turn keeps, and its end. Assumes nothing.
use mathlib.Core.Path.{◌≡◌, refl, sym, ◌∙◌}
use mathlib.Core.Bool.{Bool, true, false, ◌&&◌, not, cond, false≢true, and-false, and-eq-true_iff}
use mathlib.Core.Logic.{⊎_elim, by_cases}
use mathlib.Core.List.{List}
use Prim.Native.Nat.{ℕ, zero, suc, ◌+◌, ◌-◌, ◌%◌, ◌≤◌, ◌<◌}
use native.Mathlib.Nat.{sub-zero}
use native.Mathlib.Numerals.{add-one}
use native.Mathlib.Decide.{ℕ_discrete}
use native.Mathlib.Omega.{arith}
use borrow.Author.Tests.{eq-eqb, ne_eqb, lt-ltb, le-ltb, ltb-true, eqb-true, not-true, not-false}
use lib.Dec.{leb, eqb}
use lib.ListN.{length, get_or}
use Rattle.store_types.specs.Limits.{no_tag, label_limit}
use Rattle.store_types.specs.Layout.{at_first, at_stamp, at_up, at_kind, word_at, field, label_at}
use Rattle.words.specs.Offsets.{offset_of}
use Rattle.words.proofs.Offsets.{offset_beyond}
use Rattle.walk_model.specs.Levels.{Levels, closes, all_close}
use Rattle.walk_model.specs.Walk.{end_fits, kind_fits, open_after, depth_fits, placed, tag_passes, passed, ends_well, walk}
use Rattle.walk_model.specs.Watch.{place_sizes, settle_sizes, close_sizes, walk_sizes}
use Rattle.walk_tags.specs.Needs.{Open, none, begin, TagReads, fits_at, marks_at}
use Rattle.walk_tags.proofs.TagLaws.{kind_fitting, begin_of, open_cases}
use Rattle.walk_tags.proofs.TestLaws.{fits_small, inner_up}
use Rattle.shape.specs.Packed.{widths_in, lows_in, highs_in, numbers_in}
use Rattle.shape.specs.declared.Tables as by_height
use Rattle.shape.specs.Sums.{cut}
use Rattle.walk_levels.specs.declared.Levels as kept
use Rattle.walk_levels.specs.Needs.{tables_of, levels_of, first_levels, settle_from, place_from, close_from, expected_label}
use Rattle.walk_levels.proofs.LevelLaws.{place_waited, place_settled}
use Rattle.walk_levels.proofs.SizeLaws.{place_sizes_waited, place_sizes_settled}
use Rattle.walk.specs.Needs.{PassFits, Standing, Behind, ends_from, label_passes, shape_with, shape_in, label_due, first_state, state_with, start_with}
use Rattle.walk.specs.declared.State as code

-- a test that did not fail holds
pub held : {t s : Bool} → t ≡ s → not t ≡ false → s ≡ true
held {t} e n = sym e ∙ not-false t n

-- BEHIND THE LAST TAG
module _ (ws : List ℕ) (n u : ℕ) (l h : List ℕ) (lv : kept.Levels) (x o m : ℕ) {t : Bool} where
  pub ends_next : t ≡ eqb x no_tag → not t ≡ true → false ≡ ends_from ws n u l h lv x o m
  unfolding ends_from
  ends_next e p = rw (← e, not-true t p)

  pub ends_open : t ≡ eqb o no_tag → not t ≡ true → false ≡ ends_from ws n u l h lv x o m
  unfolding ends_from
  ends_open e p = simp (sym e ∙ not-true t p, and-false)

  pub ends_node : t ≡ close_from l h u n lv → not t ≡ true → false ≡ ends_from ws n u l h lv x o m
  unfolding ends_from
  ends_node e p = simp (sym e ∙ not-true t p, and-false)

  pub ends_stamp : {q r : Bool} → q ≡ eqb x no_tag → not q ≡ false → r ≡ eqb o no_tag → not r ≡ false → t ≡ close_from l h u n lv → not t ≡ false → leb (word_at ws at_stamp) (n + m) ≡ ends_from ws n u l h lv x o m
  unfolding ends_from
  ends_stamp a b c d e g = rw (sym a ∙ not-false _ b, sym c ∙ not-false _ d, sym e ∙ not-false _ g)

-- widths do not matter there
close_same : (w l h : List ℕ) (lv : kept.Levels) (k j i : ℕ) → all_close (tables_of l l h) k j i (levels_of lv) ≡ all_close (tables_of w l h) k j i (levels_of lv)
unfolding all_close closes tables_of levels_of
close_same w l h lv zero j i = refl
close_same w l h lv (suc k) j i = rw (close_same w l h lv k (suc j) i)

module _ (ws : List ℕ) (t : by_height.Tables) (lv : kept.Levels) (n u : ℕ) (v : code.State) where
  ends_same : ends_from ws n u (lows_in t) (highs_in t) lv v.tag.0 v.parent.0 v.marks ≡ ends_well ws (shape_in t u n) (state_with ws v lv)
  unfolding ends_from ends_well shape_with state_with close_from
  ends_same = rw (close_same (widths_in t) (lows_in t) (highs_in t) lv u 1 n)

-- ONE TAG'S LABEL, at its place
module _ (ws : List ℕ) (t : by_height.Tables) (n u : ℕ) (v : code.State) (lv : kept.Levels) where
  abbrev pub label_here : Bool
  label_here = label_passes ws (shape_in t u n) v.place (state_with ws v lv)

  abbrev pub levels_at : Levels
  levels_at = (placed ws (shape_in t u n) v.place (state_with ws v lv)).levels

  abbrev pub sizes_here : (sizes : List ℕ) → List ℕ
  sizes_here sz = place_sizes (widths_in t) (numbers_in t) u (label_due ws v.prior.0) (label_at ws v.tag.0) v.place (levels_of lv) sz

  pub label_beyond : n ≤ v.tag.0 → false ≡ label_here
  unfolding label_passes shape_with state_with
  label_beyond r = rw (le-ltb v.tag.0 n r)

  placed_by : {o : Bool} {z : Levels} → v.tag.0 < n →
      (o ≡ (place_from t u (label_due ws v.prior.0) (label_at ws v.tag.0) v.place lv).ok) × (z ≡ (place_from t u (label_due ws v.prior.0) (label_at ws v.tag.0) v.place lv).levels) →
      (o ≡ label_here) × (z ≡ levels_at)
  unfolding label_passes placed place_from shape_with state_with
  placed_by below c = (rw (lt-ltb v.tag.0 n below) c.0, c.1)

  module _ (stands : Standing ws n lv v) {lab : ℕ} (label : lab ≡ label_at ws v.tag.0) (small : lab < label_limit) (below : v.tag.0 < n) where
    small_label : label_at ws v.tag.0 < label_limit
    small_label = omega (arith, label, small)

    -- the label that is waited for
    pub label_waited : (sz : List ℕ) → lab ≡ v.expect → ((true ≡ label_here) × (levels_of lv ≡ levels_at)) × (sz ≡ sizes_here sz)
    label_waited sz p =
        let q : label_at ws v.tag.0 ≡ v.expect = sym label ∙ p in
        (placed_by below (place_waited t u _ _ v.place lv stands.waits small_label q), place_sizes_waited _ _ u _ _ v.place lv sz stands.waits small_label q)

    -- another
    module _ (other : lab ≡ v.expect → ⊥) where
      not_waited : label_at ws v.tag.0 ≡ v.expect → ⊥
      not_waited q = other (label ∙ q)

      pub label_settled : {o : Bool} {z : Levels} → o ≡ (settle_from t u lab v.place lv).ok → z ≡ (settle_from t u lab v.place lv).levels → (o ≡ label_here) × (z ≡ levels_at)
      label_settled a b = placed_by below (place_settled t u _ _ v.place lv stands.waits small_label (rw (← label) a, rw (← label) b) not_waited)

      pub sizes_settled : (sz : List ℕ) {sz' : List ℕ} → sz' ≡ settle_sizes (widths_in t) (numbers_in t) u 1 lab v.place (levels_of lv) sz → sz' ≡ sizes_here sz
      sizes_settled sz a = place_sizes_settled _ _ u _ _ v.place lv sz stands.waits small_label (rw (← label) a) not_waited

  -- THE WHOLE TAG
  abbrev pub tag_at : Bool
  tag_at = tag_passes ws (shape_in t u n) v.place (state_with ws v lv)

  abbrev pub depth_here : Bool
  depth_here = depth_fits ws v.tag.0 (field ws v.tag.0 at_kind) v.depth

  pub tag_joined : {a b d : Bool} → a ≡ label_here → b ≡ fits_at ws n v.parent.0 v.tag.0 v.prior.0 → d ≡ depth_here → ((a && b) && d) ≡ tag_at
  unfolding tag_passes label_passes fits_at shape_with state_with
  tag_joined p q d = rw (p, q, d)

  pub label_below : {a : Bool} → a ≡ label_here → not a ≡ false → v.tag.0 < n
  unfolding label_passes shape_with state_with
  label_below p q = let all = simp and-eq-true_iff at (sym p ∙ not-false _ q) in ltb-true v.tag.0 n all.0

-- behind it
module _ (ws : List ℕ) (t : by_height.Tables) (n u : ℕ) (v q : code.State) (lv lv' : kept.Levels) (fits : PassFits ws n u t) (below : v.tag.0 < n) where
  next_behind : label_due ws v.tag.0 ≡ cut (label_at ws v.tag.0 + 1)
  unfolding label_due
  next_behind = rw (ne_eqb v.tag.0 no_tag (λ z. omega (arith, fits.records.few)))

  passed_by : levels_of lv' ≡ levels_at ws t n u v lv → {end : ℕ} → Behind ws end v q → state_with ws q lv' ≡ passed ws (shape_in t u n) v.place (state_with ws v lv)
  unfolding passed state_with shape_with tables_of marks_at
  passed_by c b = rw (b.tag, b.prior, b.parent, b.depth, b.marks, next_behind, fits.unit, c)

-- THE WALK FROM A TAG ON: what is left comes to the whole
module _ (ws : List ℕ) (t : by_height.Tables) (n u : ℕ) where
  abbrev pub walk_at : code.State → kept.Levels → Bool
  walk_at v lv = walk ws (shape_in t u n) (n - v.place) v.place (state_with ws v lv)

  abbrev pub walk_whole : Bool
  walk_whole = walk ws (shape_in t u n) n 0 (start_with ws (widths_in t))

  -- and so do the sizes of the watched nodes
  abbrev pub sizes_at_tag : code.State → kept.Levels → (sizes : List ℕ) → List ℕ
  sizes_at_tag v lv sz = walk_sizes ws (shape_in t u n) (numbers_in t) (n - v.place) v.place (state_with ws v lv) sz

  abbrev pub sizes_whole : (sizes : List ℕ) → List ℕ
  sizes_whole sz = walk_sizes ws (shape_in t u n) (numbers_in t) n 0 (start_with ws (widths_in t)) sz

  abbrev start_state : (at : ℕ) → code.State
  start_state p = first_state (word_at ws at_first) p

  pub walk_start : (p : ℕ) {lv : kept.Levels} → lv ≡ first_levels (widths_in t) → walk_at (start_state p) lv ≡ walk_whole
  unfolding state_with start_with label_due
  walk_start p e = rw (sub-zero n, e)

  pub sizes_start : (p : ℕ) {lv : kept.Levels} → lv ≡ first_levels (widths_in t) → (sz : List ℕ) → sizes_at_tag (start_state p) lv sz ≡ sizes_whole sz
  unfolding state_with start_with label_due
  sizes_start p e sz = rw (sub-zero n, e)

  pub standing_start : {p : ℕ} {lv : kept.Levels} → PassFits ws n u t → lv ≡ first_levels (widths_in t) → p ≡ offset_of (word_at ws at_first) → Standing ws n lv (start_state p)
  unfolding label_due expected_label
  standing_start fits e q =
      record { there = q; waits = rw (e, ne_eqb 0 (get_or (widths_in t) 1 0) (λ z. omega (arith, fits.wide))); around = none; marks_few = omega arith }

  -- a first tag whose record would begin behind the words
  pub walk_outside : {p : ℕ} → PassFits ws n u t → p ≡ offset_of (word_at ws at_first) → 0 < n → length ws ≤ p → false ≡ walk_whole
  unfolding walk tag_passes start_with shape_with
  walk_outside fits q some far =
      let z : n ≡ suc (n - 1) = omega arith in
      let beyond : n ≤ word_at ws at_first = offset_beyond fits.records q far in
      rw (z, ← z, le-ltb (word_at ws at_first) n beyond)

  module _ (v : code.State) (lv : kept.Levels) (inv : walk_at v lv ≡ walk_whole) where
    pub walk_end : {a : Bool} → n ≤ v.place → a ≡ ends_from ws n u (lows_in t) (highs_in t) lv v.tag.0 v.parent.0 v.marks → a ≡ walk_whole
    unfolding walk
    walk_end r s = let z : n - v.place ≡ 0 = omega arith in s ∙ ends_same ws t lv n u v ∙ (rw z at inv)

    module _ {a : Bool} (more : v.place < n) (one : a ≡ label_here ws t n u v lv) where
      walk_turn : {b d : Bool} → b ≡ fits_at ws n v.parent.0 v.tag.0 v.prior.0 → d ≡ depth_here ws t n u v lv →
          (((a && b) && d) && walk ws (shape_in t u n) (n - (v.place + 1)) (v.place + 1) (passed ws (shape_in t u n) v.place (state_with ws v lv))) ≡ walk_whole
      unfolding walk
      walk_turn two three =
          let z : n - v.place ≡ suc (n - (v.place + 1)) = omega arith in
          rw (tag_joined ws t n u v lv one two three) (rw (z, ← add-one v.place) at inv)

      pub walk_misplaced : not a ≡ true → false ≡ walk_whole
      walk_misplaced r = rw (not-true a r) at (walk_turn refl refl)

      module _ {b : Bool} (r : not a ≡ false) (two : b ≡ fits_at ws n v.parent.0 v.tag.0 v.prior.0) where
        pub walk_refused : not b ≡ true → false ≡ walk_whole
        walk_refused s = rw (not-false a r, not-true b s) at (walk_turn two refl)

        module _ {d : Bool} (s : not b ≡ false) (three : d ≡ depth_here ws t n u v lv) where
          pub walk_wrong_depth : not d ≡ true → false ≡ walk_whole
          walk_wrong_depth o = rw (not-false a r, not-false b s, not-true d o) at (walk_turn two three)

          pub walk_more : (q : code.State) (lv' : kept.Levels) {end : ℕ} → PassFits ws n u t → not d ≡ false → levels_of lv' ≡ levels_at ws t n u v lv → Behind ws end v q → walk_at q lv' ≡ walk_whole
          walk_more q lv' fits o c h =
              rw (passed_by ws t n u v q lv lv' fits (label_below ws t n u v lv one r) c h, h.place)
              (rw (not-false a r, not-false b s, not-false d o) at (walk_turn two three))

  -- THE SIZES
  turn_by : (sz : List ℕ) (k : ℕ) (v : code.State) (lv : kept.Levels) →
      walk_sizes ws (shape_in t u n) (numbers_in t) (suc k) v.place (state_with ws v lv) sz
      ≡ walk_sizes ws (shape_in t u n) (numbers_in t) k (suc v.place) (passed ws (shape_in t u n) v.place (state_with ws v lv)) (sizes_here ws t n u v lv sz)
  unfolding walk_sizes shape_with tables_of state_with
  turn_by sz k v lv = refl

  module _ (sz : List ℕ) (v : code.State) (lv : kept.Levels) {whole : List ℕ} (inv : sizes_at_tag v lv sz ≡ whole) where
    pub sizes_end : {sz' : List ℕ} → n ≤ v.place → sz' ≡ close_sizes (widths_in t) (numbers_in t) u 1 n (levels_of lv) sz → sz' ≡ whole
    unfolding walk_sizes shape_with tables_of state_with
    sizes_end r s = let z : n - v.place ≡ 0 = omega arith in s ∙ (rw z at inv)

    pub sizes_more : (q : code.State) (lv' : kept.Levels) {sz' : List ℕ} {end : ℕ} → PassFits ws n u t → v.tag.0 < n → v.place < n → levels_of lv' ≡ levels_at ws t n u v lv → Behind ws end v q →
        sz' ≡ sizes_here ws t n u v lv sz → sizes_at_tag q lv' sz' ≡ whole
    sizes_more q lv' fits below more c d s =
        let z : n - v.place ≡ suc (n - (v.place + 1)) = omega arith in
        rw (passed_by ws t n u v q lv lv' fits below c d, s, d.place) (rw (z, turn_by, ← add-one v.place) at inv)

-- WHAT A TURN KEEPS
at_most_one : (t : Bool) → cond t 1 0 ≤ 1
at_most_one true = omega arith
at_most_one false = omega arith

marks_kept : (ws : List ℕ) {end : ℕ} {v q : code.State} → Behind ws end v q → v.marks ≤ v.place → q.marks ≤ q.place
unfolding marks_at
marks_kept ws {v = v} b p = rw (b.marks, b.place) (omega (arith, at_most_one (leb 16 (field ws v.tag.0 at_kind))))

last_test : (a b c : Bool) → cond a false (cond b c false) ≡ true → c ≡ true
last_test true b c e = absurd (false≢true e)
last_test false true c e = e
last_test false false c e = absurd (false≢true e)

module _ (ws : List ℕ) (n o x : ℕ) where
  -- an end that fits has an open begin, and its up
  end_up : (c : ℕ) → end_fits ws n o x c ≡ true → (o ≡ no_tag → ⊥) × (field ws x at_up ≡ field ws o at_up)
  unfolding end_fits
  end_up c e =
      let all = simp and-eq-true_iff at e in
      ((λ z. false≢true (rw (eq-eqb o no_tag z) at all.0.0)), eqb-true (field ws x at_up) (field ws o at_up) all.1.0.0)

  -- by the whole test of its kind
  pub end_open : (c : ℕ) → kind_fits ws n o x c ≡ true → c % 16 ≡ 2 → (o ≡ no_tag → ⊥) × (field ws x at_up ≡ field ws o at_up)
  unfolding kind_fits
  end_open c e is_end =
      end_up c
      (last_test (leb 32 c) (eqb (c % 16) 2) (end_fits ws n o x c) (rw (ne_eqb (c % 16) 3 (λ f. omega arith), ne_eqb (c % 16) 1 (λ f. omega arith)) at e))

  -- the begins that are open behind any tag that fits
  open_kept : x < n → Open ws n o → kind_fits ws n o x (field ws x at_kind) ≡ true → Open ws n (open_after ws o x (field ws x at_kind))
  unfolding kind_fits open_after
  open_kept below around e =
      let c = field ws x at_kind in
      let kind = kind_fitting ws n o x c e in
      by_cases (ℕ_discrete (c % 16) 3) (λ text. rw (eq-eqb (c % 16) 3 text) around)
      (λ no_text. by_cases (ℕ_discrete (c % 16) 1)
      (λ one. rw (ne_eqb (c % 16) 3 no_text, eq-eqb (c % 16) 1 one)
      (begin below (begin_of c kind one) (rw (inner_up ws n o x c e (λ z. omega arith)) around)))
      (λ no_begin. rw (ne_eqb (c % 16) 3 no_text, ne_eqb (c % 16) 1 no_begin)
      (let up = end_open c e (omega (arith, kind)) in
      rw up.1 (⊎_elim (λ z. absurd (up.0 z)) (λ p. p.2) (open_cases around)))))

-- what a tag that passes says
module _ (ws : List ℕ) (t : by_height.Tables) (n u : ℕ) (v : code.State) (lv : kept.Levels) (fits : PassFits ws n u t) (stands : Standing ws n lv v) (below : v.tag.0 < n) where
  pub tag_reads : TagReads ws n v.tag.0 v.at.0 v.parent.0
  tag_reads = record { records = fits.records; below = below; there = stands.there; around = stands.around }

  module _ {b : Bool} (two : b ≡ fits_at ws n v.parent.0 v.tag.0 v.prior.0) (passes : not b ≡ false) where
    fits_here : kind_fits ws n v.parent.0 v.tag.0 (field ws v.tag.0 at_kind) ≡ true
    unfolding fits_at
    fits_here = let all = simp and-eq-true_iff at (sym two ∙ not-false _ passes) in all.1

    -- so its depth can be tested, and the state behind it made
    pub passed_fits : v.place < n →
        (TagReads ws n v.tag.0 v.at.0 v.parent.0 × (kind_fits ws n v.parent.0 v.tag.0 (field ws v.tag.0 at_kind) ≡ true))
        × ((field ws v.tag.0 at_kind < 32) × (v.place < 4000000000) × (v.marks < 4000000000))
    passed_fits more =
        ((tag_reads, fits_here), (fits_small _ _ _ _ _ fits_here, omega (arith, fits.records.few), omega (arith, fits.records.few, stands.marks_few)))

    -- and it stands as this one did
    pub standing_kept : (q : code.State) (lv' : kept.Levels) → Behind ws (get_or lv'.ends 1 0) v q → Standing ws n lv' q
    standing_kept q lv' b = record {
      there = b.there;
      waits = b.expect ∙ rw (b.prior, next_behind ws t n u v q lv lv' fits below);
      around = rw b.parent (open_kept ws n v.parent.0 v.tag.0 below stands.around fits_here);
      marks_few = marks_kept ws b stands.marks_few;
    }
