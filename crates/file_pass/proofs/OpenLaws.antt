-- The begins that are open while a file is judged: what a tag that fits leaves open, and that more open begins than tags are left
-- can not all be closed. Assumes nothing.
use mathlib.Core.Path.{◌≡◌, refl, sym, ◌∙◌}
use mathlib.Core.Bool.{true, false, and-false, and-eq-true_iff}
use mathlib.Core.List.{List}
use mathlib.Core.Logic.{by_cases}
use Prim.Native.Nat.{ℕ, zero, suc, ◌+◌, ◌-◌, ◌%◌, ◌≤◌, ◌<◌}
use native.Mathlib.Decide.{ℕ_discrete}
use native.Mathlib.Omega.{arith}
use borrow.Author.Tests.{eq-eqb, ne_eqb, ltb-true}
use lib.ListN.{length, get_or, set}
use lib.Seq.{get_or-set_same, get_or-set_other}
use Rattle.lists.proofs.Tests.{by_test}
use Rattle.store_types.specs.Limits.{no_tag, most_tags}
use Rattle.store_types.specs.Layout.{at_up, at_kind, at_depth, field}
use Rattle.calls.specs.File.{count_in, rows_in, file_words}
use Rattle.walk_model.specs.Walk.{Shape, State, kind_fits, open_after, depth_fits, depth_after, tag_passes, passed, ends_well, walk}
use Rattle.walk_tags.proofs.TagLaws.{kind_fitting}
use Rattle.walk_tags.proofs.TestLaws.{inner_up}
use Rattle.walk.proofs.PassLaws.{end_open}
use Rattle.file_model.specs.Judge.{row_word}
use Rattle.file_tags.specs.Needs.{number_at, RowRead}
use Rattle.file_tags.proofs.TagRows.{depth_sum}
use Rattle.file_pass.specs.Needs.{Opened}

-- places below the one that is written stay, and rows before i are before the next
opened_later : (bs : List ℕ) (i : ℕ) (opens : List ℕ) (depth a d o : ℕ) → d ≤ depth → Opened bs i opens d o → Opened bs (suc i) (set opens depth a) d o
unfolding Opened
opened_later bs i opens depth a zero o l h = h
opened_later bs i opens depth a (suc d) o l (before, own, rest) =
    rw (get_or-set_other opens depth d a 0 (λ e. omega arith))
    (omega arith, own, opened_later bs i opens depth a d _ (omega arith) rest)

-- ONE TAG MORE, at place i, which fits
module _ (bs : List ℕ) (i : ℕ) (opens : List ℕ) (depth o : ℕ) (room : depth < length opens) (reads : (j : ℕ) → j < i → RowRead bs j) (read : RowRead bs i) (opened : Opened bs i opens depth o) where
  abbrev x : ℕ
  x = number_at bs i

  abbrev c : ℕ
  c = field (file_words bs) x at_kind

  module _ (fits : kind_fits (file_words bs) (count_in bs) o x c ≡ true) where
    -- an end closes a begin
    pub end_deep : c % 16 ≡ 2 → 1 ≤ depth
    unfolding Opened
    end_deep is_end = go depth opened
      where
        go : (d : ℕ) → Opened bs i opens d o → 1 ≤ d
        go zero none = absurd ((end_open (file_words bs) (count_in bs) o x c fits is_end).0 none)
        go (suc d) h = omega arith

    at_begin : c % 16 ≡ 1 → Opened bs (suc i) (set opens depth i) (suc depth) x
    unfolding Opened
    at_begin is_begin =
        let up : row_word (rows_in bs) i (suc at_up) ≡ o = sym (read.fields at_up (omega arith)) ∙ inner_up (file_words bs) (count_in bs) o x c fits (λ e. omega arith) in
        rw (get_or-set_same opens depth i 0 room) (omega arith, refl, rw up (opened_later bs i opens depth i depth o (omega arith) opened))

    at_end : c % 16 ≡ 2 → Opened bs (suc i) (set opens depth i) (depth - 1) (field (file_words bs) x at_up)
    unfolding Opened
    at_end is_end = go depth (omega arith) opened
      where
        go : (d : ℕ) → d ≤ depth → Opened bs i opens d o → Opened bs (suc i) (set opens depth i) (d - 1) (field (file_words bs) x at_up)
        go zero l none = absurd ((end_open (file_words bs) (count_in bs) o x c fits is_end).0 none)
        go (suc d) l (before, own, rest) =
            let p = get_or opens d 0 in
            let up : field (file_words bs) x at_up ≡ row_word (rows_in bs) p (suc at_up) =
            (end_open (file_words bs) (count_in bs) o x c fits is_end).1 ∙ (rw own ((reads p before).fields at_up (omega arith))) in
            let one : suc d - 1 ≡ d = omega arith in
            rw (one, up) (opened_later bs i opens depth i d _ (omega arith) rest)

    pub opened_more : depth_fits (file_words bs) x c depth ≡ true → Opened bs (suc i) (set opens depth i) (depth_after (file_words bs) x c) (open_after (file_words bs) o x c)
    unfolding open_after depth_after
    opened_more deep =
        let w = field (file_words bs) x at_depth in
        let sum = depth_sum (file_words bs) x depth deep in
        by_cases (ℕ_discrete (c % 16) 1)
        (λ one. let more : w + 1 ≡ suc depth = omega (arith, rw (ne_eqb (c % 16) 2 (λ e. omega arith)) at sum) in
        rw (ne_eqb (c % 16) 3 (λ e. omega arith), eq-eqb (c % 16) 1 one, more) (at_begin one))
        (λ no_begin. by_cases (ℕ_discrete (c % 16) 2)
        (λ two. let less : w + 0 ≡ depth - 1 = omega (arith, rw (eq-eqb (c % 16) 2 two) at sum) in
        rw (ne_eqb (c % 16) 3 (λ e. omega arith), ne_eqb (c % 16) 1 no_begin, less) (at_end two))
        (λ no_end. let kind = kind_fitting (file_words bs) (count_in bs) o x c fits in
        let same : w + 0 ≡ depth = omega (arith, rw (ne_eqb (c % 16) 2 no_end) at sum) in
        rw (eq-eqb (c % 16) 3 (omega (arith, kind)), ne_eqb (c % 16) 1 no_begin, same) (opened_later bs i opens depth i depth o (omega arith) opened)))

-- MORE OPEN THAN LEFT: so many begins are open at least, in the words that the file says
unfoldable Chained : (ws : List ℕ) → (depth o : ℕ) → Type 0
Chained ws zero o = Unit {0}
Chained ws (suc d) o = (o ≡ no_tag → ⊥) × Chained ws d (field ws o at_up)

chained_less : (ws : List ℕ) (d o : ℕ) → Chained ws (suc d) o → Chained ws d o
unfolding Chained
chained_less ws zero o h = tt
chained_less ws (suc d) o (some, rest) = (some, chained_less ws d (field ws o at_up) rest)

-- a tag that passes closes one at most
module _ (ws : List ℕ) (shape : Shape) (i : ℕ) (v : State) (small : shape.n ≤ most_tags) (e : tag_passes ws shape i v ≡ true) where
  below : v.tag < shape.n
  unfolding tag_passes
  below = let all = simp and-eq-true_iff at e in ltb-true v.tag shape.n all.0.0.0

  fits_here : kind_fits ws shape.n v.open_begin v.tag (field ws v.tag at_kind) ≡ true
  unfolding tag_passes
  fits_here = let all = simp and-eq-true_iff at e in all.0.1.1

  chained_behind : (d : ℕ) → Chained ws (suc d) v.open_begin → Chained ws d (passed ws shape i v).open_begin
  unfolding Chained passed open_after
  chained_behind d h =
      let o = v.open_begin in
      let c = field ws v.tag at_kind in
      let kind = kind_fitting ws shape.n o v.tag c fits_here in
      by_cases (ℕ_discrete (c % 16) 3) (λ text. rw (eq-eqb (c % 16) 3 text) (chained_less ws d o h))
      (λ no_text. by_cases (ℕ_discrete (c % 16) 1)
      (λ one. let up = inner_up ws shape.n o v.tag c fits_here (λ f. omega arith) in
      rw (ne_eqb (c % 16) 3 no_text, eq-eqb (c % 16) 1 one)
      (chained_less ws d v.tag ((λ z. omega (arith, below)), rw up (chained_less ws d o h))))
      (λ no_begin. rw (ne_eqb (c % 16) 3 no_text, ne_eqb (c % 16) 1 no_begin, (end_open ws shape.n o v.tag c fits_here (omega (arith, kind))).1) h.1))

walk_deep : (ws : List ℕ) (shape : Shape) (m i : ℕ) (v : State) → shape.n ≤ most_tags → Chained ws (suc m) v.open_begin → walk ws shape m i v ≡ false
unfolding walk ends_well Chained
walk_deep ws shape zero i v small (some, rest) = simp (ne_eqb v.open_begin no_tag some, and-false)
walk_deep ws shape (suc m) i v small h =
    by_test (tag_passes ws shape i v)
    (λ e. rw e (walk_deep ws shape m (suc i) (passed ws shape i v) small (chained_behind ws shape i v small e (suc m) h)))
    (λ e. rw e)

-- so where the begins that are open at a place are more than the tags from there on, the words do not pass
chained : (bs : List ℕ) (i : ℕ) (opens : List ℕ) (d o : ℕ) → count_in bs ≤ most_tags → ((j : ℕ) → j < i → RowRead bs j) → Opened bs i opens d o → Chained (file_words bs) d o
unfolding Opened Chained
chained bs i opens zero o small reads h = tt
chained bs i opens (suc d) o small reads (before, own, rest) =
    let read = reads (get_or opens d 0) before in
    ((λ z. omega (arith, read.below)), rw (own, read.fields at_up (omega arith)) (chained bs i opens d _ small reads rest))

pub too_many_open : (bs : List ℕ) (i : ℕ) (opens : List ℕ) (depth : ℕ) (shape : Shape) (m : ℕ) (v : State) → shape.n ≡ count_in bs → count_in bs ≤ most_tags →
    ((j : ℕ) → j < i → RowRead bs j) → Opened bs i opens depth v.open_begin → m < depth → walk (file_words bs) shape m i v ≡ false
too_many_open bs i opens depth shape m v n small reads opened deep =
    walk_deep (file_words bs) shape m i v (rw n small) (fewer depth (omega arith) (chained bs i opens depth v.open_begin small reads opened))
  where
    fewer : (d : ℕ) → suc m ≤ d → Chained (file_words bs) d v.open_begin → Chained (file_words bs) (suc m) v.open_begin
    fewer zero l h = absurd (omega arith)
    fewer (suc d) l h = by_cases (ℕ_discrete d m) (λ e. rw e at h) (λ ne. fewer d (omega arith) (chained_less (file_words bs) d v.open_begin h))
