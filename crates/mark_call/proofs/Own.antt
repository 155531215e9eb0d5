-- The tags that mark goes along in the words of a sound store are the section's own. Assumes nothing.
use mathlib.Core.Path.{◌≡◌, ap, sym, ◌∙◌}
use mathlib.Core.List.{List, ◌++◌}
use Prim.Native.Nat.{ℕ, zero, suc, ◌+◌, ◌-◌, ◌≤◌, ◌<◌}
use native.Mathlib.Omega.{arith}
use borrow.Author.Tests.{eqb-true, eqb-false}
use lib.Dec.{eqb}
use lib.ListN.{length, get_or, take, drop}
use lib.Seq.{drop-cons, drop-append_seam, take-append_seam}
use Rattle.store_types.specs.Limits.{no_tag}
use Rattle.lists.proofs.Tests.{by_test}
use Rattle.tree.specs.Row.{place}
use Rattle.tree_laws.proofs.Rows.{member_getD, place_getD, getD_place, place_of_member}
use Rattle.calls.specs.Store.{Store, fact, count, row, place_of, next_in}
use Rattle.calls.specs.Words.{words_of}
use Rattle.calls_laws.proofs.Tests.{Sound}
use Rattle.calls_laws.proofs.Fields.{tag_says}
use Rattle.calls_laws.proofs.Sections.{distinct_row, row_below, in_row, mate_fits, Section}
use Rattle.mark_call.specs.Run.{section_tags, tags_of}
use Rattle.mark_call.proofs.Loop.{tags_last, tags_next}

module _ {st : Store} (h : Sound st) (rest : List ℕ) where
  -- from the i-th tag of the row to the tag m that stands behind it or is it, where there are steps enough
  along : (m k i : ℕ) → m < count st → i ≤ place_of st m → place_of st m < i + k →
      section_tags k (count st) (words_of st ++ rest) (get_or (row st) i no_tag) m ≡ take (suc (place_of st m) - i) (drop i (row st))
  unfolding next_in
  along m zero i l before enough = absurd (omega arith)
  along m (suc k) i l before enough =
      let p = place_of st m in
      let x = get_or (row st) i no_tag in
      let there = in_row h m l in
      let inside : i < length (row st) = omega (arith, place_of_member m (row st) there) in
      let tag : x < count st = row_below h x (member_getD (row st) i no_tag inside) in
      let here = place_getD (row st) i no_tag (distinct_row h) inside in
      by_test (eqb i p)
      (λ e. let last : i ≡ p = eqb-true i p e in
      let one : suc p - i ≡ 1 = omega arith in
      let same : x ≡ m = rw last (getD_place m (row st) no_tag there) in
      rw (tags_last k (count st) (words_of st ++ rest) x m tag same, one, drop-cons (row st) i no_tag inside))
      (λ e. let far = eqb-false i p e in
      let more : suc p - i ≡ suc (suc p - suc i) = omega arith in
      let other : x ≡ m → ⊥ = λ same. far (sym here ∙ ap (λ (d : ℕ). place d (row st)) same) in
      rw (
        tags_next k (count st) (words_of st ++ rest) x m tag other,
        (tag_says st rest x tag).next_word,
        here,
        along m k (suc i) l (omega arith) (omega arith),
        more,
        drop-cons (row st) i no_tag inside,
      ))

  pub own_tags : (x : ℕ) → x < count st → (c : Section st x) → tags_of (count st) (words_of st ++ rest) x ≡ c.own
  unfolding tags_of
  own_tags x l c =
      let m = (fact st x).mate in
      let b = length c.before in
      let fit = mate_fits h x l in
      let many : suc (place_of st m) - b ≡ length c.own = omega (arith, c.stops) in
      let here : get_or (row st) b no_tag ≡ x = ap (λ (i : ℕ). get_or (row st) i no_tag) (sym c.starts) ∙ getD_place x (row st) no_tag (in_row h x l) in
      let own_some : 1 ≤ length c.own = omega (arith, place_of_member x c.own c.has) in
      let found = along m (count st) b fit (omega (arith, c.stops)) (omega (arith, h.as_many, place_of_member m (row st) (in_row h m fit))) in
      let cut : take (length c.own) (drop b (row st)) ≡ c.own = rw (c.whole, drop-append_seam c.before (c.own ++ c.behind), take-append_seam c.own c.behind) in
      rw (tag_says st rest x l).mate_word (rw (here, many) at found) ∙ cut
