-- The records of new tags, written one after the other: each is right but for the mates of the begins that are still open.
-- These are the innermost open begin and those around it, along up. Assumes nothing.
use mathlib.Core.Path.{◌≡◌, refl, ap, sym, ◌∙◌}
use mathlib.Core.Bool.{false}
use mathlib.Core.List.{List}
use mathlib.Core.Logic.{◌⊎◌, inl, inr, ⊎_elim}
use Prim.Native.Nat.{ℕ, suc, ◌≤◌, ◌<◌}
use native.Mathlib.Nat.{add-zero}
use native.Mathlib.Omega.{arith}
use borrow.Author.Tests.{eqb-true, eqb-false, ltb-true, ltb-false}
use lib.Dec.{ltb, eqb}
use lib.ListN.{length}
use Rattle.store_types.specs.Limits.{no_tag}
use Rattle.lists.proofs.Tests.{by_test}
use Rattle.store_types.specs.Layout.{header_words, at_next, at_prior, at_mate, at_up, at_kind, at_depth, words_for, field, Records}
use Rattle.calls.specs.Kind.{Kind, begin, end, text, code, kind_word, kind_of, own_depth}
use Rattle.calls.specs.Store.{Fact, fact_in}
use Rattle.calls_laws.proofs.Nesting.{Ends, Step, begins, ends, stands}
use Rattle.load_record.specs.declared.Row as rows
use Rattle.load_record.specs.Record.{next_of, prior_of, tag_written, open_behind, Beside}
use Rattle.load_tags.specs.Tags.{Between}
use Rattle.load_record.proofs.OneTag.{beside_both, OneMore, inner_more, end_more, end_mates, end_opens, begin_opens, text_opens}

-- THE OPEN BEGINS: o, and those around it
pub data Open (fs : List Fact) : (o y : ℕ) → Type 0 where
  here : {o y : ℕ} → (o ≡ no_tag → ⊥) → y ≡ o → Open fs o y
  out : {o y : ℕ} → (o ≡ no_tag → ⊥) → Open fs (fact_in fs o).up y → Open fs o y

pub none_open : (fs : List Fact) (o y : ℕ) → o ≡ no_tag → Open fs o y → ⊥
none_open fs o y e (here tag s) = tag e
none_open fs o y e (out tag h) = tag e

further_out : (fs : List Fact) (o y : ℕ) → (y ≡ o → ⊥) → Open fs o y → Open fs (fact_in fs o).up y
further_out fs o y other (here tag s) = absurd (other s)
further_out fs o y other (out tag h) = h

-- the tags of a row below x are written, u is the innermost open begin
pub record Filled (w : rows.Row) (fs : List Fact) (ls : ℕ → ℕ) (before : List ℕ) (x : ℕ) (ws : List ℕ) (u : ℕ) : Type 0 where
  pub beside : Beside before ws w
  pub below : (y : ℕ) → Open fs u y → y < x
  pub places : (y : ℕ) → w.first ≤ y → y < x → Between ws y (next_of w y) (prior_of w y) (ls y) (fact_in fs y)
  pub mates : (y : ℕ) → w.first ≤ y → y < x → (field ws y at_mate ≡ (fact_in fs y).mate) ⊎ Open fs u y

-- below x + 1: x itself, or below x
up_to : {P : ℕ → Type 0} (w : rows.Row) (x : ℕ) → P x → ((y : ℕ) → w.first ≤ y → (y ≡ x → ⊥) → y < x → P y) → (y : ℕ) → w.first ≤ y → y < suc x → P y
up_to {P} w x own before y new l =
    by_test (eqb y x) (λ e. rw (eqb-true y x e) own) (λ e. let other = eqb-false y x e in before y new other (omega arith))

-- ONE TAG MORE, of kind number c, with label a, where d begins are open before it
module _ (w : rows.Row) (fs : List Fact) (ls : ℕ → ℕ) (before : List ℕ) (records : Records before w.end) (old : (y : ℕ) → y < w.first → (fact_in fs y).mate ≡ no_tag)
    (x : ℕ) (ws : List ℕ) (u : ℕ) (f : Filled w fs ls before x ws u) (past : w.first ≤ x) (own : x < w.end) (c a d : ℕ) (labelled : a ≡ ls x)
    (number : c ≡ code (fact_in fs x).kind) (unmarked : (fact_in fs x).marked ≡ false) (deep : own_depth (kind_of c) d ≡ (fact_in fs x).depth) where
  tag : x ≡ no_tag → ⊥
  tag e = omega (arith, records.few)

  is_word : c ≡ kind_word (fact_in fs x).kind (fact_in fs x).marked
  unfolding kind_word
  is_word = rw unmarked (number ∙ sym (add-zero (code (fact_in fs x).kind)))

  still_long : words_for header_words w.end ≤ length ws
  still_long = rw f.beside.size records.long

  -- all but mates
  places_more : (mate up begun : ℕ) (vs : List ℕ) → OneMore w x c a mate up (own_depth (kind_of c) d) begun ws vs → up ≡ (fact_in fs x).up → (y : ℕ) → w.first ≤ y → y < suc x →
      Between vs y (next_of w y) (prior_of w y) (ls y) (fact_in fs y)
  places_more mate up begun vs t is_up = up_to w x
      (record { label_word = t.here.label_word ∙ labelled; next_word = t.here.next_word; prior_word = t.here.prior_word; up_word = t.here.up_word ∙ is_up; kind_is = t.here.kind_is ∙ is_word; depth_is = t.here.depth_is ∙ deep })
      (λ y new other l.
      let p = f.places y new l in
      record {
        label_word = t.label_kept y other ∙ p.label_word;
        next_word = t.kept y at_next (omega arith) (omega arith) other (λ s i. omega arith) ∙ p.next_word;
        prior_word = t.kept y at_prior (omega arith) (omega arith) other (λ s i. omega arith) ∙ p.prior_word;
        up_word = t.kept y at_up (omega arith) (omega arith) other (λ s i. omega arith) ∙ p.up_word;
        kind_is = t.kept y at_kind (omega arith) (omega arith) other (λ s i. omega arith) ∙ p.kind_is;
        depth_is = t.kept y at_depth (omega arith) (omega arith) other (λ s i. omega arith) ∙ p.depth_is;
      })

  -- a begin or text, under u: the mates that were right are, and those that were open may be so still
  module _ (vs : List ℕ) (t : OneMore w x c a x u (own_depth (kind_of c) d) x ws vs) (is_up : u ≡ (fact_in fs x).up) where
    inner_mates : {m : ℕ} → ((y : ℕ) → Open fs u y → Open fs m y) → (y : ℕ) → w.first ≤ y → (y ≡ x → ⊥) → y < x →
        (field vs y at_mate ≡ (fact_in fs y).mate) ⊎ Open fs m y
    inner_mates still y new other l =
        ⊎_elim (λ e. inl (t.kept y at_mate (omega arith) (omega arith) other (λ s i. other s) ∙ e)) (λ o. inr (still y o)) (f.mates y new l)

    turned_begin : Filled w fs ls before (suc x) vs x
    turned_begin =
        record {
          beside = beside_both before ws vs w f.beside t.beside;
          below = λ y o. open_below y o;
          places = places_more x u x vs t is_up;
          mates = up_to w x (inr (here tag refl)) (inner_mates (λ y o. out tag (rw (← is_up) o)));
        }
      where
        open_below : (y : ℕ) → Open fs x y → y < suc x
        open_below y (here t s) = omega arith
        open_below y (out t h) = omega (arith, f.below y (rw is_up h))

    turned_text : x ≡ (fact_in fs x).mate → Filled w fs ls before (suc x) vs u
    turned_text is_mate =
        record {
          beside = beside_both before ws vs w f.beside t.beside;
          below = λ y o. omega (arith, f.below y o);
          places = places_more x u x vs t is_up;
          mates = up_to w x (inl (t.here.mate_word ∙ is_mate)) (inner_mates (λ y o. o));
        }

  -- an end of u, which is a begin of the row: the tags before the row have no mates here
  own_begin : (m : ℕ) → Ends fs u x m → w.first ≤ u
  own_begin m h = by_test (ltb u w.first) (λ e. absurd (tag (sym h.back ∙ old u (ltb-true u w.first e)))) (λ e. ltb-false u w.first e)

  -- whose mate is right now
  turned_end : (m : ℕ) (vs : List ℕ) → (u ≡ no_tag → ⊥) → OneMore w x c a u (field ws u at_up) (own_depth (kind_of c) d) u ws vs → field vs u at_mate ≡ x → Ends fs u x m →
      Filled w fs ls before (suc x) vs (fact_in fs u).up
  turned_end m vs shut t back h =
      let up_is : field ws u at_up ≡ (fact_in fs u).up = (f.places u (own_begin m h) (f.below u (here shut refl))).up_word in
      record {
        beside = beside_both before ws vs w f.beside t.beside;
        below = λ y o. omega (arith, f.below y (out shut o));
        places = places_more u (field ws u at_up) u vs t (up_is ∙ sym h.up);
        mates = up_to w x (inl (t.here.mate_word ∙ sym h.mate))
            (λ y new other l. by_test (eqb y u)
            (λ e. inl (rw (eqb-true y u e) (back ∙ sym h.back)))
            (λ e. let apart = eqb-false y u e in
            ⊎_elim (λ e. inl (t.kept y at_mate (omega arith) (omega arith) other (λ s i. apart s) ∙ e)) (λ o. inr (further_out fs u y apart o)) (f.mates y new l)));
      }

  -- BY THE STEP of the pass along the row
  numbered : (k : Kind) → (fact_in fs x).kind ≡ k → c ≡ code k
  numbered k e = number ∙ ap code e

  -- an end has a begin before it
  pub begun : (m : ℕ) → Step fs no_tag u x m → c ≡ 2 → u < w.end
  unfolding code
  begun m (begins h) e = absurd (omega (arith, numbered begin h.kind))
  begun m (ends shut h) e = omega (arith, f.below u (here shut refl))
  begun m (stands h) e = absurd (omega (arith, numbered text h.kind))

  pub turned : (m : ℕ) → Step fs no_tag u x m → Filled w fs ls before (suc x) (tag_written w x c a u d ws) m × (open_behind w x c a u ws ≡ m)
  unfolding code
  turned m (begins h) =
      let is_one : c ≡ 1 = numbered begin h.kind in
      rw h.next (
        turned_begin _ (inner_more ws w x c a u d past own still_long (λ e. omega arith)) (sym h.up),
        begin_opens w x c a u ws is_one,
      )
  turned m (ends shut h) =
      let is_two : c ≡ 2 = numbered end h.kind in
      let inside = f.below u (here shut refl) in
      let new = own_begin m h in
      let fits : u < w.end = omega arith in
      let apart : x ≡ u → ⊥ = λ e. omega arith in
      rw h.next (
        turned_end m _ shut (end_more ws w x c a u d past own still_long is_two new fits apart) (end_mates ws w x c a u d past own still_long is_two new fits apart) h,
        end_opens ws w x c a u d past own still_long is_two new fits apart ∙ (f.places u new inside).up_word,
      )
  turned m (stands h) =
      let is_three : c ≡ 3 = numbered text h.kind in
      rw h.next (
        turned_text _ (inner_more ws w x c a u d past own still_long (λ e. omega arith)) (sym h.up) (sym h.mate),
        text_opens w x c a u ws is_three,
      )
