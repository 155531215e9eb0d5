-- What each way through the tests of one tag says, from what the tests read. Assumes nothing.
use mathlib.Core.Path.{◌≡◌, refl, sym, ◌∙◌}
use mathlib.Core.Bool.{Bool, true, false, ◌&&◌, not, cond}
use mathlib.Core.Logic.{by_cases}
use mathlib.Core.List.{List}
use Prim.Native.Nat.{ℕ, ◌+◌, ◌/◌, ◌%◌, ◌≤◌, ◌<◌}
use native.Mathlib.Decide.{ℕ_discrete, dec_le}
use native.Mathlib.Omega.{arith}
use borrow.Author.Tests.{eq-eqb, ne_eqb, le-leb, lt-leb, eqb-true, not-true, not-false}
use mathlib.Core.Bool.{and-eq-true_iff}
use lib.Dec.{ltb, eqb}
use lib.ListN.{get_or}
use Rattle.store_types.specs.Layout.{at_prior, at_mate, at_up, at_kind, at_depth, tag_words, field, Room}
use Rattle.words.specs.Offsets.{offset_of, RecordAt}
use Rattle.words.proofs.Fields.{room}
use Rattle.walk_model.specs.Walk.{kind_fits, inner_fits, open_after, depth_fits, depth_after}
use Rattle.kind_pick.specs.Needs.{KindWord}
use Rattle.walk_tags.specs.Needs.{TagReads, Beside, DepthReads, pair_table, pair_fits, bit_of, links_fit, fits_at, marks_at}
use Rattle.walk_tags.proofs.PairLaws.{pair_right}
use Rattle.walk_tags.proofs.TagLaws.{kind_given, kind_fitting, kind_large, kind_beside, q_below, tag_right}

-- THE RECORD of a tag stands where the walk says
pub stands_there : {ws : List ℕ} {n x at o : ℕ} → TagReads ws n x at o → RecordAt ws at
stands_there {x = x} h = record { tag = x; there = h.there; room = room h.records h.below }

pub own_there : {ws : List ℕ} {x at q : ℕ} → Beside ws x at q → RecordAt ws at
own_there {x = x} h = record { tag = x; there = h.there; room = h.room }

-- A FIELD, and a record, that the kind picks: both are there
module _ (c : ℕ) where
  pub open_place_fits : {r : ℕ} → r ≡ cond (eqb (c % 16) 2) at_mate at_up → r < tag_words
  open_place_fits e =
      by_cases (ℕ_discrete (c % 16) 2) (λ f. omega (arith, rw (eq-eqb (c % 16) 2 f) at e)) (λ f. omega (arith, rw (ne_eqb (c % 16) 2 f) at e))

  -- the prior of a begin and the mate of any other tag, by the second bit of its kind
  pub back_place : KindWord c → at_prior + c / 2 % 2 ≡ cond (eqb (c % 16) 1) at_prior at_mate
  back_place k =
      by_cases (ℕ_discrete (c % 16) 1) (λ f. rw (eq-eqb (c % 16) 1 f) (omega (arith, k))) (λ f. rw (ne_eqb (c % 16) 1 f) (omega (arith, k.small, k.low, k.high)))

  pub back_place_fits : {r : ℕ} → r ≡ cond (eqb (c % 16) 1) at_prior at_mate → r < tag_words
  back_place_fits e =
      by_cases (ℕ_discrete (c % 16) 1) (λ f. omega (arith, rw (eq-eqb (c % 16) 1 f) at e)) (λ f. omega (arith, rw (ne_eqb (c % 16) 1 f) at e))

  pub partner_fits : {ws : List ℕ} {q at : ℕ} (p : ℕ) → p ≡ cond (eqb (c % 16) 2) q at → RecordAt ws q → RecordAt ws at → RecordAt ws p
  partner_fits p e l m =
      by_cases (ℕ_discrete (c % 16) 2) (λ f. rw (rw (eq-eqb (c % 16) 2 f) at e) l) (λ f. rw (rw (ne_eqb (c % 16) 2 f) at e) m)

-- where one of two records stands, by a test: that of the tag that the test picks
pub picked_there : (t : Bool) (d x : ℕ) {p q at : ℕ} → p ≡ cond t q at → q ≡ offset_of d → at ≡ offset_of x → p ≡ offset_of (cond t d x)
picked_there true d x e there own = e ∙ there
picked_there false d x e there own = e ∙ own

-- where the record beside a tag stands, and that it is there
module _ {ws : List ℕ} {n x at o q : ℕ} (reads : TagReads ws n x at o) (of_q : q ≡ cond (ltb o n) (offset_of o) at) where
  pub beside_at : q ≡ offset_of (cond (ltb o n) o x)
  beside_at = picked_there (ltb o n) o x of_q refl reads.there

  pub beside_there : cond (ltb o n) o x < n → RecordAt ws q
  beside_there below = record { tag = cond (ltb o n) o x; there = beside_at; room = room reads.records below }

-- THE LINKS: r is the place of the word v that names the open begin, u the up of x, w that of p, and y at place s of p's record
module _ (ws : List ℕ) (b o x q c : ℕ) {r v : ℕ} (open_place : r ≡ cond (eqb (c % 16) 2) at_mate at_up) (open_word : v ≡ field ws x r) where
  pub links_open_not : (v ≡ o → ⊥) → false ≡ links_fit ws b o x q c
  unfolding links_fit
  links_open_not ne = rw (← open_place, ← open_word, ne_eqb v o ne)

  module _ {u p w : ℕ} (opens : v ≡ o) (own : u ≡ field ws x at_up) (of_p : p ≡ cond (eqb (c % 16) 2) q x) (outer : w ≡ field ws p at_up) where
    pub links_up_not : (u ≡ w → ⊥) → false ≡ links_fit ws b o x q c
    unfolding links_fit
    links_up_not ne = rw (← open_place, ← open_word, eq-eqb v o opens, ← of_p, ← own, ← outer, ne_eqb u w ne)

    pub links_back : {s y z : ℕ} → u ≡ w → s ≡ cond (eqb (c % 16) 1) at_prior at_mate → y ≡ field ws p s → z ≡ cond (eqb (c % 16) 1) b x → eqb y z ≡ links_fit ws b o x q c
    unfolding links_fit
    links_back e f g h = rw (← open_place, ← open_word, eq-eqb v o opens, ← of_p, ← own, ← outer, eq-eqb u w e, ← f, ← g, ← h)

-- ONE TAG: p is its prior, m says whether its kind word c may stand beside that of q
module _ (ws : List ℕ) (n o x at b : ℕ) (reads : TagReads ws n x at o) {p : ℕ} (prior : p ≡ field ws x at_prior) where
  pub tag_not : (p ≡ b → ⊥) → false ≡ fits_at ws n o x b
  unfolding fits_at
  tag_not ne = rw (← prior, ne_eqb p b ne)

  module _ {c : ℕ} (same : p ≡ b) (word : c ≡ field ws x at_kind) where
    fits_kind : {t : Bool} → t ≡ kind_fits ws n o x c → t ≡ fits_at ws n o x b
    unfolding fits_at
    fits_kind e = rw (← prior, eq-eqb p b same, ← word) e

    pub tag_large : 32 ≤ c → false ≡ fits_at ws n o x b
    tag_large l = fits_kind (kind_large ws n o x c l)

    module _ {q k : ℕ} {pairs : List ℕ} {m : Bool} (small : c < 32) (of_q : q ≡ cond (ltb o n) o x) (around : k ≡ field ws q at_kind) (table : pairs ≡ pair_table) (bit : m ≡ bit_of (get_or pairs c 0) k) where
      pair_is : m ≡ pair_fits c (field ws q at_kind)
      pair_is = bit ∙ rw (table, around) (pair_right c (field ws q at_kind) small (kind_beside ws n o x q c (omega (arith, reads.records.few)) reads.around word of_q))

      all_is : (pair_fits c (field ws q at_kind) && links_fit ws b o x q c) ≡ kind_fits ws n o x c
      all_is = tag_right ws n o x q c (omega (arith, reads.records.few)) reads.around word of_q b (sym prior ∙ same)

      pub tag_unfit : not m ≡ true → false ≡ fits_at ws n o x b
      tag_unfit r = fits_kind (rw (sym pair_is ∙ not-true m r) at all_is)

      pub tag_links : {t : Bool} → not m ≡ false → t ≡ links_fit ws b o x q c → t ≡ fits_at ws n o x b
      tag_links r e = fits_kind (e ∙ (rw (sym pair_is ∙ not-false m r) at all_is))

      pub tag_kind : not m ≡ false → KindWord c
      unfolding pair_fits
      tag_kind r = let all = simp and-eq-true_iff at (sym pair_is ∙ not-false m r) in kind_given c all.0

    pub beside_below : {q : ℕ} → q ≡ cond (ltb o n) o x → q < n
    beside_below {q} of_q = q_below ws n o x q c (omega (arith, reads.records.few)) reads.around word of_q reads.below

-- BEHIND A TAG THAT FITS
pub mark_counted : (ws : List ℕ) (x m : ℕ) {k : ℕ} → k ≡ field ws x at_kind → field ws x at_kind < 32 → m + k / 16 ≡ marks_at ws x m
unfolding marks_at
mark_counted ws x m e p =
    rw e
    (by_cases (dec_le 16 (field ws x at_kind)) (λ l. rw (le-leb 16 (field ws x at_kind) l) (omega arith))
    (λ l. rw (lt-leb 16 (field ws x at_kind) (omega arith)) (omega arith)))

module _ (ws : List ℕ) (n o x c : ℕ) (fits : kind_fits ws n o x c ≡ true) where
  pub fits_small : c < 32
  fits_small = (kind_fitting ws n o x c fits).small

  -- the up of a begin or text
  pub inner_up : (c % 16 ≡ 2 → ⊥) → field ws x at_up ≡ o
  unfolding kind_fits inner_fits
  inner_up ne =
      by_cases (ℕ_discrete (c % 16) 3)
      (λ text. let all = simp and-eq-true_iff at (rw (lt-leb 32 c fits_small, eq-eqb (c % 16) 3 text) at fits) in eqb-true (field ws x at_up) o all.1.0)
      (λ no_text. let k = kind_fitting ws n o x c fits in
      let all = simp and-eq-true_iff at (rw (lt-leb 32 c fits_small, ne_eqb (c % 16) 3 no_text, eq-eqb (c % 16) 1 (omega (arith, k))) at fits) in
      eqb-true (field ws x at_up) o all.0)

  pub open_right : {u v : ℕ} → u ≡ field ws x at_up → v ≡ cond (eqb (c % 16) 1) x u → v ≡ open_after ws o x c
  unfolding open_after
  open_right up e =
      by_cases (ℕ_discrete (c % 16) 3)
      (λ text. rw (eq-eqb (c % 16) 3 text) (rw (ne_eqb (c % 16) 1 (λ f. omega arith), up, inner_up (λ f. omega arith)) at e))
      (λ no_text. rw (ne_eqb (c % 16) 3 no_text, ← up) e)

-- ITS DEPTH can be read
pub depth_there : {ws : List ℕ} {n x at o : ℕ} → TagReads ws n x at o → kind_fits ws n o x (field ws x at_kind) ≡ true → DepthReads ws x at
depth_there h fits = record { room = room h.records h.below; there = h.there; kind = kind_fitting _ _ _ _ _ fits }

-- c is its kind word, d its depth word; m begins are open before it
module _ (ws : List ℕ) (x m : ℕ) {c d : ℕ} (word : c ≡ field ws x at_kind) (own : d ≡ field ws x at_depth) where
  pub depth_tested : {a : ℕ} → a ≡ cond (eqb (c % 16) 2) 1 0 → eqb (d + a) m ≡ depth_fits ws x (field ws x at_kind) m
  unfolding depth_fits
  depth_tested e = rw (e, word, own)

  -- where it fits, m is its word, or one more; after a begin one more than m are open, after any other tag its word
  module _ (fits : depth_fits ws x (field ws x at_kind) m ≡ true) where
    sum : d + cond (eqb (c % 16) 2) 1 0 ≡ m
    unfolding depth_fits
    sum = eqb-true _ m (rw (← word, ← own) at fits)

    pub depth_most : m ≤ d + 1
    depth_most =
        by_cases (ℕ_discrete (c % 16) 2) (λ f. omega (arith, rw (eq-eqb (c % 16) 2 f) at sum)) (λ f. omega (arith, rw (ne_eqb (c % 16) 2 f) at sum))

    pub depth_counted : cond (eqb (c % 16) 1) (m + 1) d ≡ depth_after ws x (field ws x at_kind)
    unfolding depth_after
    depth_counted =
        rw (← word, ← own) (by_cases (ℕ_discrete (c % 16) 1)
        (λ f. rw (eq-eqb (c % 16) 1 f) (omega (arith, rw (ne_eqb (c % 16) 2 (λ g. omega arith)) at sum)))
        (λ f. rw (ne_eqb (c % 16) 1 f) (omega arith)))
