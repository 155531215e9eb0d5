-- A whole row of new tags: from the first, one tag more, and all of them, of a book or put into one. Assumes nothing.
use mathlib.Core.Path.{◌≡◌, refl, ap, sym, ◌∙◌}
use mathlib.Core.Bool.{true, false}
use mathlib.Core.List.{List, [], ◌∷◌, ◌++◌, map}
use mathlib.Core.Logic.{⊎_elim}
use Prim.Native.Nat.{ℕ, zero, suc, ◌+◌, ◌-◌, ◌≤◌, ◌<◌}
use native.Mathlib.Nat.{zero-add, sub-zero, not-suc-le-zero, le_of_suc-le-suc}
use native.Mathlib.Numerals.{add-one}
use native.Mathlib.Omega.{arith}
use borrow.Author.Tests.{leb-true, eqb-true, eqb-false, lt-ltb, le-ltb, ltb-true, ltb-false}
use lib.Dec.{ltb, leb, eqb}
use lib.ListN.{length, get_or, replicate, length-append, length-map, length-replicate, get_or-replicate, get_or-append}
use lib.Seq.{get_or_at, get_or-append-add}
use Rattle.store_types.specs.Limits.{no_tag}
use Rattle.store_types.specs.Layout.{at_mate, field}
use Rattle.lists.proofs.Numbers.{length_numbers, getD_numbers}
use Rattle.lists.proofs.Tests.{by_test, and_left, and_right}
use Rattle.lists.specs.Lists.{numbers}
use Rattle.words.proofs.Fields.{header_fits, records_kept}
use Rattle.calls.specs.Kind.{Kind, begin, end, text, code, is_kind, kind_of, own_depth, depth_after}
use Rattle.calls.specs.Store.{Fact, no_fact, fact_in}
use Rattle.calls.specs.Nesting.{new_facts}
use Rattle.calls.specs.Load.{all_kinds}
use Rattle.calls_laws.proofs.Nesting.{Step, Pass, no_tag_fact}
use Rattle.calls_laws.proofs.NewFacts.{length_new_facts, pass_new}
use Rattle.calls_laws.proofs.Depths.{Depths, depths_new}
use Rattle.calls_laws.proofs.Reader.{get_d_map}
use Rattle.walk_model.proofs.Found.{code_back}
use Rattle.edit_model.specs.Insert.{new_record, with_records}
use Rattle.edit_model.proofs.RowRecords.{row_next, row_prior, records_put}
use Rattle.load_record.specs.declared.Row as rows
use Rattle.load_record.specs.Record.{next_of, prior_of, KindNumber, tag_written, open_behind, TagFits}
use Rattle.load_tags.specs.Tags.{whole_row, next_number, prior_number, facts_new, TagsFit, RowFits, Between, TagsWritten}
use Rattle.load_record.proofs.OneTag.{beside_none}
use Rattle.load_tags.proofs.Opens.{Opens, opens_start, end_opened, opens_next, opens_few}
use Rattle.load_tags.proofs.Filled.{Open, here, out, Filled, none_open, begun, turned}

-- THE FACTS OF NEW TAGS: their kinds, and no marks
record New (t : Fact) (k : Kind) : Type 0 where
  kind : t.kind ≡ k
  unmarked : t.marked ≡ false

new_unmarked : (u : ℕ) (os : List ℕ) (v x : ℕ) (ks : List Kind) (i : ℕ) → i < length ks → New (fact_in (new_facts u os v x ks) i) (get_or ks i text)
unfolding new_facts
new_unmarked u os v x [] i l = absurd (not-suc-le-zero l)
new_unmarked u os v x (begin ∷ ks) zero l = record { kind = refl; unmarked = refl }
new_unmarked u os v x (begin ∷ ks) (suc i) l = new_unmarked x (u ∷ os) _ (suc x) ks i (le_of_suc-le-suc l)
new_unmarked u os v x (end ∷ ks) zero l = record { kind = refl; unmarked = refl }
new_unmarked u os v x (end ∷ ks) (suc i) l = new_unmarked _ _ _ (suc x) ks i (le_of_suc-le-suc l)
new_unmarked u os v x (text ∷ ks) zero l = record { kind = refl; unmarked = refl }
new_unmarked u os v x (text ∷ ks) (suc i) l = new_unmarked u os _ (suc x) ks i (le_of_suc-le-suc l)

kind_at : (cs : List ℕ) (i : ℕ) → all_kinds cs ≡ true → i < length cs → is_kind (get_or cs i 0) ≡ true
unfolding all_kinds
kind_at [] i h l = absurd (not-suc-le-zero l)
kind_at (c ∷ cs) zero h l = and_left (is_kind c) (all_kinds cs) h
kind_at (c ∷ cs) (suc i) h l = kind_at cs i (and_right (is_kind c) (all_kinds cs) h) (le_of_suc-le-suc l)

kind_fits : (c : ℕ) → is_kind c ≡ true → KindNumber c
unfolding is_kind
kind_fits c h = record { low = leb-true 1 c (and_left (leb 1 c) (leb c 3) h); high = leb-true c 3 (and_right (leb 1 c) (leb c 3) h) }

code_is : (c : ℕ) → is_kind c ≡ true → code (kind_of c) ≡ c
code_is c h = let k = kind_fits c h in code_back c k.low k.high

pub count_row : (u v x : ℕ) (cs : List ℕ) → length (new_facts u [] v x (map kind_of cs)) ≡ length cs
count_row u v x cs = length_new_facts u [] v x (map kind_of cs) ∙ length-map cs kind_of

pub count_new : (cs : List ℕ) → length (facts_new cs) ≡ length cs
count_new cs = count_row no_tag 0 0 cs

-- THE FACTS of a row's tags in a begin or in none, where v begins are open, by number: of the tags before it they say nothing
abbrev pub row_new : rows.Row → (u v : ℕ) → (kinds : List ℕ) → List Fact
row_new w u v cs = new_facts u [] v w.first (map kind_of cs)

abbrev row_facts : rows.Row → (u v : ℕ) → (kinds : List ℕ) → List Fact
row_facts w u v cs = replicate w.first no_fact ++ row_new w u v cs

none_known : (n y : ℕ) (ts : List Fact) → y < n → fact_in (replicate n no_fact ++ ts) y ≡ no_fact
none_known n y ts l =
    get_or-append (replicate n no_fact) ts no_fact y (rw length-replicate l) ∙ get_or-replicate n y no_fact no_fact l

known_new : (n i : ℕ) (ts : List Fact) → fact_in (replicate n no_fact ++ ts) (n + i) ≡ fact_in ts i
known_new n i ts = rw (length-replicate n no_fact) at (get_or-append-add (replicate n no_fact) ts i no_fact)

-- so many are written, and what is left of the pass along the row begins at the innermost open begin, where d are open
pub record Filling (cs : List ℕ) (w : rows.Row) (u v : ℕ) (ls : ℕ → ℕ) (before : List ℕ) (x : ℕ) (ws : List ℕ) (o d : ℕ) : Type 0 where
  pub past : w.first ≤ x
  pub filled : Filled w (row_facts w u v cs) ls before x ws o
  pub rest : Pass (row_facts w u v cs) no_tag o (numbers x (w.end - x)) u
  pub depths : Depths (row_facts w u v cs) d (numbers x (w.end - x)) v
  pub opens : Opens cs w v x d

module _ (cs : List ℕ) (w : rows.Row) (u v : ℕ) (ls : ℕ → ℕ) (before : List ℕ) (h : RowFits before cs w u v) where
  abbrev fs : List Fact
  fs = row_facts w u v cs

  few_facts : length fs ≤ no_tag
  few_facts =
      omega (arith, length-append (replicate w.first no_fact) (row_new w u v cs), length-replicate w.first no_fact, count_row u v w.first cs, h.count, h.records.few)

  -- of u itself they say nothing
  outer : fact_in fs u ≡ no_fact
  outer =
      by_test (eqb u no_tag)
      (λ e. ap (λ (y : ℕ). fact_in fs y) (eqb-true u no_tag e) ∙ no_tag_fact fs few_facts)
      (λ e. none_known w.first u (row_new w u v cs) (h.up (eqb-false u no_tag e)))

  outer_open : (y : ℕ) → Open fs u y → (u < w.first) × (y ≡ u)
  outer_open y (here tag e) = (h.up tag, e)
  outer_open y (out tag o) = absurd (none_open fs _ y (ap (λ (t : Fact). t.up) outer) o)

  old_mates : (y : ℕ) → y < w.first → (fact_in fs y).mate ≡ no_tag
  old_mates y l = ap (λ (t : Fact). t.mate) (none_known w.first y (row_new w u v cs) l)

  pub row_starts : Filling cs w u v ls before w.first before u v
  row_starts =
      let free : (fact_in fs u).marked ≡ false = ap (λ (t : Fact). t.marked) outer in
      let many : w.end - w.first ≡ length (map kind_of cs) = omega (arith, h.count, length-map cs kind_of) in
      record {
        past = omega arith;
        filled = record {
          beside = beside_none before w;
          below = λ y o. omega (arith, outer_open y o);
          places = λ y new l. absurd (omega arith);
          mates = λ y new l. absurd (omega arith);
        };
        rest = rw many (pass_new fs few_facts u free 0 u [] v w.first (map kind_of cs) (replicate w.first no_fact) refl (length-replicate w.first no_fact) h.nesting refl);
        depths = rw many (depths_new fs few_facts v 0 u [] v w.first (map kind_of cs) (replicate w.first no_fact) refl (length-replicate w.first no_fact) h.nesting (omega arith));
        opens = opens_start cs w v h.nesting;
      }

  module _ (x : ℕ) (ws : List ℕ) (o d : ℕ) (f : Filling cs w u v ls before x ws o d) (own : x < w.end) (c : ℕ) (kind_is : c ≡ get_or cs (x - w.first) 0) where
    abbrev index : ℕ
    index = x - w.first

    inside : index < length cs
    inside = omega (arith, h.count, f.past)

    -- the tag's step in the pass, and its kind
    step : (m : ℕ) × Step fs no_tag o x m × Pass fs no_tag m (numbers (x + 1) (w.end - (x + 1))) u
    unfolding numbers
    step = let e : w.end - x ≡ suc (w.end - (x + 1)) = omega arith in rw (add-one x) (rw (e, add-one x) at f.rest)

    fact_is : New (fact_in fs x) (kind_of c)
    fact_is =
        let at : x ≡ w.first + index = omega (arith, f.past) in
        let new = new_unmarked u [] v w.first (map kind_of cs) index (rw (length-map cs kind_of) inside) in
        rw (at, known_new w.first index (row_new w u v cs), kind_is) (rw (get_d_map kind_of cs index 0 text inside) at new)

    -- its depth, and those after it
    deep : (own_depth (kind_of c) d ≡ (fact_in fs x).depth) × Depths fs (depth_after (kind_of c) d) (numbers (x + 1) (w.end - (x + 1))) v
    unfolding numbers
    deep =
        let e : w.end - x ≡ suc (w.end - (x + 1)) = omega arith in
        let both = rw (e, add-one x, fact_is.kind) at f.depths in
        (sym both.0, rw (add-one x) both.1)

    right : is_kind c ≡ true
    right = rw kind_is (kind_at cs index h.kinds inside)

    number : c ≡ code (fact_in fs x).kind
    number = rw fact_is.kind (sym (code_is c right))

    pub tag_fits : TagFits ws w x c o d
    tag_fits =
        record {
          records = records_kept h.records f.filled.beside.size;
          past = f.past;
          below = own;
          begun = begun w fs ls before h.records old_mates x ws o f.filled f.past own c (ls x) d refl number fact_is.unmarked deep.0 step.0 step.1;
          deep = opens_few h.deep f.opens;
          depth = record { number = kind_fits c right; some = end_opened cs w v x d f.past inside c kind_is f.opens };
        }

    pub row_turns : (a : ℕ) → a ≡ ls x → Filling cs w u v ls before (x + 1) (tag_written w x c a o d ws) (open_behind w x c a o ws) (depth_after (kind_of c) d)
    row_turns a labelled =
        let t = turned w fs ls before h.records old_mates x ws o f.filled f.past own c a d labelled number fact_is.unmarked deep.0 step.0 step.1 in
        rw t.1 (record {
          past = omega (arith, f.past);
          filled = rw add-one t.0;
          rest = step.2;
          depths = deep.1;
          opens = opens_next cs w v x d f.past inside c kind_is f.opens;
        })

  -- ALL OF THEM: no begin of the row is open
  module _ (x : ℕ) (ws : List ℕ) (o d : ℕ) (f : Filling cs w u v ls before x ws o d) (done : x ≡ w.end) where
    shut : o ≡ u
    unfolding numbers
    shut = let none : w.end - x ≡ 0 = omega arith in rw none at f.rest

    pub all_mates : (y : ℕ) → w.first ≤ y → y < w.end → field ws y at_mate ≡ (fact_in fs y).mate
    all_mates y new l =
        ⊎_elim (λ m. m) (λ out. absurd (omega (arith, outer_open y (rw shut at out)))) (f.filled.mates y new (omega arith))

    pub all_places : (y : ℕ) → w.first ≤ y → y < w.end → Between ws y (next_of w y) (prior_of w y) (ls y) (fact_in fs y)
    all_places y new l = f.filled.places y new (omega arith)

-- OF A BOOK
pub book_fits : {before cs : List ℕ} → TagsFit before cs → RowFits before cs (whole_row (length cs)) no_tag 0
book_fits {before} {cs} h =
    record { records = h.records; count = zero-add (length cs); kinds = h.kinds; nesting = h.nesting; up = λ other. absurd (other refl); deep = omega arith }

pub book_kind : (cs : List ℕ) (x : ℕ) → get_or cs x 0 ≡ get_or cs (x - 0) 0
book_kind cs x = rw sub-zero

-- and of a row
pub row_kind : (cs : List ℕ) (x i : ℕ) → get_or cs i 0 ≡ get_or cs (x + i - x) 0
row_kind cs x i = let same : x + i - x ≡ i = omega arith in rw same

pub book_ends : (cs ls before : List ℕ) → TagsFit before cs → (x : ℕ) (ws : List ℕ) (o d : ℕ) →
    Filling cs (whole_row (length cs)) no_tag 0 (λ i. get_or ls i 0) before x ws o d → x ≡ length cs → TagsWritten before ws cs ls
unfolding next_number prior_number
book_ends cs ls before h x ws o d f e =
    let w = whole_row (length cs) in
    let g = f.filled.beside in
    record {
      around = record { size = g.size; header = λ i l. g.front i (omega (arith, header_fits 0)); rest = g.rest };
      places = λ y l. all_places cs w no_tag 0 (λ i. get_or ls i 0) before (book_fits h) x ws o d f e y (omega arith) l;
      mates = λ y l. all_mates cs w no_tag 0 (λ i. get_or ls i 0) before (book_fits h) x ws o d f e y (omega arith) l;
    }

-- OF A ROW PUT INTO ONE, by the mirror (crate edit_model)
next_is : (w : rows.Row) (k i : ℕ) → w.first + k ≡ w.end → i < k → next_of w (w.first + i) ≡ row_next w.first k w.next.0 i
next_is w k i many l =
    by_test (ltb (w.first + i + 1) w.end)
    (λ e. let small : suc i < k = omega (arith, ltb-true (w.first + i + 1) w.end e) in
    let more : w.first + i + 1 ≡ w.first + suc i = omega arith in
    rw e (more ∙ sym (get_or-append (numbers w.first k) (w.next.0 ∷ []) no_tag (suc i) (rw length_numbers small) ∙ getD_numbers w.first k (suc i) no_tag small)))
    (λ e. let last : length (numbers w.first k) ≡ suc i = omega (arith, ltb-false (w.first + i + 1) w.end e, length_numbers w.first k) in
    rw e (sym (get_or_at (numbers w.first k) w.next.0 [] no_tag (suc i) last)))

prior_is : (w : rows.Row) (k i : ℕ) → i < k → prior_of w (w.first + i) ≡ row_prior w.first k w.prior.0 i
prior_is w k zero l = rw (le-ltb w.first (w.first + 0) (omega arith))
prior_is w k (suc i) l = rw (lt-ltb w.first (w.first + suc i) (omega arith)) (omega (arith, getD_numbers w.first k i no_tag (omega arith)))

pub row_ends : (cs before : List ℕ) (w : rows.Row) (u v : ℕ) → RowFits before cs w u v → (x : ℕ) (ws : List ℕ) (o d : ℕ) → Filling cs w u v (λ i. no_tag) before x ws o d → x ≡ w.end →
    ws ≡ with_records before w.first w.prior.0 w.next.0 (row_new w u v cs)
unfolding new_record
row_ends cs before w u v h x ws o d f e =
    let g = f.filled.beside in
    let k = length cs in
    let ts = row_new w u v cs in
    let many : length ts ≡ k = count_row u v w.first cs in
    let all : w.first + length ts ≡ w.end = rw many h.count in
    records_put before ws w.first w.prior.0 w.next.0 ts (rw all h.records.long) g.size g.front (rw all g.rest)
    (λ i l. let y : ℕ = w.first + i in
    let new : w.first ≤ y = omega arith in
    let below : y < w.end = omega arith in
    let p = all_places cs w u v (λ i. no_tag) before h x ws o d f e y new below in
    let m = all_mates cs w u v (λ i. no_tag) before h x ws o d f e y new below in
    let same = known_new w.first i ts in
    rw (p.label_word, p.next_word, p.prior_word, m, p.up_word, p.kind_is, p.depth_is, same, next_is w (length ts) i all l, prior_is w (length ts) i l))
