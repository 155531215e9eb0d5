-- An accepted load leaves a sound store, and so does every list of changes after it. Assumes nothing.
use mathlib.Core.Path.{◌≡◌, refl, ap, sym, ◌∙◌}
use mathlib.Core.Bool.{Bool, true, false, ◌&&◌, ◌||◌, not, cond}
use mathlib.Core.List.{List, [], ◌∷◌, map}
use Prim.Native.Nat.{ℕ, suc, ◌≤◌, ◌<◌}
use native.Mathlib.Omega.{arith}
use borrow.Author.Tests.{ltb-false, not-false, eqb-true}
use lib.Dec.{ltb, eqb}
use lib.ListN.{length, length-map}
use Rattle.lists.specs.Lists.{first}
use Rattle.store_types.specs.Limits.{no_tag, word_limit, most_tags}
use Rattle.lists.proofs.Tests.{by_test, and_left}
use Rattle.store_types.specs.Layout.{header_words, words_for}
use Rattle.tree.specs.Book.{loaded, load_under}
use Rattle.tree_laws.proofs.Rows.{all_below_numbers}
use Rattle.tree_laws.proofs.Load.{tags_loaded, size_loaded, sane_loaded}
use Rattle.calls.specs.Kind.{Kind, begin, end, text, kind_of}
use Rattle.calls.specs.Store.{Store, Fact, power_fits, fact_in}
use Rattle.calls.specs.Nesting.{nests, new_facts}
use Rattle.calls.specs.Sound.{degrees_fit, tree_sound, row_sound, sound}
use Rattle.calls.specs.Load.{all_kinds, kinds_tests, early_tests, load_refusal, load_store}
use Rattle.calls.specs.Insert.{insert_kinds, insert_store, insert_refusal, row_refusal, insert_sheet_refusal, insert_sheet_store}
use Rattle.calls.specs.Mark.{mark_store}
use Rattle.calls.specs.Changes.{Change, load, insert, sheet, mark, refusal, changed, accepts, after_one, after, Fits, AllFit}
use Rattle.calls.specs.Promise.{LoadSound, InsertSound, SheetSound, MarkSound, RowsEnd, StaysGood, StoresSound, NumbersFit}
use Rattle.calls_laws.proofs.Tests.{passes, Degrees, degrees_of, sound_of}
use Rattle.calls_laws.proofs.Nesting.{nested_of, no_tag_fact}
use Rattle.calls_laws.proofs.NewFacts.{length_new_facts, pass_new}
use Rattle.calls_laws.proofs.Depths.{depths_test, depths_new}
use Rattle.calls_laws.proofs.Marks.{mark_sound}
use Rattle.calls_laws.proofs.Inserts.{insert_sound, rows_end}

-- what an accepted load is asked of
pub record LoadAccepted (w s r : ℕ) (cs : List ℕ) : Type 0 where
  pub degrees : Degrees s r
  pub few : length cs ≤ most_tags
  pub room : words_for header_words (length cs) ≤ w
  pub kinds : all_kinds cs ≡ true
  pub nesting : nests 0 (map kind_of cs) ≡ true
  pub labels : power_fits s r (suc (load_under r (length cs))) ≡ true

pub accepted_load : (w s r : ℕ) (cs : List ℕ) → load_refusal w s r cs ≡ 0 → LoadAccepted w s r cs
unfolding load_refusal early_tests kinds_tests first
accepted_load w s r cs e =
    let n = length cs in
    let a = passes (not (degrees_fit s r)) 2 _ e in
    let b = passes (ltb most_tags n) 5 _ a.1 in
    let c = passes (ltb w (words_for header_words n)) 0 _ b.1 in
    let d = passes (not (all_kinds cs)) 3 _ c.1 in
    let f = passes (not (nests 0 (map kind_of cs))) 4 _ d.1 in
    let g = passes (not (power_fits s r (suc (load_under r n)))) 6 0 f.1 in
    record {
      degrees = degrees_of s r (not-false _ a.0);
      few = ltb-false _ _ b.0;
      room = ltb-false _ _ c.0;
      kinds = not-false _ d.0;
      nesting = not-false _ f.0;
      labels = not-false _ g.0;
    }

-- an accepted load leaves a sound store
pub load_sound : LoadSound
unfolding LoadSound load_store loaded
load_sound w s r b cs e =
    let a = accepted_load w s r cs e in
    let n = length cs in
    let ks = map kind_of cs in
    let fs = new_facts no_tag [] 0 0 ks in
    let as_kinds : length ks ≡ n = length-map cs kind_of in
    let counted : length fs ≡ n = length_new_facts no_tag [] 0 0 ks ∙ as_kinds in
    let few : length fs ≤ no_tag = omega (arith, a.few) in
    let tags_are = tags_loaded s r n a.degrees.r_least in
    let free : (fact_in fs no_tag).marked ≡ false = ap (λ (t : Fact). t.marked) (no_tag_fact fs few) in
    sound_of (load_store s r b cs) (record {
      degrees = a.degrees;
      labels_fit = a.labels;
      within = (sane_loaded s r n a.degrees.s_least a.degrees.r_least).within;
      few = rw counted a.few;
      as_many = size_loaded s r n a.degrees.r_least ∙ sym counted;
      each = rw (counted, tags_are) (all_below_numbers n);
      nesting = nested_of fs no_tag _ (rw tags_are (rw as_kinds at (pass_new fs few no_tag free 0 no_tag [] 0 0 ks [] refl refl a.nesting refl)));
      depths = depths_test fs 0 _ 0 (rw tags_are (rw as_kinds at (depths_new fs few 0 0 no_tag [] 0 0 ks [] refl refl a.nesting refl)));
      stamp_fits = omega arith;
    })

-- the call's two rows nest
pub kinds_nest : (c : ℕ) → (nests 0 (insert_kinds c) ≡ true) × (1 ≤ length (insert_kinds c)) × (length (insert_kinds c) ≤ 2)
unfolding nests insert_kinds
kinds_nest c = go (eqb c 1)
  where
    go : (t : Bool) → (nests 0 (cond t (begin ∷ end ∷ []) (text ∷ [])) ≡ true) × (1 ≤ length (cond t (begin ∷ end ∷ []) (text ∷ []))) × (length (cond t (begin ∷ end ∷ []) (text ∷ [])) ≤ 2)
    go true = (refl, omega arith, omega arith)
    go false = (refl, omega arith, omega arith)

-- and it inserts one of them
pub insert_passed : (w c y : ℕ) (st : Store) → sound st ≡ true → insert_refusal w c y st ≡ 0 → row_refusal w (insert_kinds c) y st ≡ 0
unfolding insert_refusal row_refusal first RowsEnd
insert_passed w c y st e z =
    let k = kinds_nest c in
    rw (rows_end st (length (insert_kinds c)) e k.1 k.2) (passes (not (eqb c 1 || eqb c 3)) 3 _ z).1

-- A SHEET: what an accepted one is asked of
pub record SheetAccepted (w : ℕ) (cs : List ℕ) (y : ℕ) (st : Store) : Type 0 where
  pub kinds : all_kinds cs ≡ true
  pub nesting : nests 0 (map kind_of cs) ≡ true
  pub row : row_refusal w (map kind_of cs) y st ≡ 0

pub accepted_sheet : (w : ℕ) (cs : List ℕ) (y : ℕ) (st : Store) → insert_sheet_refusal w cs y st ≡ 0 → SheetAccepted w cs y st
unfolding insert_sheet_refusal kinds_tests first
accepted_sheet w cs y st e =
    let a = passes (not (all_kinds cs)) 3 _ e in
    let b = passes (not (nests 0 (map kind_of cs))) 4 _ a.1 in
    record { kinds = not-false _ a.0; nesting = not-false _ b.0; row = b.1 }

-- it leaves a sound store, the empty one the same
pub sheet_sound : SheetSound
unfolding SheetSound InsertSound insert_sheet_store
sheet_sound w y cs st e r = let a = accepted_sheet w cs y st r in go (map kind_of cs) a.nesting a.row
  where
    go : (ks : List Kind) → nests 0 ks ≡ true → row_refusal w ks y st ≡ 0 → sound (insert_sheet_store ks y st) ≡ true
    go [] n passed = e
    go (k ∷ ks) n passed = insert_sound w y (k ∷ ks) st e n (omega arith) passed

-- one change: an accepted one leaves a sound store, a refused one the same
pub changed_sound : (w : ℕ) (c : Change) (st : Store) → sound st ≡ true → refusal w c st ≡ 0 → sound (changed c st) ≡ true
unfolding refusal changed LoadSound InsertSound SheetSound MarkSound
changed_sound w (load s r b cs) st e n = load_sound w s r b cs n
changed_sound w (insert c y) st e n =
    let k = kinds_nest c in
    insert_sound w y (insert_kinds c) st e k.0 k.1 (insert_passed w c y st e n)
changed_sound w (sheet cs y) st e n = sheet_sound w y cs st e n
changed_sound w (mark x) st e n = mark_sound x st e n

pub one_sound : (w : ℕ) (c : Change) (st : Store) → sound st ≡ true → sound (after_one w c st) ≡ true
unfolding after_one accepts
one_sound w c st e =
    by_test (eqb (refusal w c st) 0) (λ t. rw t (changed_sound w c st e (eqb-true _ _ t))) (λ t. rw t e)

-- a list of changes
pub after_sound : (w : ℕ) (cs : List Change) (st : Store) → sound st ≡ true → sound (after w cs st) ≡ true
unfolding after
after_sound w [] st e = e
after_sound w (c ∷ cs) st e = after_sound w cs (after_one w c st) (one_sound w c st e)

-- every list of changes after an accepted load leaves a sound store, so its tree keeps its limits
pub stores_sound : StoresSound
unfolding StoresSound LoadSound
stores_sound w s r b ks cs e = after_sound w cs (load_store s r b ks) (load_sound w s r b ks e)

pub stays_good : StaysGood
unfolding StaysGood StoresSound sound
stays_good w s r b ks cs e =
    let st = after w cs (load_store s r b ks) in
    and_left (tree_sound st) (row_sound st) (and_left (tree_sound st && row_sound st) _ (stores_sound w s r b ks cs e))

-- THE STORE'S NUMBER is that of a load, so a word where each of them is
sheet_number : (ks : List Kind) (y : ℕ) (st : Store) → (insert_sheet_store ks y st).number ≡ st.number
unfolding insert_sheet_store insert_store
sheet_number [] y st = refl
sheet_number (k ∷ ks) y st = refl

number_changed : (w : ℕ) (c : Change) (st : Store) → Fits c → st.number < word_limit → (changed c st).number < word_limit
unfolding changed Fits load_store insert_store mark_store
number_changed w (load s r b cs) st fits l = fits
number_changed w (insert c y) st fits l = l
number_changed w (sheet cs y) st fits l = rw (sheet_number (map kind_of cs) y st) l
number_changed w (mark x) st fits l = l

number_after : (w : ℕ) (cs : List Change) (st : Store) → AllFit cs → st.number < word_limit → (after w cs st).number < word_limit
unfolding after after_one AllFit
number_after w [] st fits l = l
number_after w (c ∷ cs) st fits l =
    number_after w cs (after_one w c st) fits.1
    (by_test (accepts w c st) (λ t. rw t (number_changed w c st fits.0 l)) (λ t. rw t l))

pub numbers_fit : NumbersFit
unfolding NumbersFit AllFit Fits load_store
numbers_fit w s r b ks cs fits = number_after w cs (load_store s r b ks) fits.1 fits.0
