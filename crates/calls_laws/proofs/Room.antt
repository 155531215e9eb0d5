-- Room: the words of the store after an accepted change fit the lent words. Assumes nothing.
use mathlib.Core.Path.{◌≡◌, ap, sym, ◌∙◌}
use mathlib.Core.Bool.{true}
use mathlib.Core.List.{List, [], ◌∷◌, map}
use Prim.Native.Nat.{ℕ, ◌+◌, ◌≤◌}
use native.Mathlib.Omega.{arith}
use lib.ListN.{length}
use Rattle.store_types.specs.Layout.{header_words, words_for}
use Rattle.tree.specs.Forest.{size}
use Rattle.tree_laws.proofs.Insertion.{size_inserted_row}
use Rattle.tree_laws.proofs.Load.{size_loaded}
use Rattle.words.proofs.Fields.{words_up}
use Rattle.calls.specs.Kind.{Kind, kind_of}
use Rattle.calls.specs.Store.{Store, count}
use Rattle.calls.specs.Sound.{sound}
use Rattle.calls.specs.Load.{load_refusal, load_store}
use Rattle.calls.specs.Insert.{insert_kinds, position, book_after, insert_store, row_refusal, insert_sheet_store}
use Rattle.calls.specs.Mark.{mark_store}
use Rattle.calls.specs.Words.{words_of}
use Rattle.calls.specs.Changes.{Change, load, insert, sheet, mark, refusal, changed}
use Rattle.calls_laws.proofs.Tests.{sane, facts_of}
use Rattle.calls_laws.proofs.Fields.{length_words}
use Rattle.calls_laws.proofs.Inserts.{accepted_row, position_fits}
use Rattle.calls_laws.proofs.Steps.{accepted_load, insert_passed, accepted_sheet}

-- a sound store has words for as many tags as its tree has leaves
length_sound : (st : Store) → sound st ≡ true → length (words_of st) ≡ words_for header_words (size st.book.root)
length_sound st e = length_words st ∙ ap (words_for header_words) (sym (facts_of st e).as_many)

pub load_fits : (w s r b : ℕ) (cs : List ℕ) → load_refusal w s r cs ≡ 0 → sound (load_store s r b cs) ≡ true → length (words_of (load_store s r b cs)) ≤ w
unfolding load_store
load_fits w s r b cs e good =
    let passed = accepted_load w s r cs e in
    rw (length_sound (load_store s r b cs) good, size_loaded s r (length cs) passed.degrees.r_least) passed.room

row_fits : (w : ℕ) (ks : List Kind) (y : ℕ) (st : Store) → sound st ≡ true → row_refusal w ks y st ≡ 0 → sound (insert_store ks y st) ≡ true →
    length (words_of (insert_store ks y st)) ≤ w
unfolding insert_store book_after
row_fits w ks y st h e good =
    let f = facts_of st h in
    let accepted = accepted_row w ks y st e in
    let grown = size_inserted_row (length ks) (position y st) (count st) st.book (sane f) (position_fits w ks y st f accepted) in
    omega (arith, length_sound (insert_store ks y st) good, words_up (size (book_after ks y st).root) (count st + length ks) (omega (arith, grown, f.as_many)), accepted.room)

pub changed_fits : (w : ℕ) (c : Change) (st : Store) → sound st ≡ true → words_for header_words (count st) ≤ w → refusal w c st ≡ 0 → sound (changed c st) ≡ true →
    length (words_of (changed c st)) ≤ w
unfolding refusal changed insert_sheet_store mark_store
changed_fits w (load s r b cs) st h room e good = load_fits w s r b cs e good
changed_fits w (insert c y) st h room e good = row_fits w (insert_kinds c) y st h (insert_passed w c y st h e) good
changed_fits w (sheet cs y) st h room e good = go (map kind_of cs) (accepted_sheet w cs y st e).row good
  where
    go : (ks : List Kind) → row_refusal w ks y st ≡ 0 → sound (insert_sheet_store ks y st) ≡ true → length (words_of (insert_sheet_store ks y st)) ≤ w
    go [] passed sound_after = omega (arith, length_words st, room)
    go (k ∷ ks) passed sound_after = row_fits w (k ∷ ks) y st h passed sound_after
changed_fits w (mark x) st h room e good =
    omega (arith, length_sound (mark_store x st) good, words_up (size st.book.root) (count st) (omega (arith, (facts_of st h).as_many)), room)
