-- Every list of changes after an accepted load keeps the store beside the reference list, with its labels rising and few of
-- them moved. Assumes nothing.
use mathlib.Core.Path.{sym, ◌≡◌, refl, ◌∙◌}
use mathlib.Core.Bool.{true, cond}
use mathlib.Core.List.{List, [], ◌∷◌, map}
use Prim.Native.Nat.{ℕ, zero, suc, ◌+◌, ◌-◌, ◌≤◌}
use native.Mathlib.Omega.{arith}
use borrow.Author.Tests.{eqb-true}
use lib.Dec.{eqb}
use lib.ListN.{length, length-map, take-append-drop}
use Rattle.lists.specs.Lists.{numbers}
use Rattle.lists.proofs.Tests.{by_test}
use Rattle.tree.specs.Row.{insert_at}
use Rattle.tree.specs.Forest.{size}
use Rattle.tree.specs.Book.{Book, height, base, loaded, inserted, inserted_row}
use Rattle.tree.specs.Promise.{Sane, LabelsRise}
use Rattle.tree_laws.proofs.Insertion.{size_inserted, sane_inserted, inserted_s, inserted_r, tags_inserted_row}
use Rattle.tree_laws.proofs.Load.{tags_loaded}
use Rattle.tree_laws.proofs.Labels.{labels_rise}
use Rattle.tree_laws.proofs.Account.{Account, account_fewer, account_loaded, account_row, account_few, account_low}
use Rattle.calls.specs.Kind.{Kind, kind_of}
use Rattle.calls.specs.Store.{Store, count, row, width}
use Rattle.calls.specs.Sound.{sound}
use Rattle.calls.specs.Load.{load_refusal, load_store}
use Rattle.calls.specs.Insert.{insert_kinds, position, book_after, insert_store, insert_moved, row_refusal, insert_sheet_store}
use Rattle.calls.specs.Mark.{mark_store}
use Rattle.calls.specs.Changes.{Change, load, insert, sheet, mark, refusal, changed, accepts, after_one, after, moved_by, moved_after, judged}
use Rattle.calls.specs.Reference.{Reference, reference_load, reference_position, raised_by, reference_insert, reference_change, reference_told, reference_after}
use Rattle.calls.specs.Promise.{LoadSound, EmptyReference, Kept, ListsKeep}
use Rattle.calls_laws.proofs.Widths.{store_widths, store_powers}
use Rattle.calls_laws.proofs.Tests.{facts_of}
use Rattle.calls_laws.proofs.Inserts.{row_degrees, height_raised, accepted_row, position_fits}
use Rattle.calls_laws.proofs.Moved.{moved_fewer, moved_nothing}
use Rattle.calls_laws.proofs.Steps.{accepted_load, insert_passed, accepted_sheet, load_sound, changed_sound}

-- THE HEADER after a row of insertions: H rises as the reference list says
height_row : (n p x : ℕ) (k : Book) → Sane k → p ≤ size k.root →
    height (inserted_row n p x k) ≡ raised_by k.s k.r n (size k.root) (height k)
unfolding inserted_row raised_by
height_row zero p x k h l = refl
height_row (suc n) p x k h l =
    let grown = size_inserted p x k h l in
    height_row n (suc p) (suc x) (inserted p x k) (sane_inserted p x k h l) (omega arith)
    ∙ rw (inserted_s p x k, inserted_r p x k, grown, height_raised p x k)

-- A STORE BESIDE THE REFERENCE LIST, where t tags were moved together
pub record Follows (st : Store) (a : Reference) (t : ℕ) : Type 0 where
  pub is_sound : sound st ≡ true
  pub tags : row st ≡ a.row
  pub degree_s : st.book.s ≡ a.s
  pub degree_r : st.book.r ≡ a.r
  pub levels : height st.book ≡ a.height
  pub account : Account a.n0 a.m t st.book

-- such a store is kept
pub kept_of : {st : Store} {a : Reference} {t : ℕ} → Follows st a t → Kept st a t
unfolding LabelsRise base
kept_of {st} {a} {t} f =
    let k = st.book in
    let under : a.height - 1 ≡ k.under = omega (arith, f.levels) in
    record {
      tags = f.tags;
      degree_s = f.degree_s;
      degree_r = f.degree_r;
      levels = f.levels;
      rise = rw (← f.degree_s, ← f.degree_r, ← f.levels, ← store_powers st (height k)) (labels_rise (width st) k (store_widths st) f.account.sane);
      few_moved = rw (← f.degree_s, ← f.degree_r, ← f.levels) (account_few f.account);
      low = λ l. rw (← f.degree_r, under) (account_low f.account (omega (arith, f.levels)));
    }

-- LOAD: a store begins beside its reference list, whatever was before
started : (w s r b : ℕ) (ks : List ℕ) → load_refusal w s r ks ≡ 0 →
    Follows (load_store s r b ks) (reference_load s r (length ks)) 0
unfolding LoadSound load_store reference_load loaded
started w s r b ks e =
    let degrees = (accepted_load w s r ks e).degrees in
    record {
      is_sound = load_sound w s r b ks e;
      tags = tags_loaded s r (length ks) degrees.r_least;
      degree_s = refl;
      degree_r = refl;
      levels = refl;
      account = account_loaded s r (length ks) degrees.s_least degrees.r_least;
    }

-- INSERTION of a row of kinds into a store beside its reference list
module _ (w y : ℕ) (ks : List Kind) {st : Store} {a : Reference} {t : ℕ} (f : Follows st a t) (e : row_refusal w ks y st ≡ 0) where
  inserted_beside : sound (insert_store ks y st) ≡ true → Follows (insert_store ks y st) (reference_insert (length ks) y a) (t + insert_moved ks y st)
  unfolding insert_store book_after reference_insert position reference_position
  inserted_beside good =
      let k = st.book in
      let h = facts_of st f.is_sound in
      let n = length ks in
      let p = position y st in
      let fits = position_fits w ks y st h (accepted_row w ks y st e) in
      record {
        is_sound = good;
        tags = rw (← f.tags, h.as_many) (tags_inserted_row n p (count st) k f.account.sane fits);
        degree_s = (row_degrees n p (count st) k).0 ∙ f.degree_s;
        degree_r = (row_degrees n p (count st) k).1 ∙ f.degree_r;
        levels = rw (← f.degree_s, ← f.degree_r, ← f.levels, ← f.tags) (height_row n p (count st) k f.account.sane fits);
        account =
            account_fewer (t + insert_moved ks y st) (omega (arith, moved_fewer ks y st))
            (account_row n p (count st) k (store_widths st) fits (sym h.as_many) h.each f.account);
      }

-- A SHEET: the empty one changes nothing
pub empty_reference : EmptyReference
unfolding EmptyReference reference_change reference_insert raised_by insert_at numbers
empty_reference y a =
    let n : a.m + 0 ≡ a.m = omega arith in
    rw (n, take-append-drop)

module _ (w y : ℕ) {st : Store} {a : Reference} {t : ℕ} (f : Follows st a t) where
  sheet_beside : (ks : List Kind) → row_refusal w ks y st ≡ 0 → sound (insert_sheet_store ks y st) ≡ true →
      Follows (insert_sheet_store ks y st) (reference_insert (length ks) y a) (t + insert_moved ks y st)
  unfolding insert_sheet_store EmptyReference reference_change
  sheet_beside [] e good =
      let same : t + insert_moved [] y st ≡ t = omega (arith, moved_nothing y st) in
      rw (empty_reference y a, same) f
  sheet_beside (k ∷ ks) e good = inserted_beside w y (k ∷ ks) f e good

-- ONE CHANGE and every list of changes
-- accepted
follows_changed : (w : ℕ) (c : Change) {st : Store} {a : Reference} {t : ℕ} → Follows st a t → refusal w c st ≡ 0 → sound (changed c st) ≡ true →
    Follows (changed c st) (reference_change c a) (moved_by c st t)
unfolding refusal changed reference_change moved_by mark_store
follows_changed w (load s r b ks) f e good = started w s r b ks e
follows_changed w (insert c y) {st} f e good = inserted_beside w y (insert_kinds c) f (insert_passed w c y st f.is_sound e) good
follows_changed w (sheet cs y) {st} f e good =
    rw (← length-map cs kind_of) (sheet_beside w y f (map kind_of cs) (accepted_sheet w cs y st e).row good)
follows_changed w (mark x) f e good =
    record {
      is_sound = good;
      tags = f.tags;
      degree_s = f.degree_s;
      degree_r = f.degree_r;
      levels = f.levels;
      account = f.account;
    }

-- accepted or refused
follows_one : (w : ℕ) (c : Change) {st : Store} {a : Reference} {t : ℕ} → Follows st a t →
    Follows (after_one w c st) (reference_told (c, accepts w c st) a) (cond (accepts w c st) (moved_by c st t) t)
unfolding after_one reference_told accepts
follows_one w c {st} f =
    by_test (eqb (refusal w c st) 0)
    (λ e. let zero' = eqb-true _ _ e in rw e (follows_changed w c f zero' (changed_sound w c st f.is_sound zero')))
    (λ e. rw e f)

follows_all : (w : ℕ) (cs : List Change) {st : Store} {a : Reference} {t : ℕ} → Follows st a t →
    Follows (after w cs st) (reference_after (judged w cs st) a) (moved_after w cs st t)
unfolding after reference_after judged moved_after
follows_all w [] f = f
follows_all w (c ∷ cs) f = follows_all w cs (follows_one w c f)

-- THE THIRD DEMAND, on stores
pub lists_keep : ListsKeep
unfolding ListsKeep
lists_keep w s r b ks cs e = kept_of (follows_all w cs (started w s r b ks e))
