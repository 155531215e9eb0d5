-- What load replies and leaves: where a test refuses, and where none does. Assumes nothing.
use mathlib.Core.Path.{◌≡◌, ap, sym, ◌∙◌}
use mathlib.Core.Bool.{true, false, not, cond}
use mathlib.Core.List.{List, map, ◌++◌}
use Prim.Native.Nat.{ℕ, suc, ◌+◌, ◌*◌, ◌-◌, ◌≤◌}
use native.Mathlib.Numerals.{add-one}
use native.Mathlib.Omega.{arith}
use borrow.Author.Tests.{ltb-false, not-false}
use lib.Dec.{ltb}
use lib.ListN.{length, drop}
use Rattle.store_types.specs.Limits.{most_tags}
use Rattle.store_types.specs.Layout.{header_words, words_for}
use Rattle.words.proofs.Fields.{header_fits}
use Rattle.tree.specs.Book.{load_under, loaded}
use Rattle.lists.specs.Lists.{first}
use Rattle.lists.proofs.First.{refused_before}
use Rattle.lists.specs.Fronts.{in_front, replied, written}
use Rattle.lists.proofs.Fronts.{length_in_front}
use Rattle.lists.proofs.Replied.{replied_refused}
use Rattle.calls.specs.Kind.{kind_of}
use Rattle.calls.specs.Store.{power_fits}
use Rattle.calls.specs.Nesting.{nests}
use Rattle.calls.specs.Sound.{degrees_fit}
use Rattle.calls.specs.Load.{all_kinds, kinds_tests, early_tests, load_refusal, load_store}
use Rattle.calls.specs.Words.{words_of}
use Rattle.calls.specs.Replies.{load_reply, load_words}
use Rattle.calls_laws.proofs.Tests.{passes, Degrees, degrees_of}
use Rattle.calls_laws.proofs.Fields.{length_words}
use Rattle.calls_laws.proofs.Steps.{LoadAccepted, accepted_load}
use Rattle.powers.specs.Tables.{table}
use Rattle.shape.specs.Tables.{widths_of}
use Rattle.shape.specs.Needs.{WidthsFit}
use Rattle.load_refuse.specs.Refusals.{refusal_before}
use Rattle.load_tags.specs.Tags.{TagsFit, TagsWritten, TreesFit, labels_new}
use Rattle.load_call.specs.Header.{header_new}
use Rattle.load_tags.proofs.Filling.{count_new}
use Rattle.load_call.proofs.Fresh.{fresh_words}
use Rattle.load_call.proofs.Loaded.{table_fits, trees_fit, loaded_words}
use Rattle.std.specs.Prelude.{Result, Ok, Err}
use Rattle.store_types.specs.declared.Loaded.{Loaded}
use Rattle.store_types.specs.declared.refusal.Refusal.{Refusal}
use Rattle.store_types.specs.Replies.{load_made, number_of, numbered, refusal_in}
use Rattle.store_types.proofs.Replies.{some_number}

-- THE TESTS BEFORE THE LAST, passed; the last one is then the refusal
pub record Passed (w s r : ℕ) (cs : List ℕ) : Type 0 where
  pub degrees : Degrees s r
  pub few : length cs ≤ most_tags
  pub room : words_for header_words (length cs) ≤ w
  pub kinds : all_kinds cs ≡ true
  pub nesting : nests 0 (map kind_of cs) ≡ true
  pub last : load_refusal w s r cs ≡ cond (not (power_fits s r (suc (load_under r (length cs))))) 7 0

module _ (w s r : ℕ) (cs : List ℕ) where
  pub passed : refusal_before w s r cs ≡ 0 → Passed w s r cs
  unfolding refusal_before early_tests kinds_tests load_refusal first
  passed e =
      let n = length cs in
      let a = passes (not (degrees_fit s r)) 2 _ e in
      let b = passes (ltb most_tags n) 5 _ a.1 in
      let c = passes (ltb w (words_for header_words n)) 0 _ b.1 in
      let d = passes (not (all_kinds cs)) 3 _ c.1 in
      let f = passes (not (nests 0 (map kind_of cs))) 4 0 d.1 in
      record {
        degrees = degrees_of s r (not-false _ a.0);
        few = ltb-false _ _ b.0;
        room = ltb-false _ _ c.0;
        kinds = not-false _ d.0;
        nesting = not-false _ f.0;
        last = rw (a.0, b.0, c.0, d.0, f.0);
      }

  -- one of them, failed, is the refusal
  pub early : (q : ℕ) → refusal_before w s r cs ≡ q → (q ≡ 0 → ⊥) → load_refusal w s r cs ≡ q
  unfolding refusal_before load_refusal
  early q e some = refused_before (early_tests w s r cs) _ (λ z. some (sym e ∙ z)) ∙ e

  -- the last test, as the code makes it
  module _ (h : Passed w s r cs) (u : ℕ) (height : u ≡ load_under r (length cs)) where
    height_is : suc (load_under r (length cs)) ≡ u + 1
    height_is = rw (height, add-one)

    pub too_wide : power_fits s r (u + 1) ≡ false → load_refusal w s r cs ≡ 7
    too_wide e = h.last ∙ rw (height_is, e)

    pub none_refused : power_fits s r (u + 1) ≡ true → load_refusal w s r cs ≡ 0
    none_refused e = h.last ∙ rw (height_is, e)

-- REFUSED: the reply is the refusal, and the words are as they were
pub refused_with : (s r b : ℕ) (cs ws : List ℕ) (q : ℕ) → load_refusal (length ws) s r cs ≡ q → (q ≡ 0 → ⊥) →
    (Err q ≡ load_reply s r b cs ws) × (ws ≡ load_words s r b cs ws)
unfolding load_reply load_words written
refused_with s r b cs ws q e some = rw e (replied_refused Err q _ some, replied_refused (λ _. ws) q _ some)

-- so where one of the tests before the last refuses, whose refusal `?` gives on
pub refused_early : (s r b : ℕ) (cs ws : List ℕ) (A : Type 0) (e : Refusal) → refusal_in {A = A} (Err e) ≡ refusal_before (length ws) s r cs → (p : Result Loaded Refusal) →
    p ≡ Err e → (numbered p ≡ load_reply s r b cs ws) × (ws ≡ load_words s r b cs ws)
unfolding numbered refusal_in
refused_early s r b cs ws A e told p same =
    rw same (refused_with s r b cs ws (number_of e) (early (length ws) s r cs (number_of e) (sym told) (some_number e)) (some_number e))

-- the header has room, and behind it the tags
pub header_room : {w s r : ℕ} {cs : List ℕ} → Passed w s r cs → header_words ≤ w
header_room {cs = cs} h = omega (arith, h.room, header_fits (length cs))

pub tags_fit : (s r u b : ℕ) (cs ws hs : List ℕ) → Passed (length ws) s r cs → hs ≡ in_front (header_new s r u (length cs) b) ws → TagsFit hs cs
unfolding header_new
tags_fit s r u b cs ws hs h e =
    record {
      records = record { few = h.few; long = rw (e, length_in_front (header_new s r u (length cs) b) ws (header_room h)) h.room };
      kinds = h.kinds;
      nesting = h.nesting;
    }

-- ACCEPTED, where u is the height of the root's children
module _ (s r b : ℕ) (cs ws : List ℕ) (u : ℕ) (height : u ≡ load_under r (length cs)) (none : load_refusal (length ws) s r cs ≡ 0) where
  pub accepted_reply : Ok (load_made (length cs) (u + 1)) ≡ load_reply s r b cs ws
  unfolding load_reply replied loaded
  accepted_reply = rw (none, height, add-one)

  new_words : words_of (load_store s r b cs) ++ drop (words_for header_words (length cs)) ws ≡ load_words s r b cs ws
  unfolding load_words written replied in_front load_store
  new_words = rw none (ap (λ (k : ℕ). words_of (load_store s r b cs) ++ drop k ws) (sym (length_words (load_store s r b cs) ∙ ap (words_for header_words) (count_new cs))))

  accepted : LoadAccepted (length ws) s r cs
  accepted = accepted_load (length ws) s r cs none

  accepted_room : header_words ≤ length ws
  accepted_room = omega (arith, accepted.room, header_fits (length cs))

  -- behind the header: its widths fit, the trees have room, and with the tags all is written
  module _ (hs : List ℕ) (head : hs ≡ in_front (header_new s r (u + 1) (length cs) b) ws) where
    new_widths : widths_of hs ≡ table 1 (s * r - 1) (suc (load_under r (length cs)))
    unfolding widths_of in_front header_new
    new_widths = rw (head, height, add-one)

    pub room_for_widths : WidthsFit hs
    unfolding in_front header_new
    room_for_widths =
        rw head (record {
          long = rw (length_in_front (header_new s r (u + 1) (length cs) b) ws (accepted_room)) accepted_room;
          s_most = accepted.degrees.s_most;
          r_most = accepted.degrees.r_most;
          table = rw (height, add-one) (table_fits (length ws) s r b cs accepted);
        })

    module _ (t : List ℕ) (widths_are : t ≡ widths_of hs) where
      pub room_for_trees : TreesFit r (length cs) u t
      room_for_trees = rw (widths_are, new_widths, height) (trees_fit (length ws) s r b cs accepted)

      pub all_written : (vs : List ℕ) → TagsWritten hs vs cs (labels_new r t (length cs) u) → vs ≡ load_words s r b cs ws
      all_written vs w =
          let h = suc (load_under r (length cs)) in
          let ls = labels_new r (table 1 (s * r - 1) h) (length cs) (load_under r (length cs)) in
          fresh_words s r h b cs ls ws vs accepted.room (rw (widths_are, new_widths, head, height, add-one) at w)
          ∙ ap (λ (us : List ℕ). us ++ drop (words_for header_words (length cs)) ws) (loaded_words (length ws) s r b cs accepted)
          ∙ new_words
