-- Words that say a store: what every call reads in them, and what they say after new words are written in front.
-- Assumes nothing.
use mathlib.Core.Path.{◌≡◌, refl, ap, ◌∙◌}
use mathlib.Core.List.{List, map}
use mathlib.Core.Bool.{true, cond}
use mathlib.Core.Option.{Option, none, some}
use Prim.Native.Nat.{ℕ, zero, suc, ◌≤◌}
use native.Mathlib.Omega.{arith}
use borrow.Author.Tests.{le-ltb}
use lib.Dec.{ltb, eqb, eqb-suc-zero}
use lib.ListN.{length, drop, length-append}
use lib.Seq.{drop-append_seam}
use Rattle.store_types.specs.Layout.{at_first, header_words, word_at, words_for, label_at}
use Rattle.lists.specs.Fronts.{in_front, written, replied}
use Rattle.tree.specs.Book.{labels_of}
use Rattle.words.proofs.Fields.{header_fits}
use Rattle.calls.specs.Store.{Store, count, row, width}
use Rattle.calls.specs.Sound.{sound}
use Rattle.calls.specs.Words.{words_of, Says, follow, header_width, read}
use Rattle.calls.specs.Replies.{on_store, refusal_over, store_or, said}
use Rattle.calls.specs.Promise.{ReaderRight}
use Rattle.calls_laws.proofs.Tests.{passes, facts_of}
use Rattle.calls_laws.proofs.Fields.{length_words, HeaderSays, header_says}
use Rattle.calls_laws.proofs.Reader.{reader_right, row_read, labels_read}

module _ (ws : List ℕ) (st : Store) (h : Says ws st) where
  -- THE STORE that is read, and the refusal over it
  pub read_said : read ws ≡ some st
  unfolding ReaderRight
  read_said = (reader_right ws st).1 h

  pub said_store : said ws ≡ st
  unfolding said store_or
  said_store = rw read_said

  -- room for the store's words, and so for a header
  pub words_fit : words_for header_words (count st) ≤ length ws
  unfolding Says
  words_fit = omega (arith, length_words st, ap length h.1.1 ∙ length-append (words_of st) h.1.0)

  pub refusal_said : (f : Store → ℕ) → refusal_over ws f ≡ f st
  unfolding refusal_over on_store
  refusal_said f = rw (le-ltb (length ws) header_words (omega (arith, words_fit, header_fits (count st))), read_said)

  -- THE WORDS: the header's, the tags along next, and their labels
  pub header_said : HeaderSays ws st
  unfolding Says
  header_said = rw h.1.1 (header_says st h.1.0)

  -- it gives the store's widths
  pub width_said : header_width ws ≡ width st
  unfolding header_width
  width_said = rw (header_said.degree_s, header_said.degree_r)

  pub row_said : follow (length (row st)) ws (word_at ws at_first) ≡ row st
  unfolding Says
  row_said =
      let e = facts_of st h.0 in
      rw (header_said.first, e.as_many, h.1.1) (row_read st h.1.0 e)

  pub labels_said : map (label_at ws) (row st) ≡ labels_of (width st) st.book
  unfolding Says
  labels_said = rw h.1.1 (labels_read st h.1.0 (facts_of st h.0))

-- A CALL THAT IS NOT REFUSED is on words that say a store, of which its own tests pass
pub refusal_passed : (ws : List ℕ) (f : Store → ℕ) → refusal_over ws f ≡ 0 → Says ws (said ws) × (f (said ws) ≡ 0)
unfolding refusal_over on_store said store_or ReaderRight
refusal_passed ws f r = go (read ws) refl (passes (ltb (length ws) header_words) 0 _ r).1
  where
    go : (o : Option Store) → read ws ≡ o → on_store o f ≡ 0 → Says ws (store_or o) × (f (store_or o) ≡ 0)
    go none q e = absurd (omega arith)
    go (some st) q e = ((reader_right ws st).0 q, e)

-- two refusals that agree on what words say are the same over them
pub refusal_same : (ws : List ℕ) (f g : Store → ℕ) → ((st : Store) → Says ws st → f st ≡ g st) → refusal_over ws f ≡ refusal_over ws g
unfolding refusal_over on_store ReaderRight
refusal_same ws f g agree = ap (cond (ltb (length ws) header_words) 1) (go (read ws) refl)
  where
    go : (o : Option Store) → read ws ≡ o → on_store o f ≡ on_store o g
    go none q = refl
    go (some st) q = agree st ((reader_right ws st).0 q)

-- A STORE'S OWN WORDS in front of those that say it change none
pub front_same : (ws : List ℕ) (st : Store) → Says ws st → in_front (words_of st) ws ≡ ws
unfolding Says in_front
front_same ws st h = rw (h.1.1, drop-append_seam)

-- NEW WORDS in front say their store
pub says_in_front : (ws : List ℕ) (su : Store) → sound su ≡ true → Says (in_front (words_of su) ws) su
unfolding Says in_front
says_in_front ws su e = (e, (drop (length (words_of su)) ws, refl))

-- THE WORDS AFTER A CALL that writes where its refusal is 0: they say the new store, or still the old one
pub written_says : (ws : List ℕ) (st su : Store) (refusal : ℕ) → Says ws st → (refusal ≡ 0 → sound su ≡ true) →
    Says (written refusal (words_of su) ws) (cond (eqb refusal 0) su st)
unfolding written replied
written_says ws st su zero h good = says_in_front ws su (good refl)
written_says ws st su (suc k) h good = rw (eqb-suc-zero k) h
