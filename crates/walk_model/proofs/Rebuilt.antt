-- Words that have each word of a store are its words, with a rest. Assumes nothing.
use mathlib.Core.Path.{◌≡◌}
use mathlib.Core.List.{List, ◌++◌}
use Prim.Native.Nat.{ℕ, ◌≤◌, ◌<◌}
use lib.ListN.{length, drop}
use Rattle.store_types.specs.Layout.{header_words, words_for}
use Rattle.words.proofs.Records.{header_of, record_of, rebuilt as words_rebuilt}
use Rattle.calls.specs.Store.{Store, count}
use Rattle.calls.specs.Words.{header, tag_record, words_of}
use Rattle.calls_laws.proofs.Fields.{TagSays, HeaderSays}

module _ (ws : List ℕ) (st : Store) (says : (x : ℕ) → x < count st → TagSays ws st x) (head : HeaderSays ws st) where
  header_is : header st ≡ header_of ws
  unfolding header
  header_is = rw (head.version, head.degree_s, head.degree_r, head.levels, head.issued, head.first, head.number, head.stamp)

  record_is : (x : ℕ) → x < count st → tag_record st x ≡ record_of ws x
  unfolding tag_record
  record_is x l =
      let t = says x l in
      rw (t.label_word, t.next_word, t.prior_word, t.mate_word, t.up_word, t.kind_is, t.depth_is)

  pub rebuilt : words_for header_words (count st) ≤ length ws → ws ≡ words_of st ++ drop (words_for header_words (count st)) ws
  unfolding words_of
  rebuilt room = words_rebuilt ws (header st) (tag_record st) (count st) header_is record_is room
