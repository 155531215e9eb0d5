-- Records of a file: what is stored one behind the other is a record of the header, of a tag or of one word. Assumes nothing.
use mathlib.Core.Path.{◌≡◌, refl, ap, sym, ◌∙◌}
use mathlib.Core.List.{List, [], ◌∷◌, append-nil, flat_map, map}
use Prim.Native.Nat.{ℕ, suc, ◌+◌, ◌*◌, ◌-◌, ◌≤◌}
use native.Mathlib.Omega.{arith}
use lib.ListN.{length, take, drop, length-append}
use lib.Seq.{take-take, sets}
use Rattle.store_types.specs.Layout.{header_words, tag_words, words_for}
use Rattle.store_types.specs.FileLayout.{kept_words, header_kind, tag_kind, length_bytes, kind_bytes, word_bytes, front_bytes, row_words, row_bytes}
use Rattle.little_endian.specs.Numbers.{low_first}
use Rattle.little_endian.proofs.Numbers.{length_low}
use Rattle.little_endian.proofs.Stores.{stored_behind}
use Rattle.words.proofs.Fields.{words_next, words_up}
use Rattle.words.proofs.Records.{record_part}
use Rattle.calls.specs.Store.{Store, count}
use Rattle.calls.specs.Words.{header, tag_record, words_of, Says}
use Rattle.calls.specs.File.{record_front, file_record, tag_row}
use Rattle.calls.specs.Replies.{said}
use Rattle.calls_laws.proofs.WordSteps.{words_fit}
use Rattle.store_refuse.specs.Needs.{TagSaid}
use Rattle.store_refuse.proofs.Laws.{words_of_tag}
use Rattle.calls_laws.proofs.FileRecords.{length_record_front, length_record}
use Rattle.file_write.specs.Records.{tag_records}

-- STORED from a place on: a front; words behind it; one word; a word and then others
module _ (bs : List ℕ) (at kind : ℕ) {cs : List ℕ} where
  pub front_stored : (k : ℕ) {ds : List ℕ} → cs ≡ sets bs at (low_first length_bytes (kind_bytes + word_bytes * k)) →
      ds ≡ sets cs (at + length_bytes) (low_first kind_bytes kind) → ds ≡ sets bs at (record_front kind k)
  front_stored k =
      let follow = kind_bytes + word_bytes * k in
      stored_behind (low_first length_bytes follow) (low_first kind_bytes kind) bs at length_bytes (length_low length_bytes follow)

  words_stored : (vs : List ℕ) {ds : List ℕ} → cs ≡ sets bs at (record_front kind (length vs)) →
      ds ≡ sets cs (at + front_bytes) (flat_map (low_first word_bytes) vs) → ds ≡ sets bs at (file_record kind vs)
  unfolding file_record
  words_stored vs front words = stored_behind (record_front kind (length vs)) (flat_map (low_first word_bytes) vs) bs at front_bytes (length_record_front kind (length vs)) front words

  pub word_stored : (v : ℕ) {ds : List ℕ} → cs ≡ sets bs at (record_front kind 1) → ds ≡ sets cs (at + front_bytes) (low_first word_bytes v) →
      ds ≡ sets bs at (file_record kind (v ∷ []))
  unfolding flat_map
  word_stored v front word = words_stored (v ∷ []) front (rw append-nil word)

  row_stored : (v : ℕ) (vs : List ℕ) {ds es : List ℕ} → cs ≡ sets bs at (record_front kind (suc (length vs))) →
      ds ≡ sets cs (at + front_bytes) (low_first word_bytes v) → es ≡ sets ds (at + front_bytes + word_bytes) (flat_map (low_first word_bytes) vs) →
      es ≡ sets bs at (file_record kind (v ∷ vs))
  unfolding flat_map
  row_stored v vs front word words =
      words_stored (v ∷ vs) front
      (stored_behind (low_first word_bytes v) (flat_map (low_first word_bytes) vs) cs (at + front_bytes) word_bytes (length_low word_bytes v) word words)

-- THE HEADER'S RECORD: the words of the header but the first
header_part : (ws : List ℕ) (st : Store) → Says ws st → take row_words (drop 1 ws) ≡ drop 1 (header st)
unfolding Says words_of header
header_part ws st says = rw says.1.1

pub header_stored : (ws : List ℕ) (st : Store) (bs : List ℕ) {cs ds : List ℕ} → Says ws st → cs ≡ sets bs 0 (record_front header_kind row_words) →
    ds ≡ sets cs front_bytes (flat_map (low_first word_bytes) (take row_words (drop 1 ws))) → ds ≡ sets bs 0 (file_record header_kind (drop 1 (header st)))
unfolding header
header_stored ws st bs says front words = words_stored bs 0 header_kind (drop 1 (header st)) front (rw (header_part ws st says) at words)

-- A TAG'S RECORD: its number and the words of its record that are kept
module _ {ws : List ℕ} {x : ℕ} (h : TagSaid ws x) where
  pub tag_fits : words_for header_words x + tag_words ≤ length ws
  tag_fits = omega (arith, words_fit ws (said ws) h.says, words_up (suc x) (count (said ws)) h.tag, words_next x)

  tag_part : {from : ℕ} → from ≡ words_for header_words x → take (from + kept_words - from) (drop from ws) ≡ take kept_words (tag_record (said ws) x)
  unfolding tag_record
  tag_part {from} e =
      let size : from + kept_words - from ≡ kept_words = omega arith in
      let says = words_of_tag h in
      rw (size, e)
      (sym (take-take kept_words tag_words (drop (words_for header_words x) ws) (omega arith))
      ∙ ap (take kept_words) (record_part ws x tag_fits)
      ∙ rw (says.label_word, says.next_word, says.prior_word, says.mate_word, says.up_word, says.kind_is))

  pub tag_stored : (bs : List ℕ) (at : ℕ) {from : ℕ} {cs ds es : List ℕ} → from ≡ words_for header_words x →
      cs ≡ sets bs at (record_front tag_kind row_words) → ds ≡ sets cs (at + front_bytes) (low_first word_bytes x) →
      es ≡ sets ds (at + front_bytes + word_bytes) (flat_map (low_first word_bytes) (take (from + kept_words - from) (drop from ws))) →
      es ≡ sets bs at (file_record tag_kind (tag_row (said ws) x))
  unfolding tag_row tag_record
  tag_stored bs at e front number words =
      row_stored bs at tag_kind x (take kept_words (tag_record (said ws) x)) front number (rw (tag_part e) at words)

-- A ROW OF TAGS: each has a record of so many bytes
length_row : (st : Store) (x : ℕ) → length (tag_row st x) ≡ row_words
unfolding tag_row tag_record
length_row st x = refl

pub length_tag : (st : Store) (x : ℕ) → length (file_record tag_kind (tag_row st x)) ≡ row_bytes
length_tag st x = length_record tag_kind (tag_row st x) ∙ omega (arith, length_row st x)

pub length_tags : (st : Store) (xs : List ℕ) → length (tag_records st xs) ≡ row_bytes * length xs
unfolding tag_records flat_map
length_tags st [] = refl
length_tags st (x ∷ xs) =
    length-append (file_record tag_kind (tag_row st x)) (flat_map (file_record tag_kind) (map (tag_row st) xs))
    ∙ omega (arith, length_tag st x, length_tags st xs)
