-- The loop that writes the tags' records along next: what is left to write from its tag on comes to the whole. Assumes nothing.
use mathlib.Core.Path.{◌≡◌, refl, ap, sym, ◌∙◌}
use mathlib.Core.List.{List, ◌∷◌, ◌++◌, flat_map}
use Prim.Native.Nat.{ℕ, ◌+◌, ◌≤◌, ◌<◌}
use native.Mathlib.Numerals.{add-one}
use native.Mathlib.Omega.{arith}
use lib.ListN.{length, get_or, drop}
use lib.Seq.{drop-cons, drop-length, sets, length-sets}
use Rattle.store_types.specs.Limits.{no_tag}
use Rattle.store_types.specs.Layout.{at_count, at_first, at_next, word_at, field}
use Rattle.store_types.specs.FileLayout.{tag_kind, row_bytes, file_bytes, record_place}
use Rattle.little_endian.proofs.Stores.{stored_behind}
use Rattle.tree_laws.proofs.Rows.{member_getD, place_getD}
use Rattle.calls.specs.Store.{count, row, next_in}
use Rattle.calls.specs.Words.{Says}
use Rattle.calls.specs.File.{file_record, tag_row}
use Rattle.calls.specs.Replies.{said}
use Rattle.calls_laws.proofs.Sections.{distinct_row, row_below}
use Rattle.calls_laws.proofs.WordSteps.{header_said}
use Rattle.store_refuse.specs.Needs.{TagSaid}
use Rattle.store_refuse.proofs.Laws.{sound_said, words_of_tag}
use Rattle.file_write.specs.Records.{tag_records}
use Rattle.file_write.proofs.RecordLaws.{length_tag}

-- WHERE THE LOOP STANDS: at the i-th tag in book order, whose record begins at a place
pub record TagsLeft (ws bs₀ bs : List ℕ) (x at i : ℕ) : Type 0 where
  pub among : i ≤ length (row (said ws))
  pub tag : x ≡ get_or (row (said ws)) i no_tag
  pub here : at ≡ record_place i
  pub long : length bs ≡ length bs₀
  pub rest : sets bs at (tag_records (said ws) (drop i (row (said ws)))) ≡ sets bs₀ row_bytes (tag_records (said ws) (row (said ws)))

pub left_first : (ws bs : List ℕ) (x : ℕ) → Says ws (said ws) → x ≡ word_at ws at_first → TagsLeft ws bs bs x row_bytes 0
left_first ws bs x says first =
    record { among = omega arith; tag = first ∙ (header_said ws (said ws) says).first; here = refl; long = refl; rest = refl }

-- as many tags as the header says
in_book : (ws : List ℕ) {n : ℕ} → Says ws (said ws) → n ≡ word_at ws at_count → (n ≡ count (said ws)) × (n ≡ length (row (said ws)))
in_book ws says e = let many = e ∙ (header_said ws (said ws) says).issued in (many, many ∙ sym (sound_said ws says).as_many)

-- ONE TAG
module _ {ws bs₀ bs : List ℕ} {x at i n : ℕ} (h : TagsLeft ws bs₀ bs x at i) (says : Says ws (said ws)) (many : n ≡ word_at ws at_count) where
  module _ (more : i < n) where
    inside : i < length (row (said ws))
    inside = omega (arith, in_book ws says many)

    pub tag_there : TagSaid ws x
    tag_there =
        record { says = says; tag = rw h.tag (row_below (sound_said ws says) _ (member_getD (row (said ws)) i no_tag inside)) }

    pub tag_room : file_bytes (count (said ws)) ≤ length bs₀ → at + row_bytes ≤ length bs
    tag_room room = omega (arith, h.here, h.long, (in_book ws says many).0)

    next_there : {y : ℕ} → y ≡ field ws x at_next → y ≡ get_or (row (said ws)) (i + 1) no_tag
    unfolding next_in
    next_there e =
        let here = place_getD (row (said ws)) i no_tag (distinct_row (sound_said ws says)) inside in
        e ∙ (words_of_tag tag_there).next_word ∙ rw (h.tag, here, add-one)

    pub left_turn : {y : ℕ} {cs : List ℕ} → cs ≡ sets bs at (file_record tag_kind (tag_row (said ws) x)) → y ≡ field ws x at_next →
        TagsLeft ws bs₀ cs y (at + row_bytes) (i + 1)
    unfolding tag_records flat_map
    left_turn {y} {cs} put next =
        let st = said ws in
        let one = file_record tag_kind (tag_row st x) in
        let more = tag_records st (drop (i + 1) (row st)) in
        let cut : drop i (row st) ≡ x ∷ drop (i + 1) (row st) = rw (h.tag, add-one) (drop-cons (row st) i no_tag inside) in
        let all : sets bs at (one ++ more) ≡ sets bs₀ row_bytes (tag_records st (row st)) = rw cut at h.rest in
        record {
          among = omega (arith, inside);
          tag = next_there next;
          here = omega (arith, h.here);
          long = ap length put ∙ length-sets bs at one ∙ h.long;
          rest = stored_behind one more bs at row_bytes (length_tag st x) put refl ∙ all;
        }

  -- ALL TAGS
  pub left_end : n ≤ i → (at ≡ record_place (count (said ws))) × (bs ≡ sets bs₀ row_bytes (tag_records (said ws) (row (said ws))))
  unfolding tag_records flat_map
  left_end over =
      let last : i ≡ length (row (said ws)) = omega (arith, h.among, in_book ws says many) in
      (omega (arith, h.here, h.among, in_book ws says many), rw (last, drop-length (row (said ws))) at h.rest)
