-- Writing a file: its refusals, what it replies, and the whole file from its parts. Assumes nothing.
use mathlib.Core.Bool.{true}
use mathlib.Core.Path.{◌≡◌, refl, ap, sym, ◌∙◌}
use mathlib.Core.List.{List, [], ◌∷◌, ◌++◌, map}
use Prim.Native.Nat.{ℕ, ◌*◌, ◌≤◌, ◌<◌}
use native.Mathlib.Omega.{arith}
use borrow.Author.Tests.{lt-ltb, le-ltb}
use lib.ListN.{length, drop, length-map}
use lib.Seq.{sets}
use Rattle.store_types.specs.Limits.{word_limit}
use Rattle.store_types.specs.Layout.{at_count, word_at}
use Rattle.store_types.specs.FileLayout.{header_kind, end_kind, row_bytes, file_bytes, record_place}
use Rattle.store_types.specs.declared.refusal.Refusal.{Refusal}
use Rattle.store_types.specs.Replies.{numbered, refusal_in}
use Rattle.calls.proofs.Checks.{check_refuses, check_keeps}
use Rattle.lists.specs.Fronts.{in_front, replied, written}
use Rattle.lists.proofs.Fronts.{sets_front}
use Rattle.little_endian.proofs.Stores.{stored_behind}
use Rattle.calls.specs.Store.{Store, count, row}
use Rattle.calls.specs.Sound.{sound}
use Rattle.calls.specs.Words.{Says, header}
use Rattle.calls.specs.File.{file_record, form, tag_row, file_of}
use Rattle.calls.specs.Replies.{refusal_over, said, write_refused, write_reply, write_bytes, write_refusal}
use Rattle.calls_laws.proofs.Tests.{facts_of}
use Rattle.calls_laws.proofs.WordSteps.{header_said}
use Rattle.store_refuse.proofs.Laws.{refused_said, accepted_says, sound_said}
use Rattle.calls_laws.proofs.FileRecords.{length_record}
use Rattle.calls_laws.proofs.Files.{length_file}
use Rattle.calls_laws.proofs.FileCalls.{file_fits}
use Rattle.file_write.specs.Records.{tag_records, FileRoom}
use Rattle.file_write.proofs.RecordLaws.{length_tags}
use Rattle.std.specs.Prelude.{Result, Ok, Err}

-- 16, by the number of tags that the header says
module _ (ws : List ℕ) (lent : ℕ) {n : ℕ} (says : Says ws (said ws)) (many : n ≡ word_at ws at_count) where
  by_count : refusal_over ws (write_refusal lent) ≡ write_refusal lent (said ws)
  by_count = refused_said ws (write_refusal lent) says

  pub too_few : lent < file_bytes n → 16 ≡ refusal_over ws (write_refusal lent)
  unfolding write_refusal
  too_few l = sym (by_count ∙ rw (lt-ltb lent (file_bytes (count (said ws))) (rw (many ∙ (header_said ws (said ws) says).issued) at l)))

  pub enough : file_bytes n ≤ lent → 0 ≡ refusal_over ws (write_refusal lent)
  unfolding write_refusal
  enough l = sym (by_count ∙ rw (le-ltb lent (file_bytes (count (said ws))) (rw (many ∙ (header_said ws (said ws) says).issued) at l)))

-- where neither the words nor the bytes are refused there is room
pub file_room : (ws bs : List ℕ) → refusal_over ws (write_refusal (length bs)) ≡ 0 → FileRoom ws bs
unfolding write_refused
file_room ws bs e = let (says, room) = file_fits ws bs e in record { says = says; room = room }

-- no file is longer than its reply can say
pub few_bytes : (ws : List ℕ) (lent : ℕ) → refusal_over ws (write_refusal lent) ≡ 0 → file_bytes (count (said ws)) < word_limit
few_bytes ws lent e = omega (arith, (sound_said ws (accepted_says ws (write_refusal lent) e)).few)

-- THE WHOLE FILE: the header, the tags behind it, and the last record behind them
pub sound_of : (ws : List ℕ) → Says ws (said ws) → sound (said ws) ≡ true
unfolding Says
sound_of ws says = says.0

pub file_stored : (st : Store) (bs : List ℕ) {cs ds es : List ℕ} {at n : ℕ} → sound st ≡ true → file_bytes (count st) ≤ length bs →
    cs ≡ sets bs 0 (file_record header_kind (drop 1 (header st))) → ds ≡ sets cs row_bytes (tag_records st (row st)) → at ≡ record_place (count st) →
    n ≡ count st → es ≡ sets ds at (file_record end_kind (n ∷ [])) → es ≡ in_front (file_of st) bs
unfolding file_of form header tag_records
file_stored st bs {n = n} good room head tags place many last =
    let h = facts_of st good in
    let front = file_record header_kind (drop 1 (header st)) in
    let behind = file_record end_kind (length (map (tag_row st) (row st)) ∷ []) in
    let as_many : n ≡ length (map (tag_row st) (row st)) = many ∙ sym (length-map (row st) (tag_row st) ∙ h.as_many) in
    let long : length (tag_records st (row st)) ≡ row_bytes * count st = rw h.as_many at (length_tags st (row st)) in
    let rows = stored_behind (tag_records st (row st)) behind _ row_bytes (row_bytes * count st) long tags (rw (place, as_many) at last) in
    stored_behind front (tag_records st (row st) ++ behind) bs 0 row_bytes (length_record header_kind (drop 1 (header st))) head rows
    ∙ sets_front (file_of st) bs (rw (length_file st good) room)

-- THE REPLY, and the bytes after the call
abbrev pub Replied : Result ℕ ℕ → (words bytes after : List ℕ) → Type 0
Replied q ws bs cs = (q ≡ write_reply ws bs) × (cs ≡ write_bytes ws bs)

module _ (ws bs : List ℕ) where
  refused_as : write_refused ws bs ≡ refusal_over ws (write_refusal (length bs))
  unfolding write_refused write_refusal
  refused_as = refl

  pub write_refuses : (A : Type 0) (r : Refusal) → refusal_in {A = A} (Err r) ≡ refusal_over ws (write_refusal (length bs)) → (p : Result ℕ Refusal) → p ≡ Err r →
      Replied (numbered p) ws bs bs
  unfolding write_reply write_bytes
  write_refuses A r e p same = rw refused_as (check_refuses A r _ e p _ same, check_keeps A r _ e _ bs)

  pub write_writes : {n : ℕ} {cs : List ℕ} → refusal_over ws (write_refusal (length bs)) ≡ 0 → n ≡ file_bytes (count (said ws)) →
      cs ≡ in_front (file_of (said ws)) bs → Replied (Ok n) ws bs cs
  unfolding write_reply write_bytes written replied
  write_writes e many file = rw (refused_as, e) (ap Ok many, file)
