-- `file_read::read_file` meets its contract: each test refuses with its number, and a file that passes them is written.
-- Assumes nothing.
use mathlib.Core.Path.{◌≡◌, ap, sym, ◌∙◌}
use Prim.Native.Nat.{◌≤◌}
use native.Mathlib.Omega.{arith}
use borrow.Author.Tests.{not-true, not-false}
use lib.ListN.{length}
use Rattle.store_types.specs.Replies.{number_of, numbered}
use Rattle.store_types.specs.Layout.{header_words, words_for}
use Rattle.store_types.specs.FileLayout.{file_bytes}
use Rattle.calls.specs.File.{count_in}
use Rattle.calls_laws.proofs.FileForm.{parts_of}
use Rattle.file_read.proofs.ReadLaws.{not_formed, few_words, unsound, header_room, Passed, accepted_reply, rows_fit, accepted_words}
use Rattle.file_read.proofs.read_file.Goals as goal

pub returns-then-not-formed : goal.returns-then-not-formed
unfolding numbered number_of
returns-then-not-formed c = let all = not_formed _ _ (sym c.formed.ensures ∙ not-true _ c.if-not-formed.true-raw) in record { reply = all.0; words = all.1 }

pub count-n-requires : goal.count-n-requires
count-n-requires c = omega (arith, (let it : length c.args.bytes.now ≡ file_bytes (count_in c.args.bytes.now) = (parts_of _ (sym c.formed.ensures ∙ not-false _ c.if-not-formed.false-raw)).long in it))

pub returns-then-words-words_for : goal.returns-then-words-words_for
unfolding numbered number_of
returns-then-words-words_for c =
    let all = few_words _ _ (sym c.formed.ensures ∙ not-false _ c.if-not-formed.false-raw)
    (omega (arith, c.if-words-words_for.true, c.words_for.ensures, ap (words_for header_words) c.count-n.ensures)) in record { reply = all.0; words = all.1 }

pub judged-requires : goal.judged-requires
judged-requires c = (let it : length c.args.bytes.now ≡ file_bytes (count_in c.args.bytes.now) = (parts_of _ (sym c.formed.ensures ∙ not-false _ c.if-not-formed.false-raw)).long in it)

pub returns-then-not-judged : goal.returns-then-not-judged
unfolding numbered number_of
returns-then-not-judged c =
    let all = unsound _ _ (sym c.formed.ensures ∙ not-false _ c.if-not-formed.false-raw) (let it : words_for header_words (count_in c.args.bytes.now) ≤ length c.args.words.now = omega (arith, c.if-words-words_for.false, c.words_for.ensures, ap (words_for header_words) c.count-n.ensures) in it) (sym c.judged.ensures ∙ not-true _ c.if-not-judged.true-raw) in record { reply = all.0; words = all.1 }

pub header-header-requires : goal.header-header-requires
header-header-requires c = omega (arith, (let it : length c.args.bytes.now ≡ file_bytes (count_in c.args.bytes.now) = (parts_of _ (sym c.formed.ensures ∙ not-false _ c.if-not-formed.false-raw)).long in it))

pub put_header-requires : goal.put_header-requires
put_header-requires c = header_room _ _ (let it : Passed c.args.bytes.now c.args.words.now = record {
  of_form = (sym c.formed.ensures ∙ not-false _ c.if-not-formed.false-raw);
  room = (let it : words_for header_words (count_in c.args.bytes.now) ≤ length c.args.words.now = omega (arith, c.if-words-words_for.false, c.words_for.ensures, ap (words_for header_words) c.count-n.ensures) in it);
  good = sym c.judged.ensures ∙ not-false _ c.if-not-judged.false-raw;
} in it).room c.header-header.ensures

pub put_rows-requires : goal.put_rows-requires
put_rows-requires c =
    rows_fit (let it : Passed c.args.bytes.now c.args.words.now = record {
      of_form = (sym c.formed.ensures ∙ not-false _ c.if-not-formed.false-raw);
      room = (let it : words_for header_words (count_in c.args.bytes.now) ≤ length c.args.words.now = omega (arith, c.if-words-words_for.false, c.words_for.ensures, ap (words_for header_words) c.count-n.ensures) in it);
      good = sym c.judged.ensures ∙ not-false _ c.if-not-judged.false-raw;
    } in it) c.header-header.ensures c.put_header.ensures c.count-n.ensures

pub header_word-height-requires : goal.header_word-height-requires
header_word-height-requires c =
    (omega (arith, (let it : length c.args.bytes.now ≡ file_bytes (count_in c.args.bytes.now) = (parts_of _ (sym c.formed.ensures ∙ not-false _ c.if-not-formed.false-raw)).long in it)), omega arith, omega arith)

pub returns : goal.returns
unfolding numbered
returns c =
    let p = (let it : Passed c.args.bytes.now c.args.words.now = record {
      of_form = (sym c.formed.ensures ∙ not-false _ c.if-not-formed.false-raw);
      room = (let it : words_for header_words (count_in c.args.bytes.now) ≤ length c.args.words.now = omega (arith, c.if-words-words_for.false, c.words_for.ensures, ap (words_for header_words) c.count-n.ensures) in it);
      good = sym c.judged.ensures ∙ not-false _ c.if-not-judged.false-raw;
    } in it) in record { reply = accepted_reply p c.count-n.ensures c.header_word-height.ensures; words = accepted_words p c.header-header.ensures c.put_header.ensures c.put_rows.ensures }
