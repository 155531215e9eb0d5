-- `calls_run::calls_run` meets its contract: the entries' contracts, one after the other, are a run. Assumes nothing.
use mathlib.Core.Path.{refl, ap}
use native.Mathlib.Omega.{arith}
use Rattle.system.specs.System.{loaded, inserted, marked, held, answered, listed as listed_finding, filed, change_reply, change_words, finding, reading_lists}
use Rattle.calls_run.proofs.Laws.{none, change, reading, one, two}
use Rattle.calls_run.proofs.calls_run.Goals as goal

pub shape_of-words : goal.shape_of-words
shape_of-words c =
    omega (arith, c.mark-mark.auto, c.insert_sheet-sheet.auto, c.insert-insert.auto, c.load-load.auto)

pub returns : goal.returns
unfolding change_reply change_words finding reading_lists
returns c =
    change (ap loaded c.load-load.ensures.reply) c.load-load.ensures.words
    (change (ap inserted c.insert-insert.ensures.reply) c.insert-insert.ensures.words
    (change (ap inserted c.insert_sheet-sheet.ensures.reply) c.insert_sheet-sheet.ensures.words
    (change (ap marked c.mark-mark.ensures.reply) c.mark-mark.ensures.words
    (reading (ap held c.hold-hold.ensures) refl
    (reading (ap answered c.question-question.ensures) refl
    (reading (ap listed_finding c.list-list.ensures.reply) (two c.list-list.ensures.tags c.list-list.ensures.labels)
    (reading (ap filed c.write_file-write.ensures.reply) (one c.write_file-write.ensures.bytes) none)))))))
