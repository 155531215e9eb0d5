-- `words::places::watched_label` meets its contract. Assumes nothing.
use borrow.Author.Rules.{rules}
use native.Mathlib.Omega.{arith}
use Rattle.words.proofs.Fields.{header_long, room}
use Rattle.words.proofs.PlaceLaws.{label_tag, label_none}
use Rattle.words.proofs.places.watched_label.Goals as goal

pub bounds-words-4 : goal.bounds-words-4
bounds-words-4 c = omega (arith, header_long)

pub label_of-requires : goal.label_of-requires
label_of-requires c = search (rules, room)

pub returns-then-place-words : goal.returns-then-place-words
returns-then-place-words c = label_tag _ _ c.if-place-words.true c.label_of.ensures

pub returns : goal.returns
returns c = label_none _ _ c.if-place-words.false
