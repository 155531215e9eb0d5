-- `line_reader::stretch` meets its contract: what it finds before a line feed is the stretch. Assumes nothing.
use Rattle.std.proofs.Common.{eqb, rules, tests}
use Rattle.std.proofs.lemmas.Iterator.{YieldsList-from_slice}
use Rattle.std.proofs.lemmas.Iterator.Search.{position_from_yields_List}
use Rattle.line_reader.proofs.Gathering.{stretch_found, stretch_front, stretch_within}
use Rattle.line_reader.proofs.stretch.Goals as goal

pub returns : goal.returns
returns c =
    let piece = c.args.piece.now in
    let found = position_from_yields_List (λ x. eqb x 10) _ _ c.position-end.result c.position-end.ensures.ran (YieldsList-from_slice piece cc) (λ x b q k. search (rules, tests)) in
    let taken = stretch_found piece found c.unwrap_or.ensures in
    record { taken = taken; front = rw taken (stretch_front piece); fits = rw taken (stretch_within piece) }
