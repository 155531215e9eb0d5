-- `xml_ends::ending` meets its contract, by its end tag. Assumes nothing.
use Rattle.xml_ends.proofs.EndLaws.{ending_missing, ending_found}
use Rattle.xml_ends.proofs.ending.Goals as goal

pub returns-in_default : goal.returns-in_default
returns-in_default c =
    ending_missing c.args.text.now c.args.name.now c.args.here c.args.kinds.now c.requires.0 c.requires.1 c.in_default.ensures

pub returns : goal.returns
returns c =
    rw (c.closed.ensures.cursor, c.closed.ensures.list)
    (ending_found c.args.text.now c.args.name.now c.args.here c.args.kinds.now c.requires.0 c.requires.1 _ c.in-Some.ensures)
