-- `xml_ends::goes_on` meets its contract, by whether a byte stands there. Assumes nothing.
use mathlib.Core.Path.{sym, ◌∙◌, ap}
use mathlib.Core.Bool.{not}
use native.Mathlib.Omega.{arith}
use Rattle.xml_ends.proofs.EndLaws.{over, goes_on_is}
use Rattle.xml_ends.proofs.goes_on.Goals as goal

pub returns-then-text-at : goal.returns-then-text-at
returns-then-text-at c = sym (over c.args.text.now c.args.at (sym c.if-text-at.true))

pub returns : goal.returns
returns c =
    ap not c.stands.ensures ∙ sym (goes_on_is c.args.text.now c.args.at (omega (arith, c.requires, c.if-text-at.false)))
