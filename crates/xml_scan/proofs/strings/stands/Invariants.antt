-- `xml_scan::stands` meets its contract. The loop's invariant: what is left of the string stands where all of it does. Assumes nothing.
use Rattle.xml_scan.proofs.StringSteps.{Standing}
use Rattle.xml_scan.proofs.strings.stands.Given as goal

abbrev pub invariant-loop-k : goal.invariant-loop-k
invariant-loop-k l = Standing l.text l.at l.string l.k
