-- `console_fields::split_field` meets its contract, by whether there is a space. Assumes nothing.
use Rattle.std.proofs.Common.{eqb, rules, tests}
use Rattle.std.proofs.lemmas.Iterator.{YieldsList-from_slice}
use Rattle.std.proofs.lemmas.Iterator.Search.{position_from_yields_List}
use Rattle.console_fields.proofs.Scans.{first_space_is, split_some, split_none}
use Rattle.console_fields.proofs.fields.split_field.Goals as goal

pub returns-in-Some : goal.returns-in-Some
returns-in-Some c =
    split_some c.args.line.now (rw first_space_is (position_from_yields_List (λ x. eqb x 32) _ _ c.position.result c.position.ensures.ran (YieldsList-from_slice c.args.line.now cc) (λ x b q k. search (rules, tests)))) c.in-Some.is

pub returns-in-None : goal.returns-in-None
returns-in-None c =
    split_none c.args.line.now (rw first_space_is (position_from_yields_List (λ x. eqb x 32) _ _ c.position.result c.position.ensures.ran (YieldsList-from_slice c.args.line.now cc) (λ x b q k. search (rules, tests)))) c.in-None.is
