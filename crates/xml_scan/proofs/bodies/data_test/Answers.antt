-- `xml_scan::data_test` meets its contract, by the class of the byte and then the byte. Assumes nothing.
use mathlib.Core.Path.{sym, ◌∙◌}
use native.Mathlib.Omega.{arith}
use Rattle.xml_scan.proofs.DataSteps.{test_less, test_ampersand, test_closer, test_forbidden, test_on, test_other, test_plain}
use Rattle.xml_scan.proofs.bodies.data_test.Goals as goal

pub returns-in-Forbidden : goal.returns-in-Forbidden
returns-in-Forbidden c = test_forbidden c.args.text.now c.args.at c.requires (omega (arith, c.type_inv.text c.args.at)) (sym c.class_of.ensures ∙ c.in-Forbidden.is)

pub returns-in_default : goal.returns-in_default
returns-in_default c =
    test_plain c.args.text.now c.args.at c.requires (omega (arith, c.type_inv.text c.args.at))
    (λ e. c.in_default.not-Forbidden (c.class_of.ensures ∙ e)) (λ e. c.in_default.not-Other (c.class_of.ensures ∙ e))

pub returns-then-c-eq60 : goal.returns-then-c-eq60
returns-then-c-eq60 c = test_less _ _ c.requires c.if-c-eq60.true

pub returns-then-c-eq38 : goal.returns-then-c-eq38
returns-then-c-eq38 c = test_ampersand _ _ c.requires c.if-c-eq38.true

pub returns-then-c-ne93 : goal.returns-then-c-ne93
returns-then-c-ne93 c =
    test_other c.args.text.now c.args.at c.requires (omega (arith, c.type_inv.text c.args.at)) (λ e. cc (c.class_of.ensures, c.in-Other.is, e)) c.if-c-eq60.false c.if-c-eq38.false c.if-c-ne93.true

pub returns-then-stands : goal.returns-then-stands
returns-then-stands c =
    test_closer _ _ c.requires c.if-c-eq60.false c.if-c-eq38.false (sym c.if-stands.ensures)

pub returns : goal.returns
returns c =
    test_on c.args.text.now c.args.at c.requires (omega (arith, c.type_inv.text c.args.at)) (λ e. cc (c.class_of.ensures, c.in-Other.is, e)) c.if-c-eq60.false c.if-c-eq38.false
    (sym c.if-stands.ensures)
