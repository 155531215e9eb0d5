-- `load_refuse::rest_refusal` meets its contract: `all` tests the kinds one after the other. Assumes nothing.
use mathlib.Core.Path.{◌≡◌, sym, ◌∙◌}
use Rattle.std.proofs.Common.{rules, tests}
use Rattle.std.specs.List.{list_all}
use Rattle.std.proofs.lemmas.Iterator.{YieldsList-from_slice}
use Rattle.std.proofs.lemmas.Iterator.Search.{all_from_yields_List}
use Rattle.store_types.specs.Replies.{number_of}
use Rattle.calls.specs.Kind.{is_kind}
use Rattle.load_refuse.proofs.KindsSeen.{rest_told}
use Rattle.load_refuse.proofs.rest_refusal.Goals as goal

pub returns-then-all : goal.returns-then-all
unfolding number_of
returns-then-all c =
    let told : c.all.result ≡ list_all is_kind c.args.rest.now = all_from_yields_List is_kind _ _ _ c.all.ensures.ran (YieldsList-from_slice c.args.rest.now cc) (λ x b q k. search (rules, tests)) in
    sym (rest_told _ _ (sym c.if-all.true ∙ told))

pub returns-else-all : goal.returns-else-all
unfolding number_of
returns-else-all c =
    let told : c.all.result ≡ list_all is_kind c.args.rest.now = all_from_yields_List is_kind _ _ _ c.all.ensures.ran (YieldsList-from_slice c.args.rest.now cc) (λ x b q k. search (rules, tests)) in
    sym (rest_told _ _ (sym c.if-all.false ∙ told))
