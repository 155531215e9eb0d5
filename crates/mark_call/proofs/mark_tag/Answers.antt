-- `mark_call::mark_tag` meets its contract: a tag that is marked already stays, another is marked. Assumes nothing.
use Rattle.mark_call.proofs.Each.{mark_again, mark_first}
use Rattle.mark_call.proofs.mark_tag.Goals as goal

pub returns-then-kind-ge-MARK : goal.returns-then-kind-ge-MARK
returns-then-kind-ge-MARK c = let all = mark_again _ _ _ c.kind_of-kind.ensures c.if-kind-ge-MARK.true in record { new = all.0; words = all.1 }

pub returns : goal.returns
returns c =
    let all = mark_first _ _ _ _ c.kind_of-kind.ensures c.if-kind-ge-MARK.false c.set_kind.ensures in record { new = all.0; words = all.1 }
