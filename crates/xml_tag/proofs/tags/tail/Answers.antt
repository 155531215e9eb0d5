-- `xml_tag::tail` meets its contract: by what the pass tells, and where names are looked at by whether they differ. Assumes nothing.
use mathlib.Core.Path.{sym, ◌∙◌}
use Rattle.xml_tag.proofs.GatherSteps.{closed_whole, closed_broken}
use Rattle.xml_tag.proofs.tags.tail.Goals as goal
use Rattle.xml_tag.proofs.tags.tail.Goals.{else-tag-via-then-tag+else-not-names_differ, else-tag-via-else-tag}

pub returns-then-not-names_differ : goal.returns-then-not-names_differ
returns-then-not-names_differ c =
    let h = c.in_ok-tag.ensures in
    closed_broken h (sym (c.names_differ.ensures _ h.met.chain) ∙ c.if-not-names_differ.true)

pub returns : goal.returns
returns c =
    let h = c.in_ok-tag.ensures in
    closed_whole h
    (elim c.else-tag.branch [
      | else-tag-via-then-tag+else-not-names_differ w ↦ sym (w.names_differ.ensures _ h.met.chain) ∙ w.if-not-names_differ.false
      | else-tag-via-else-tag w ↦ h.apart w.if-tag.false
    ])
