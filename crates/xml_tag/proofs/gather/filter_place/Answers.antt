-- `xml_tag::filter_place` meets its contract: the sums are those of bytes. Assumes nothing.
use borrow.Author.Rules.{rules}
use Rattle.xml_tag.specs.Filter.{filter_place}
use Rattle.xml_tag.proofs.gather.filter_place.Goals as goal

pub returns : goal.returns
unfolding filter_place
returns c = rw (c.from-first.ensures, c.from-last.ensures) (search rules)
