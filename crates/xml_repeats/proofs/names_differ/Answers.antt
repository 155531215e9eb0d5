-- `xml_repeats::names_differ` meets its contract, by the noted places or in batches. Assumes nothing.
use Rattle.xml_repeats.proofs.Batching.{met_begun, met_told, met_chained}
use Rattle.xml_repeats.proofs.names_differ.Goals as goal

pub arrange-requires : goal.arrange-requires
arrange-requires c = met_begun c.requires c.if-count-le-PLACES.true

pub returns-then-count-le-PLACES : goal.returns-then-count-le-PLACES
returns-then-count-le-PLACES c = met_told c.requires c.if-count-le-PLACES.true c.arrange.ensures

pub differ_in_batches-requires : goal.differ_in_batches-requires
differ_in_batches-requires c = met_chained c.requires
