-- `NameIndex::has` meets its contract, by what the search told. Assumes nothing.
use Rattle.name_index.proofs.Entries.{told_among}
use Rattle.name_index.proofs.NameIndex.has.Goals as goal

pub returns : goal.returns
returns c = told_among c.search.ensures.told
