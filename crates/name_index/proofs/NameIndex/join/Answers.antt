-- `NameIndex::join` meets its contract, by the search and the two insertions. Assumes nothing.
use lib.ListN.{get_or}
use Rattle.name_index.proofs.NameEnds.{end_within}
use Rattle.name_index.proofs.Joining.{searched_entry, joined_new, joined_not}
use Rattle.name_index.proofs.NameIndex.join.Goals as goal

pub slice_bounds-search-end : goal.slice_bounds-search-end
slice_bounds-search-end c = end_within c.args.text.now (get_or c.args.self.now.starts c.args.count 0) c.name_end-b.ensures c.requires.entry.within

pub returns-then-sought : goal.returns-then-sought
returns-then-sought c =
    joined_not c.requires (searched_entry _ _ _ _ c.name_end-b.ensures c.search-sought.ensures) c.if-sought.true

pub returns : goal.returns
returns c =
    joined_new c.requires (searched_entry _ _ _ _ c.name_end-b.ensures c.search-sought.ensures) c.if-sought.false c.insert.ensures c.insert-2.ensures
