-- `NameIndex::search` meets its contract, by what stands where the name would go. Assumes nothing.
use native.Mathlib.Omega.{arith}
use Rattle.name_index.proofs.Entries.{entry_of, search_none, search_told}
use Rattle.name_index.proofs.NameIndex.search.Goals as goal

pub returns-then-place-count : goal.returns-then-place-count
returns-then-place-count c =
    search_none c.requires _ _ c.hash-hash.ensures c.find-place.ensures c.if-place-count.true

pub compare_at-found-requires : goal.compare_at-found-requires
compare_at-found-requires c =
    entry_of c.requires (omega (arith, c.find-place.ensures.within))

pub returns : goal.returns
returns c =
    rw c.eq.ensures
    (search_told c.requires _ _ c.hash-hash.ensures c.find-place.ensures _ c.compare_at-found.ensures (omega (arith, c.find-place.ensures.within)))
