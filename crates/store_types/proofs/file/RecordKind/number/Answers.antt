use Rattle.std.proofs.Common.{◌≡◌, ◌+◌, refl}
use Rattle.store_types.specs.Records.{record_number}
use Rattle.store_types.specs.declared.file.RecordKind.{RecordKind}
use Rattle.store_types.specs.declared.file.RecordKind.TheVariants.{Header, Tag, End}
use Rattle.store_types.specs.contracts.file.RecordKind.{the_type}
use Rattle.store_types.proofs.file.RecordKind.number.Goals as goal

by_place : (k : RecordKind) → denote.Enum.Declared.tag_of the_type k + 1 ≡ record_number k
by_place Header = refl
by_place Tag = refl
by_place End = refl

pub returns : goal.returns
returns c = by_place c.args.self
