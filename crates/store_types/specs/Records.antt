-- The kinds of a file's records by their numbers (document 02, CR 3). Assumes nothing: these are definitions.
use Rattle.std.specs.Prelude.{ℕ}
use Rattle.store_types.specs.FileLayout.{header_kind, tag_kind, end_kind}
use Rattle.store_types.specs.declared.file.RecordKind.{RecordKind}
use Rattle.store_types.specs.declared.file.RecordKind.TheVariants.{Header, Tag, End}

abbrev pub record_number : RecordKind → ℕ
record_number Header = header_kind
record_number Tag = tag_kind
record_number End = end_kind
