-- A file record by record, as the writer writes it, and the room that it needs. Assumes nothing: these are definitions.
use mathlib.Core.List.{List, map, flat_map}
use Rattle.std.specs.Prelude.{ℕ, ◌≤◌, length}
use Rattle.store_types.specs.FileLayout.{tag_kind, file_bytes}
use Rattle.calls.specs.Store.{Store, count}
use Rattle.calls.specs.Words.{Says}
use Rattle.calls.specs.File.{file_record, tag_row}
use Rattle.calls.specs.Replies.{said}

-- the records of a row of tags
unfoldable pub tag_records : Store → (tags : List ℕ) → List ℕ
tag_records st xs = flat_map (file_record tag_kind) (map (tag_row st) xs)

-- words that say a store, and bytes that have room for its file
pub record FileRoom (ws bs : List ℕ) : Type 0 where
  pub says : Says ws (said ws)
  pub room : file_bytes (count (said ws)) ≤ length bs
