-- What reading a tag's record asks. Assumes nothing: these are definitions.
use Rattle.std.specs.Prelude.{◌≡◌, List, ℕ, ◌<◌, length}
use Rattle.store_types.specs.FileLayout.{file_bytes}
use Rattle.calls.specs.File.{count_in}

-- bytes as long as the file of the tags that their header says, and the i-th of these
pub record RowThere (bs : List ℕ) (i : ℕ) : Type 0 where
  pub long : length bs ≡ file_bytes (count_in bs)
  pub below : i < count_in bs
