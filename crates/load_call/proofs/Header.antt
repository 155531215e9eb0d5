-- The header, written over the front of other words one word after the other. Assumes nothing.
use mathlib.Core.Path.{◌≡◌}
use mathlib.Core.List.{List}
use Prim.Native.Nat.{ℕ, ◌≤◌}
use lib.ListN.{length}
use lib.Seq.{sets}
use Rattle.store_types.specs.Layout.{header_words, header_list}
use Rattle.lists.specs.Fronts.{in_front}
use Rattle.lists.proofs.Fronts.{sets_front}
use Rattle.load_call.specs.Header.{first_number, header_new}

pub header_written : (s r h n b first : ℕ) (ws : List ℕ) → header_words ≤ length ws → first ≡ first_number n →
    sets ws 0 (header_list s r h n first b 0) ≡ in_front (header_new s r h n b) ws
unfolding header_new
header_written s r h n b first ws l e = rw (← e) (sets_front (header_list s r h n first b 0) ws l)
