-- What content comes to where it is the whole text. Assumes nothing: these are definitions.
use Rattle.std.specs.Prelude.{◌≡◌, cond, List, ℕ, ltb, length, Result, Ok, Err}
use Rattle.std.proofs.lemmas.List.Edits.{sets}
use Rattle.xml.specs.Reader.{Reading, accepted, refused, read_sheet}
use Rattle.store_types.specs.declared.refusal.Refusal.{Refusal}
use Rattle.store_types.specs.declared.refusal.Refusal.TheVariants.{NotASheet}
use Rattle.store_types.specs.Replies.{numbered}
use Rattle.xml_pieces.specs.Outcome.{Part}

unfoldable pub whole_part : (text : List ℕ) → Part → Result ℕ Refusal
whole_part bs (Ok c) = cond (ltb c.at (length bs)) (Err NotASheet) (Ok c.count)
whole_part bs (Err r) = Err r

-- the whole text: the count or the refusal, whatever the list; and the list, where the text is accepted
unfoldable pub whole_reply : Reading → Result ℕ ℕ
whole_reply (accepted ks) = Ok (length ks)
whole_reply (refused k) = Err k

pub record ReadWhole (bs ls ls' : List ℕ) (q : Result ℕ Refusal) : Type 0 where
  pub reply : numbered q ≡ whole_reply (read_sheet bs)
  pub list : (ks : List ℕ) → read_sheet bs ≡ accepted ks → ls' ≡ sets ls 0 ks
  pub long : length ls' ≡ length ls
