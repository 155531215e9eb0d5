-- What the functions of this crate ask of their callers, and what edits leave. Assumes nothing: these are definitions.
use Rattle.std.specs.Prelude.{◌≡◌, List, ℕ, ◌≤◌, ◌<◌, length}
use Rattle.store_types.specs.Layout.{at_height, word_at}
use Rattle.shape.specs.declared.Tables as by_height
use Rattle.calls.specs.Replies.{insert_sheet_refused}
use Rattle.edit_model.specs.Insert.{Plan, Edited}
use Rattle.insert_link.specs.Needs.{NewRowFits}
use Rattle.insert_plan.specs.Needs.{Applicable}
use Rattle.insert_refuse.specs.Parts.{height_after}
use Rattle.insert_change.specs.Parts.{row_put}

-- EDITS: what the code leaves is what the mirror says
pub record Edits (after : List ℕ) (moved split : ℕ) (e : Edited) : Type 0 where
  pub words_are : after ≡ e.words
  pub moved_is : moved ≡ e.moved
  pub split_is : split ≡ e.split

-- new tags and a plan
pub record PutFits (ws cs : List ℕ) (n y : ℕ) (p : Plan) (tables : by_height.Tables) : Type 0 where
  pub row : NewRowFits ws cs n y
  pub plan : Applicable (row_put ws cs n y p) p tables

-- an accepted sheet that has tags
pub record Accepted (ws cs : List ℕ) (y : ℕ) : Type 0 where
  pub refusal : insert_sheet_refused cs y ws ≡ 0
  pub some : 1 ≤ length cs

-- which makes H rise
pub record Rises (ws cs : List ℕ) (top : ℕ) : Type 0 where
  pub top_is : top ≡ height_after ws (length cs)
  pub higher : word_at ws at_height < top
