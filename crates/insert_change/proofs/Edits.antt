-- The edit that the code makes step by step is that of a plan. Assumes nothing.
use mathlib.Core.Path.{◌≡◌, refl, ◌∙◌}
use mathlib.Core.List.{List, map}
use Prim.Native.Nat.{ℕ, ◌-◌}
use lib.ListN.{length}
use Rattle.shape.specs.Packed.{widths_in, s_in, r_in}
use Rattle.shape.specs.declared.Tables as by_height
use Rattle.calls.specs.Kind.{kind_of}
use Rattle.edit_model.specs.Relabel.{issued}
use Rattle.edit_model.specs.Insert.{Plan, facts_at, added_row, raised_words, applied}
use Rattle.insert_plan.specs.Needs.{Applicable}
use Rattle.insert_change.specs.Parts.{row_put, put_edit}
use Rattle.insert_change.specs.Needs.{Edits, PutFits}

-- the new tags are in, and H is raised
module _ (ws cs : List ℕ) (t : by_height.Tables) (n y : ℕ) (p : Plan) {vs us : List ℕ} (added : vs ≡ added_row ws n y (facts_at ws n y (map kind_of cs))) (raised : us ≡ raised_words vs p.height) where
  put_row : us ≡ row_put ws cs n y p
  unfolding row_put
  put_row = raised ∙ rw added

  pub put_applies : PutFits ws cs n y p t → Applicable us p t
  put_applies fits = rw put_row fits.plan

  -- the plan is done
  pub put_done : {xs : List ℕ} {m d k : ℕ} → xs ≡ (applied us (widths_in t) (s_in t) (r_in t) (issued us) p).words → m ≡ (applied us (widths_in t) (s_in t) (r_in t) (issued us) p).moved → k ≡ length cs → d ≡ m - k →
      Edits xs d p.height (put_edit ws cs n y p t)
  unfolding put_edit
  put_done words moved many less = record { words_are = words ∙ rw put_row; moved_is = less ∙ rw (moved, many, put_row); split_is = refl }
