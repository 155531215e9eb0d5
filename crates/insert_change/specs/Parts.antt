-- The edit that a plan makes. Assumes nothing: these are definitions.
use Rattle.std.specs.Prelude.{List, map, ℕ, ◌-◌, length}
use Rattle.shape.specs.Packed.{widths_in, s_in, r_in}
use Rattle.shape.specs.declared.Tables as by_height
use Rattle.calls.specs.Kind.{kind_of}
use Rattle.edit_model.specs.Relabel.{issued}
use Rattle.edit_model.specs.Insert.{Plan, Edited, facts_at, added_row, raised_words, applied}

-- tags of these kinds go in from number n on behind a place, and H is raised
unfoldable pub row_put : List ℕ → (kinds : List ℕ) → (n place : ℕ) → Plan → List ℕ
row_put ws cs n y p = raised_words (added_row ws n y (facts_at ws n y (map kind_of cs))) p.height

-- then what was planned is done
unfoldable pub put_edit : List ℕ → (kinds : List ℕ) → (n place : ℕ) → Plan → (tables : by_height.Tables) → Edited
put_edit ws cs n y p t =
    let vs = row_put ws cs n y p in
    let q = applied vs (widths_in t) (s_in t) (r_in t) (issued vs) p in
    record { words = q.words; moved = q.moved - length cs; split = p.height }
