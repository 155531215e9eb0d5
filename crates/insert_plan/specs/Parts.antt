-- Parts of the plans that single functions of this crate compute. Assumes nothing: these are definitions.
use Rattle.std.specs.Prelude.{cond, List, ℕ, ◌+◌, eqb}
use Rattle.store_types.specs.Limits.{no_tag}
use Rattle.store_types.specs.Layout.{label_at}
use Rattle.powers.specs.Tables.{entry}
use Rattle.shape.specs.Packed.{widths_in, highs_in, s_in, r_in}
use Rattle.shape.specs.declared.Tables as by_height
use Rattle.shape.specs.Sums.{cut}
use Rattle.edit_model.specs.Split.{Border, highest_full, left_border}
use Rattle.edit_model.specs.Insert.{Plan, numbers_at, plain_plan, split_plan}
use Rattle.splits.specs.declared.Border as border_code
use Rattle.insert_plan.specs.declared.Plan as code

-- PLANS AND BORDERS: the structs of the code as the records of the mirror
unfoldable pub plan_record : code.Plan → Plan
plan_record p =
    record { height = p.height; left = p.left.0; number = p.number; count = p.count; cursor = p.cursor; rest = p.rest; bound = p.bound; by = p.by }

unfoldable pub border_record : border_code.Border → Border
border_record b = record { tag = b.tag.0; steps = b.steps }

-- the number behind a place
unfoldable pub next_label : List ℕ → (place width : ℕ) → ℕ
next_label ws y width = cond (eqb y no_tag) 0 (cut (label_at ws y + width))

-- the plan where the root does not come to its limit: the highest ancestor that does is split, or none
unfoldable pub inner_plan : List ℕ → (tables : by_height.Tables) → (sizes : List ℕ) → (n k under place : ℕ) → Plan
inner_plan ws t sz n k u y =
    let h = highest_full (highs_in t) sz k u 1 0 in
    let ns = numbers_at ws (widths_in t) u y in
    cond (eqb h 0) (plain_plan ws (widths_in t) k u y)
    (split_plan (s_in t) (r_in t) (widths_in t) ns h (entry sz h) k (left_border n n ws (entry ns h) y))
