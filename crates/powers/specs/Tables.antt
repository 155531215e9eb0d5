-- Tables by height: powers of a base up to a height, from which the widths of labels, the least leaves of a node and its limit
-- are made. Assumes nothing: these are definitions.
use Rattle.std.specs.Prelude.{◌≡◌, cond, List, [], ◌∷◌, ◌++◌, Option, Some, None, ℕ, zero, suc, ◌*◌, ◌-◌, ◌^◌, ◌≤◌, ◌<◌, eqb, ltb, length, get_or, replicate}
use Rattle.std.specs.Option.{ForSome}
use Rattle.calls.specs.Store.{power_fits}

abbrev pub entry : List ℕ → (h : ℕ) → ℕ
entry t h = get_or t h 0

-- every table by height has so many entries, which is more than a sound store has heights (most_levels)
abbrev pub table_length : ℕ
table_length = 24

-- so their last entry is of this height, and where it is a root's, its children have the one below
abbrev pub table_top : ℕ
table_top = table_length - 1

abbrev pub table_under : ℕ
table_under = table_length - 2

-- v, v times b, .. : count numbers; and a table, of which the entries up to a height are used
unfoldable pub powers : (v b count : ℕ) → List ℕ
powers v b zero = []
powers v b (suc m) = v ∷ powers (v * b) b m

unfoldable pub table : (v b top : ℕ) → List ℕ
table v b top = powers v b (suc top) ++ replicate (table_length - suc top) 0

-- no entry passes 2^40, so that a sum or a double of entries fits 64 bits
abbrev pub entry_limit : ℕ
entry_limit = 1099511627776

pub record TableFits (v b top : ℕ) : Type 0 where
  pub height : top < table_length
  pub grows : 1 ≤ b
  pub last : v * b ^ top ≤ entry_limit

-- POWERS FROM A TABLE (document 02, CR 2): the degree that s and r both are, which picks the table, none where they differ; and
-- what powers by height are with a degree: those from 1 on of its pair's base
abbrev pub shared_degree : (s r : ℕ) → Option ℕ
shared_degree s r = cond (eqb s r) (Some s) None

abbrev pub OfDegree : (degree : Option ℕ) (v b : ℕ) → Type 0
OfDegree degree v b = ForSome degree (λ d. 2 ≤ d → (v ≡ 1) × (b ≡ d * d - 1))

-- what stands in the table of a degree: powers by height, as many as it has, and where it has any, their number says which heights
-- of the pair fit
pub record Known (degree : Option ℕ) (t : List ℕ) : Type 0 where
  pub powers_are : (v b : ℕ) → OfDegree degree v b → t ≡ powers v b (length t)
  pub count_is : (s r : ℕ) → degree ≡ shared_degree s r → 1 ≤ length t → (h : ℕ) → ltb h (length t) ≡ power_fits s r h
