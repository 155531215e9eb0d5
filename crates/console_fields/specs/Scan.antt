-- What the functions of this crate find in a line, as functions on lists. Assumes nothing: these are definitions.
use Rattle.std.specs.Prelude.{cond, List, [], ◌∷◌, ℕ, suc, ◌+◌, ◌*◌, ◌-◌, ltb, eqb, Option, Some, None}
use Rattle.store_types.specs.Limits.{word_limit}
use Rattle.console_fields.specs.Field.{is_digit}

-- how many bytes stand before the first space; all where there is none
unfoldable pub first_space : List ℕ → ℕ
first_space [] = 0
first_space (c ∷ cs) = let rest = first_space cs in cond (eqb c 32) 0 (suc rest)

-- digits from a value so far on, as long as it fits a word
unfoldable pub scanned : (so_far : ℕ) → List ℕ → Option ℕ
scanned v [] = Some v
scanned v (c ∷ cs) =
    let next = v * 10 + (c - 48) in
    let rest = scanned next cs in
    cond (is_digit c) (cond (ltb next word_limit) rest None) None
