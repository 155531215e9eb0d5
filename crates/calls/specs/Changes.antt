-- The changes of a store, load, insert, the insertion of a sheet and mark: what each refuses and what lists of them leave (document
-- 01, "The bare list"; document 02, CR 5, for sheets). Assumes nothing: these are definitions.
use Rattle.std.specs.Prelude.{Bool, cond, List, [], ◌∷◌, map, ℕ, ◌+◌, ◌<◌, eqb}
use Rattle.store_types.specs.Limits.{word_limit}
use Rattle.calls.specs.Kind.{kind_of}
use Rattle.calls.specs.Store.{Store}
use Rattle.calls.specs.Load.{load_refusal, load_store}
use Rattle.calls.specs.Insert.{insert_kinds, insert_refusal, insert_store, insert_moved, insert_sheet_refusal, insert_sheet_store}
use Rattle.calls.specs.Mark.{section_refusal, mark_store}

-- their arguments are words, and kinds are bytes. A sheet is a whole row of kinds at one place
pub data Change : Type 0 where
  load : (s r number : ℕ) → (kinds : List ℕ) → Change
  insert : (kind place : ℕ) → Change
  sheet : (kinds : List ℕ) → (place : ℕ) → Change
  mark : (section : ℕ) → Change

-- where so many words are lent: the refusal of a change, the store after it, and after a list of changes
unfoldable pub refusal : (lent : ℕ) → Change → Store → ℕ
refusal lent (load s r b cs) st = load_refusal lent s r cs
refusal lent (insert c y) st = insert_refusal lent c y st
refusal lent (sheet cs y) st = insert_sheet_refusal lent cs y st
refusal lent (mark x) st = section_refusal x st

unfoldable pub changed : Change → Store → Store
changed (load s r b cs) st = load_store s r b cs
changed (insert c y) st = insert_store (insert_kinds c) y st
changed (sheet cs y) st = insert_sheet_store (map kind_of cs) y st
changed (mark x) st = mark_store x st

unfoldable pub accepts : (lent : ℕ) → Change → Store → Bool
accepts lent c st = eqb (refusal lent c st) 0

unfoldable pub after_one : (lent : ℕ) → Change → Store → Store
after_one lent c st = cond (accepts lent c st) (changed c st) st

unfoldable pub after : (lent : ℕ) → List Change → Store → Store
after lent [] st = st
after lent (c ∷ cs) st = after lent cs (after_one lent c st)

-- whether the book numbers of loads, accepted or not, are words (u32 in the entries themselves); no statement but one on
-- the store's own number asks for it
unfoldable pub Fits : Change → Type 0
Fits (load s r b cs) = b < word_limit
Fits (insert c y) = Unit {0}
Fits (sheet cs y) = Unit {0}
Fits (mark x) = Unit {0}

unfoldable pub AllFit : List Change → Type 0
AllFit [] = Unit {0}
AllFit (c ∷ cs) = Fits c × AllFit cs

-- T: the moved numbers of accepted insertions, of sheets too, since the last accepted load
unfoldable pub moved_by : Change → Store → (total : ℕ) → ℕ
moved_by (load s r b cs) st t = 0
moved_by (insert c y) st t = t + insert_moved (insert_kinds c) y st
moved_by (sheet cs y) st t = t + insert_moved (map kind_of cs) y st
moved_by (mark x) st t = t

unfoldable pub moved_after : (lent : ℕ) → List Change → Store → (total : ℕ) → ℕ
moved_after lent [] st t = t
moved_after lent (c ∷ cs) st t = moved_after lent cs (after_one lent c st) (cond (accepts lent c st) (moved_by c st t) t)

-- what the reference list is fed: a change that is asked for, and whether it is accepted; by the definitions, from a store on
abbrev pub Told : Type 0
Told = Change × Bool

unfoldable pub judged : (lent : ℕ) → List Change → Store → List Told
judged lent [] st = []
judged lent (c ∷ cs) st = (c, accepts lent c st) ∷ judged lent cs (after_one lent c st)
