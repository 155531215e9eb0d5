-- Labels written along next. Follows the code of crates relabel and renumber. Assumes nothing: these are definitions.
use Rattle.std.specs.Prelude.{◌||◌, cond, List, [], ◌∷◌, ℕ, zero, suc, ◌+◌, leb, eqb}
use Rattle.shape.specs.Sums.{cut}
use Rattle.store_types.specs.Layout.{at_next, at_kind, at_count, field, label_at, with_label, word_at}

-- how many tags there are
abbrev pub issued : List ℕ → ℕ
issued ws = word_at ws at_count

-- the words afterwards, and how many unmarked tags held another label before
pub record Relabelled : Type 0 where
  pub words : List ℕ
  pub moved : ℕ

-- 1 for an unmarked tag that holds another label than this, else 0: the kind word of a marked tag is 16 or more
unfoldable pub counts_moved : List ℕ → (tag label : ℕ) → ℕ
counts_moved ws x l = cond (leb 16 (field ws x at_kind)) 0 (cond (eqb (label_at ws x) l) 0 1)

-- new labels for a row of tags
unfoldable pub relabel : (tags labels : List ℕ) → (words : List ℕ) → Relabelled
relabel [] ls ws = record { words = ws; moved = 0 }
relabel (x ∷ xs) [] ws = record { words = ws; moved = 0 }
relabel (x ∷ xs) (l ∷ ls) ws =
    let rest = relabel xs ls (with_label ws x l) in
    record { words = rest.words; moved = counts_moved ws x l + rest.moved }

-- the tag behind so many along next
unfoldable pub along : (steps : ℕ) → List ℕ → (tag : ℕ) → ℕ
along zero ws x = x
along (suc m) ws x = along m ws (field ws x at_next)

-- `by` is added to each label from a tag on, as long as the tag is one of n and its label is below
-- a bound; `most` bounds the steps
unfoldable pub shift : (most n : ℕ) → List ℕ → (tag bound by : ℕ) → Relabelled
shift zero n ws x bound by = record { words = ws; moved = 0 }
shift (suc m) n ws x bound by =
    let stays : Relabelled = record { words = ws; moved = 0 } in
    let label = cut (label_at ws x + by) in
    let rest = shift m n (with_label ws x label) (field ws x at_next) bound by in
    let goes : Relabelled = record { words = rest.words; moved = counts_moved ws x label + rest.moved } in
    cond (leb n x || leb bound (label_at ws x)) stays goes
