-- However an input comes in pieces, the lines handed out are the input's. Assumes nothing.
use mathlib.Core.Path.{◌≡◌, refl, ap, sym, ◌∙◌}
use mathlib.Core.Bool.{Bool, true, false, cond}
use mathlib.Core.List.{List, [], ◌∷◌, ◌++◌, map, append_assoc, append-nil}
use Prim.Native.Nat.{ℕ, zero, suc, ◌≤◌}
use native.Mathlib.Omega.{arith}
use lib.Dec.{eqb}
use lib.ListN.{length, take, drop, length-drop}
use lib.Seq.{take_all, take-take}
use Rattle.lists.specs.Lists.{with_first}
use Rattle.line_reader.specs.Lines.{lines}
use Rattle.line_reader.specs.Gather.{stretch, has_feed}
use Rattle.line_reader.specs.Reads.{whole, last_line, in_hand, rest_of, Reads, ends, next, line}
use Rattle.line_reader.specs.Promise.{AnyPieces}
use Rattle.line_reader.proofs.Gathering.{take_more, take_short}

-- lines of which the first is begun
unfoldable pub behind : (held : List ℕ) → List (List ℕ) → List (List ℕ)
behind h [] = last_line h
behind h (l ∷ ls) = (h ++ l) ∷ ls

pub behind_none : (ls : List (List ℕ)) → behind [] ls ≡ ls
unfolding behind last_line
behind_none [] = refl
behind_none (l ∷ ls) = refl

behind_more : (h : List ℕ) (c : ℕ) (ls : List (List ℕ)) → behind h (with_first c ls) ≡ behind (h ++ (c ∷ [])) ls
unfolding behind last_line with_first
behind_more [] c [] = refl
behind_more (x ∷ h) c [] = refl
behind_more h c (l ∷ ls) = ap (λ k. k ∷ ls) (sym (append_assoc h (c ∷ []) l))

-- what a buffer lets go is let go of the line in any case
behind_kept : (m : ℕ) (h : List ℕ) (ls : List (List ℕ)) → map (take (suc m)) (behind (take (suc m) h) ls) ≡ map (take (suc m)) (behind h ls)
unfolding behind last_line
behind_kept m [] [] = refl
behind_kept m (c ∷ h) [] = ap (λ k. (c ∷ k) ∷ []) (take-take m m h (omega arith))
behind_kept m h (l ∷ ls) = ap (λ k. k ∷ map (take (suc m)) ls) (take_more (suc m) h l)

-- A PIECE with a line feed, and one without
pub feed_lines : (p rest : List ℕ) → has_feed p ≡ true → lines (p ++ rest) ≡ stretch p ∷ lines (rest_of p ++ rest)
unfolding has_feed stretch lines with_first
feed_lines [] rest e = absurd (let z : ◌≡◌ {A = ℕ} 0 1 = cc in omega arith)
feed_lines (c ∷ p) rest e = go (eqb c 10) e (feed_lines p rest)
  where
    go : (t : Bool) → cond t true (has_feed p) ≡ true → (has_feed p ≡ true → lines (p ++ rest) ≡ stretch p ∷ lines (rest_of p ++ rest)) →
        cond t ([] ∷ lines (p ++ rest)) (with_first c (lines (p ++ rest))) ≡ cond t [] (c ∷ stretch p) ∷ lines (drop (suc (length (cond t [] (c ∷ stretch p)))) (c ∷ p) ++ rest)
    go true e more = refl
    go false e more = rw (more e)

pub plain_lines : (h p rest : List ℕ) → has_feed p ≡ false → behind h (lines (p ++ rest)) ≡ behind (h ++ stretch p) (lines rest)
unfolding has_feed stretch lines
plain_lines h [] rest e = rw (append-nil h)
plain_lines h (c ∷ p) rest e = go (eqb c 10) e (plain_lines (h ++ (c ∷ [])) p rest)
  where
    go : (t : Bool) → cond t true (has_feed p) ≡ false → (has_feed p ≡ false → behind (h ++ (c ∷ [])) (lines (p ++ rest)) ≡ behind ((h ++ (c ∷ [])) ++ stretch p) (lines rest)) →
        behind h (cond t ([] ∷ lines (p ++ rest)) (with_first c (lines (p ++ rest)))) ≡ behind (h ++ cond t [] (c ∷ stretch p)) (lines rest)
    go true e more = absurd (let z : ◌≡◌ {A = ℕ} 0 1 = cc in omega arith)
    go false e more = behind_more h c (lines (p ++ rest)) ∙ more e ∙ ap (λ k. behind k (lines rest)) (append_assoc h (c ∷ []) (stretch p))

-- ANY PIECES, from any line in hand on
last_kept : (n : ℕ) (h : List ℕ) → length h ≤ n → last_line h ≡ map (take n) (behind h [])
unfolding behind last_line
last_kept n [] l = refl
last_kept n (c ∷ h) l = ap (λ k. k ∷ []) (sym (take_all n (c ∷ h) l))

from_held : {m : ℕ} {h : List ℕ} {ps ls : List (List ℕ)} → Reads (suc m) h ps ls → length h ≤ suc m → ls ≡ map (take (suc m)) (behind h (lines (whole ps)))
unfolding whole lines behind
from_held {m} {h} ends l = last_kept (suc m) h l
from_held {m} (next {h = h} {p = p} {ps = ps} e r) l =
    from_held r (take_short (suc m) (h ++ stretch p)) ∙
    behind_kept m (h ++ stretch p) (lines (whole ps)) ∙
    ap (λ k. map (take (suc m)) k) (sym (plain_lines h p (whole ps) e))
from_held {m} (line {h = h} {p = p} {ps = ps} {ls = ls} e r) l =
    let later : ls ≡ map (take (suc m)) (lines (rest_of p ++ whole ps)) = from_held r (omega arith) ∙ ap (λ k. map (take (suc m)) k) (behind_none (lines (rest_of p ++ whole ps))) in
    ap (λ k. in_hand (suc m) h p ∷ k) later ∙ ap (λ k. map (take (suc m)) (behind h k)) (sym (feed_lines p (whole ps) e))

handed_out : (n : ℕ) → 1 ≤ n → (ps ls : List (List ℕ)) → Reads n [] ps ls → ls ≡ map (take n) (lines (whole ps))
handed_out zero l ps ls r = absurd (omega arith)
handed_out (suc m) l ps ls r = from_held r (omega arith) ∙ ap (λ k. map (take (suc m)) k) (behind_none (lines (whole ps)))

-- EVERY INPUT IS READ. Behind a line feed a piece is shorter
shorter : (p : List ℕ) (k : ℕ) → has_feed p ≡ true → length p ≤ suc k → length (rest_of p) ≤ k
unfolding has_feed
shorter [] k e l = absurd (let z : ◌≡◌ {A = ℕ} 0 1 = cc in omega arith)
shorter (c ∷ p) k e l = omega (arith, length-drop (suc (length (stretch (c ∷ p)))) (c ∷ p))

module _ (n : ℕ) (ps : List (List ℕ)) (onward : (h : List ℕ) → (ls : List (List ℕ)) × Reads n h ps ls) where
  read_piece : (k : ℕ) (h p : List ℕ) → length p ≤ k → (ls : List (List ℕ)) × Reads n h (p ∷ ps) ls
  unfolding has_feed
  read_piece zero h [] l = let rest = onward (in_hand n h []) in (rest.0, next refl rest.1)
  read_piece zero h (c ∷ p) l = absurd (omega arith)
  read_piece (suc k) h p l = go (has_feed p) refl (λ e. read_piece k [] (rest_of p) (shorter p k e l))
    where
      go : (b : Bool) → has_feed p ≡ b → (has_feed p ≡ true → (ls : List (List ℕ)) × Reads n [] (rest_of p ∷ ps) ls) → (ls : List (List ℕ)) × Reads n h (p ∷ ps) ls
      go true e more = (in_hand n h p ∷ (more e).0, line e (more e).1)
      go false e more = ((onward (in_hand n h p)).0, next e (onward (in_hand n h p)).1)

read_all : (n : ℕ) (ps : List (List ℕ)) (h : List ℕ) → (ls : List (List ℕ)) × Reads n h ps ls
read_all n [] h = (last_line h, ends)
read_all n (p ∷ ps) h = read_piece n ps (λ k. read_all n ps k) (length p) h p (omega arith)

pub any_pieces : AnyPieces
any_pieces n l ps ls = (
  handed_out n l ps ls,
  λ e. let all = read_all n ps [] in rw (e ∙ sym (handed_out n l ps all.0 all.1)) all.1,
)
