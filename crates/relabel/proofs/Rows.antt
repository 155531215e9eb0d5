-- Labels written along next: the row stays, and how far a loop that writes them has come. Assumes nothing.
use mathlib.Core.Path.{◌≡◌, refl, ap, sym, ◌∙◌}
use mathlib.Core.Bool.{Bool, true, false, cond}
use mathlib.Core.List.{List, [], ◌∷◌, ◌++◌}
use Prim.Native.Nat.{ℕ, zero, suc, ◌+◌, ◌-◌, ◌≤◌, ◌<◌}
use native.Mathlib.Nat.{zero-add, add-zero, suc-add}
use native.Mathlib.Omega.{arith}
use lib.Dec.{leb, eqb}
use lib.ListN.{length, take, drop, take-append-drop}
use Rattle.store_types.specs.Limits.{label_limit}
use Rattle.store_types.specs.Layout.{at_next, at_kind, field, label_at, with_label, Room}
use Rattle.words.proofs.Fields.{room_same, field_past_label, length_with_label}
use Rattle.tree.specs.Forest.{labels, leaf_row}
use Rattle.calls.specs.Words.{follow}
use Rattle.shape.specs.Sums.{cut}
use Rattle.shape.proofs.Sums.{cut_small, cut_below, labels_cut}
use Rattle.edit_model.specs.Relabel.{Relabelled, counts_moved, relabel, along}
use Rattle.relabel.specs.Needs.{RowThere, RowNumbered, leaves_numbered}

-- THE ROW is the same by words in which each tag has the same next
abbrev pub SameNext : (ws vs : List ℕ) → Type 0
SameNext ws vs = (y : ℕ) → field ws y at_next ≡ field vs y at_next

pub follow_same : (k : ℕ) (ws vs : List ℕ) (x : ℕ) → SameNext ws vs → follow k ws x ≡ follow k vs x
unfolding follow
follow_same zero ws vs x same = refl
follow_same (suc k) ws vs x same = rw (same x, follow_same k ws vs (field vs x at_next) same)

pub along_same : (k : ℕ) (ws vs : List ℕ) (x : ℕ) → SameNext ws vs → along k ws x ≡ along k vs x
unfolding along
along_same zero ws vs x same = refl
along_same (suc k) ws vs x same = rw (same x) (along_same k ws vs (field vs x at_next) same)

pub label_keeps_next : (ws : List ℕ) (x l : ℕ) → SameNext (with_label ws x l) ws
label_keeps_next ws x l y = field_past_label ws x y l at_next (omega arith) (omega arith)

pub relabel_keeps_next : (xs ls ws : List ℕ) → SameNext (relabel xs ls ws).words ws
unfolding relabel
relabel_keeps_next [] ls ws y = refl
relabel_keeps_next (x ∷ xs) [] ws y = refl
relabel_keeps_next (x ∷ xs) (l ∷ ls) ws y = relabel_keeps_next xs ls (with_label ws x l) y ∙ label_keeps_next ws x l y

-- SO MANY TAGS of a row, and those behind them
pub take_follow : (e d : ℕ) (ws : List ℕ) (x : ℕ) → take e (follow (e + d) ws x) ≡ follow e ws x
unfolding follow
take_follow zero d ws x = refl
take_follow (suc e) d ws x = rw (suc-add, take_follow e d ws (field ws x at_next))

pub drop_follow : (e d : ℕ) (ws : List ℕ) (x : ℕ) → drop e (follow (e + d) ws x) ≡ follow d ws (along e ws x)
unfolding follow along
drop_follow zero d ws x = rw zero-add
drop_follow (suc e) d ws x = rw suc-add (drop_follow e d ws (field ws x at_next))

pub follow_add : (e d : ℕ) (ws : List ℕ) (x : ℕ) → follow (e + d) ws x ≡ follow e ws x ++ follow d ws (along e ws x)
follow_add e d ws x = sym (take-append-drop e (follow (e + d) ws x)) ∙ rw (take_follow, drop_follow)

pub along_add : (e d : ℕ) (ws : List ℕ) (x : ℕ) → along (e + d) ws x ≡ along d ws (along e ws x)
unfolding along
along_add zero d ws x = rw zero-add
along_add (suc e) d ws x = rw suc-add (along_add e d ws (field ws x at_next))

-- NEW LABELS: none, and how many may be others
pub relabel_none : (xs ws : List ℕ) → relabel xs [] ws ≡ record { words = ws; moved = 0 }
unfolding relabel
relabel_none [] ws = refl
relabel_none (x ∷ xs) ws = refl

pub moved_one : (ws : List ℕ) (x l : ℕ) → counts_moved ws x l ≤ 1
unfolding counts_moved
moved_one ws x l = at_most (leb 16 (field ws x at_kind)) (eqb (label_at ws x) l)
  where
    at_most : (marked same : Bool) → cond marked 0 (cond same 0 1) ≤ 1
    at_most true same = omega arith
    at_most false true = omega arith
    at_most false false = omega arith

pub moved_most : (xs ls ws : List ℕ) → (relabel xs ls ws).moved ≤ length xs
unfolding relabel
moved_most [] ls ws = omega arith
moved_most (x ∷ xs) [] ws = omega arith
moved_most (x ∷ xs) (l ∷ ls) ws = omega (arith, moved_one ws x l, moved_most xs ls (with_label ws x l))

-- leaves take the width of height 0
pub leaf_widths : (xs : List ℕ) (u v : ℕ → ℕ) (a : ℕ) → u 0 ≡ v 0 → labels (leaf_row xs) u 0 a ≡ labels (leaf_row xs) v 0 a
unfolding leaf_row labels
leaf_widths [] u v a e = refl
leaf_widths (x ∷ xs) u v a e = rw (e, leaf_widths xs u v (a + v 0) e)

-- A LOOP ON ITS WAY: it has come to a tag with so many left; what it does from here, `rest`, with what it has counted as
-- moved, comes to the whole
pub record OnWay (whole rest : Relabelled) (before ws : List ℕ) (first count tag left at done : ℕ) : Type 0 where
  pub row : RowThere ws tag left
  pub number : at < label_limit
  pub counted : done + left ≤ count
  pub words : rest.words ≡ whole.words
  pub moved : done + rest.moved ≡ whole.moved
  pub behind : along left ws tag ≡ along count before first
  pub long : length ws ≡ length before

-- the tag where it stands has a record
pub tag_room : {ws : List ℕ} {x count : ℕ} → RowThere ws x count → 1 ≤ count → Room ws x
unfolding along
tag_room h some = h.there 0 some

pub start : (q : Relabelled) (ws : List ℕ) (x count a : ℕ) → RowThere ws x count → a < label_limit → OnWay q q ws ws x count x count a 0
start q ws x count a row small =
    record { row = row; number = small; counted = omega arith; words = refl; moved = omega arith; behind = refl; long = refl }

-- so many tags further, of which m held another label
module _ {whole rest : Relabelled} {before ws : List ℕ} {first count tag left at done : ℕ}
    (h : OnWay whole rest before ws first count tag left at done)
    (further : Relabelled) (vs : List ℕ) (size m next here : ℕ) where
  pub on : size ≤ left → m ≤ size → here < label_limit → next ≡ along size ws tag → SameNext vs ws → length vs ≡ length ws →
      further.words ≡ rest.words → m + further.moved ≡ rest.moved →
      OnWay whole further before vs first count next (left - size) here (done + m)
  on fits few small step same long words moved =
      let all : size + (left - size) ≡ left = omega arith in
      let move : (i : ℕ) → along i vs next ≡ along (size + i) ws tag = λ i. along_same i vs ws next same ∙ rw step (sym (along_add size i ws tag)) in
      record {
        row =
            record {
              most = omega (arith, h.row.most);
              there = λ i l. rw (move i) (room_same (h.row.there (size + i) (omega arith)) long);
            };
        number = small;
        counted = omega (arith, h.counted);
        words = words ∙ h.words;
        moved = omega (arith, h.moved);
        behind = move (left - size) ∙ rw all h.behind;
        long = long ∙ h.long;
      }

-- at its end nothing is left to do
pub arrived : {whole rest : Relabelled} {before ws : List ℕ} {first count tag left at done : ℕ} →
    OnWay whole rest before ws first count tag left at done → left ≡ 0 → rest ≡ record { words = ws; moved = 0 } →
    RowNumbered before ws whole first count tag done
unfolding along
arrived h none nothing =
    record {
      words = sym (ap (λ (q : Relabelled). q.words) nothing) ∙ h.words;
      moved = sym (add-zero _) ∙ (rw nothing at h.moved);
      next = rw none at h.behind;
    }

-- LEAVES one by one
pub leaves_turn : (ws : List ℕ) (v a x k : ℕ) →
    leaves_numbered ws v a x (suc k)
    ≡ record {
      words = (leaves_numbered (with_label ws x (cut a)) v (cut (a + v)) (field ws x at_next) k).words;
      moved = counts_moved ws x (cut a) + (leaves_numbered (with_label ws x (cut a)) v (cut (a + v)) (field ws x at_next) k).moved;
    }
unfolding leaves_numbered follow leaf_row labels relabel
leaves_turn ws v a x k =
    rw (follow_same k (with_label ws x (cut a)) ws (field ws x at_next) (label_keeps_next ws x (cut a)), labels_cut (leaf_row (follow k ws (field ws x at_next))) (λ i. v) 0 (a + v))
    refl

-- a number that is a label is written as it is
pub leaf_on : {whole : Relabelled} {before ws : List ℕ} {first count tag left at done : ℕ} (v : ℕ) →
    OnWay whole (leaves_numbered ws v at tag left) before ws first count tag left at done → 1 ≤ left → (vs : List ℕ) (m next : ℕ) →
    vs ≡ with_label ws tag at → m ≡ counts_moved ws tag at → next ≡ field vs tag at_next →
    OnWay whole (leaves_numbered vs v (cut (at + v)) next (left - 1)) before vs first count next (left - 1) (cut (at + v)) (done + m)
unfolding along
leaf_on {ws = ws} {tag = tag} {left = left} {at = at} v h some vs m next e f g =
    let same : SameNext vs ws = rw e (label_keeps_next ws tag at) in
    let step : next ≡ field ws tag at_next = g ∙ same tag in
    let all : suc (left - 1) ≡ left = omega arith in
    let turn = rw (all, cut_below at h.number) at (leaves_turn ws v at tag (left - 1)) in
    on h (leaves_numbered vs v (cut (at + v)) next (left - 1)) vs 1 m next (cut (at + v))
    some
    (rw f (moved_one ws tag at))
    (cut_small (at + v))
    step
    same
    (rw e (length_with_label ws tag at))
    (rw (step, e) (rw turn))
    (rw (step, f, e) (rw turn))

pub leaves_end : (ws : List ℕ) (v a x left : ℕ) → left ≡ 0 → leaves_numbered ws v a x left ≡ record { words = ws; moved = 0 }
unfolding leaves_numbered follow relabel
leaves_end ws v a x left none = rw none
