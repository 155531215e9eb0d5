-- Trees over a row numbered part by part: what is left behind each part. Assumes nothing.
use mathlib.Core.Path.{◌≡◌, refl, ap, sym, ◌∙◌}
use mathlib.Core.List.{List, ◌++◌, map, map-append, append-nil}
use Prim.Native.Nat.{ℕ, zero, suc, pred, ◌+◌, ◌*◌, ◌-◌, ◌/◌, ◌^◌, ◌≤◌, ◌<◌}
use native.Mathlib.Nat.{suc-mul, one-mul, add-zero, zero-div}
use native.Mathlib.Numerals.{sub-one}
use native.Mathlib.Omega.{arith}
use borrow.Author.Tests.{eqb-true, eqb-false}
use lib.Dec.{eqb}
use lib.ListN.{length, length-map}
use Rattle.lists.proofs.Tests.{by_test}
use Rattle.store_types.specs.Limits.{label_limit}
use Rattle.powers.specs.Tables.{entry}
use Rattle.tree.specs.Forest.{labels, spread, parts}
use Rattle.tree_laws.proofs.Labels.{length_labels}
use Rattle.tree_laws.proofs.Spread.{parts_none, parts_one, parts_more, spread_suc, leaves_below, parts_in, some_power, lower_power}
use Rattle.calls.specs.Words.{follow}
use Rattle.shape.specs.Packed.{lows_in, r_in}
use Rattle.shape.specs.declared.Tables as by_height
use Rattle.shape.specs.Sums.{cut}
use Rattle.shape.proofs.Sums.{cut_small, labels_cut}
use Rattle.edit_model.specs.Relabel.{Relabelled, relabel, along}
use Rattle.edit_model.proofs.Relabels.{relabel_append_words, relabel_append_moved}
use Rattle.relabel.specs.Needs.{RowThere, RowNumbered, leaves_numbered}
use Rattle.renumber.specs.Needs.{TreesFit, PartSize, trees_numbered}
use Rattle.calls_laws.proofs.Reader.{length_follow}
use Rattle.relabel.proofs.Rows.{SameNext, follow_same, relabel_keeps_next, take_follow, drop_follow, relabel_none, follow_add, moved_most, leaf_widths, OnWay, on}

-- so many parts of e tags over what is left of a row, each a tree of height j
unfoldable pub parts_numbered : (ws widths : List ℕ) → (r j e p a x left : ℕ) → Relabelled
parts_numbered ws w r j e p a x left =
    let xs = follow left ws x in relabel xs (map cut (labels (parts p e (λ ys. spread (pred j) r ys) xs) (entry w) j a)) ws

-- all of them, where there is one at least
pub parts_start : (ws w : List ℕ) (r j e a x count : ℕ) → 1 ≤ j → e ≡ r ^ j → trees_numbered ws w r j a x count ≡ parts_numbered ws w r j e (count / e) a x count
unfolding trees_numbered parts_numbered
parts_start ws w r zero e a x count low power = absurd (omega arith)
parts_start ws w r (suc i) e a x count low power =
    rw (spread_suc i r (count / r ^ suc i) (follow count ws x) (rw length_follow), power)

pub parts_end : (ws w : List ℕ) (r j e a x left : ℕ) → parts_numbered ws w r j e 0 a x left ≡ record { words = ws; moved = 0 }
unfolding parts_numbered labels
parts_end ws w r j e a x left = rw parts_none (relabel_none (follow left ws x) ws)

-- the last part is all that is left
last_part : (ws w : List ℕ) (r j e a x left : ℕ) → parts_numbered ws w r j e 1 a x left ≡ trees_numbered ws w r (pred j) a x left
unfolding parts_numbered trees_numbered labels
last_part ws w r j e a x left = rw (parts_one, append-nil)

-- one row after another, as one equation
pub relabel_joined : (xs ys ls ms ws : List ℕ) → length xs ≡ length ls →
    relabel (xs ++ ys) (ls ++ ms) ws
    ≡ record { words = (relabel ys ms (relabel xs ls ws).words).words; moved = (relabel xs ls ws).moved + (relabel ys ms (relabel xs ls ws).words).moved }
relabel_joined xs ys ls ms ws e =
    made (relabel (xs ++ ys) (ls ++ ms) ws) (relabel_append_words xs ys ls ms ws e) (relabel_append_moved xs ys ls ms ws e)
  where
    made : (q : Relabelled) {vs : List ℕ} {m : ℕ} → q.words ≡ vs → q.moved ≡ m → q ≡ record { words = vs; moved = m }
    made q e f = rw (← e, ← f) refl

-- another part is e tags
first_part : (ws w : List ℕ) (r j e k a x d : ℕ) → length (labels (spread (pred j) r (follow e ws x)) (entry w) (pred j) a) ≡ e →
    let q = trees_numbered ws w r (pred j) a x e in
    let further = parts_numbered q.words w r j e (suc k) (cut (a + entry w j)) (along e ws x) d in
    parts_numbered ws w r j e (suc (suc k)) a x (e + d) ≡ record { words = further.words; moved = q.moved + further.moved }
unfolding parts_numbered trees_numbered labels
first_part ws w r j e k a x d many =
    let xs = follow e ws x in
    let ys = follow d ws (along e ws x) in
    let f = spread (pred j) r xs in
    let g = parts (suc k) e (λ zs. spread (pred j) r zs) ys in
    let ls = map cut (labels f (entry w) (pred j) a) in
    let as_many : length xs ≡ length ls = length_follow e ws x ∙ sym (length-map (labels f (entry w) (pred j) a) cut ∙ many) in
    rw (
      parts_more,
      take_follow,
      drop_follow,
      follow_add e d ws x,
      map-append,
      relabel_joined xs ys ls (map cut (labels g (entry w) j (a + entry w j))) ws as_many,
      follow_same d (relabel xs ls ws).words ws (along e ws x) (relabel_keeps_next xs ls ws),
      labels_cut g (entry w) j (a + entry w j),
    )

-- how far the parts have come: each has its e tags, and none is left over
pub record PartsLeft (p e left : ℕ) : Type 0 where
  pub low : p * e ≤ left
  pub none : p ≡ 0 → left ≡ 0

pub all_parts : (e count : ℕ) → 1 ≤ e → e ≤ count → PartsLeft (count / e) e count
all_parts e count some h =
    let n = parts_in count e some h in rw n.count (record { low = n.low; none = λ z. absurd (omega arith) })

-- THE NEXT PART and the size that it takes
pub record NextPart (p e left size : ℕ) : Type 0 where
  pub fits : size ≤ left
  pub least : e ≤ size
  pub after : PartsLeft (p - 1) e (left - size)

pub next_part : (p e left size : ℕ) → 1 ≤ p → PartsLeft p e left → PartSize p e left size → NextPart p e left size
next_part zero e left size some h sized = absurd (omega arith)
next_part (suc zero) e left size some h sized =
    let all = sized.last refl in
    record { fits = omega arith; least = omega (arith, one-mul e, h.low); after = record { low = omega arith; none = λ z. omega arith } }
next_part (suc (suc k)) e left size some h sized =
    let less : suc (suc k) - 1 ≡ suc k = omega arith in
    let more = suc-mul (suc k) e in
    let each = sized.other (λ z. omega arith) in
    record {
      fits = omega (arith, h.low, more);
      least = omega arith;
      after = rw less (record { low = omega (arith, h.low, more); none = λ z. absurd (omega arith) });
    }

pub parts_turn : (ws w : List ℕ) (r j e p a x left size : ℕ) → 2 ≤ r → 1 ≤ j → e ≡ r ^ j → 1 ≤ p → PartsLeft p e left → PartSize p e left size →
    let q = trees_numbered ws w r (pred j) a x size in
    let further = parts_numbered q.words w r j e (p - 1) (cut (a + entry w j)) (along size ws x) (left - size) in
    parts_numbered ws w r j e p a x left ≡ record { words = further.words; moved = q.moved + further.moved }
parts_turn ws w r zero e p a x left size degree low power some h sized = absurd (omega arith)
parts_turn ws w r (suc i) e zero a x left size degree low power some h sized = absurd (omega arith)
parts_turn ws w r (suc i) e (suc zero) a x left size degree low power some h sized =
    rw (sized.last refl, last_part ws w r (suc i) e a x left, parts_end, add-zero) refl
parts_turn ws w r (suc i) e (suc (suc k)) a x left size degree low power some h sized =
    let less : suc (suc k) - 1 ≡ suc k = omega arith in
    let all : e + (left - e) ≡ left = omega (arith, h.low, suc-mul (suc k) e) in
    let xs = follow e ws x in
    let long = length_follow e ws x in
    let many : length (labels (spread i r xs) (entry w) i a) ≡ e =
    length_labels (spread i r xs) (entry w) i a ∙ ap length (leaves_below i r degree xs (omega arith)) ∙ long in
    rw (less, sized.other (λ z. omega arith)) (rw all at (first_part ws w r (suc i) e k a x (left - e) many))

-- trees leave next as it is, and move no more tags than there are
pub trees_keep_next : (ws w : List ℕ) (r j a x k : ℕ) → SameNext (trees_numbered ws w r j a x k).words ws
unfolding trees_numbered
trees_keep_next ws w r j a x k = relabel_keeps_next (follow k ws x) _ ws

pub trees_moved : (ws w : List ℕ) (r j a x k : ℕ) → (trees_numbered ws w r j a x k).moved ≤ k
unfolding trees_numbered
trees_moved ws w r j a x k = omega (arith, length_follow k ws x, moved_most (follow k ws x) (map cut (labels (spread j r (follow k ws x)) (entry w) j a)) ws)

-- of height 0 they are leaves
pub trees_zero : (ws w : List ℕ) (r j a x k : ℕ) → j ≡ 0 → leaves_numbered ws (entry w 0) a x k ≡ trees_numbered ws w r j a x k
unfolding leaves_numbered trees_numbered spread
trees_zero ws w r j a x k e = rw (e, leaf_widths (follow k ws x) (λ i. entry w 0) (entry w) a refl)

-- WHAT THE NEXT PART ASKS
pub row_part : {ws : List ℕ} {x left : ℕ} → RowThere ws x left → (size : ℕ) → size ≤ left → RowThere ws x size
row_part h size fits = record { most = omega (arith, h.most); there = λ i l. h.there i (omega arith) }

module _ {j a count : ℕ} {t : by_height.Tables} (h : TreesFit j a count t) (low : 1 ≤ j) where
  pub each_power : entry (lows_in t) j ≡ r_in t ^ j
  each_power = h.lows j (omega arith)

  pub each_some : 1 ≤ entry (lows_in t) j
  each_some = omega (arith, each_power, some_power (r_in t) j h.degree)

  pub each_parts : PartsLeft (count / entry (lows_in t) j) (entry (lows_in t) j) count
  each_parts =
      by_test (eqb count 0)
      (λ e. rw (eqb-true count 0 e, zero-div) (record { low = omega arith; none = λ z. refl }))
      (λ e. let some : 1 ≤ count = omega (arith, eqb-false count 0 e) in
      all_parts (entry (lows_in t) j) count each_some (omega (arith, each_power, h.least low some)))

  pub fit_below : (at size : ℕ) → at < label_limit → entry (lows_in t) j ≤ size → TreesFit (j - 1) at size t
  fit_below at size small least =
      let one : suc (j - 1) ≡ j = omega arith in
      record {
        degree = h.degree;
        height = omega (arith, h.height);
        least = λ z some. lower_power (r_in t) (j - 1) size h.degree (rw one (omega (arith, each_power)));
        number = small;
        widths = h.widths;
        lows = λ k fits. h.lows k (omega arith);
      }

-- and how far it brings the loop
module _ {whole : Relabelled} {before ws : List ℕ} {first count tag left at done : ℕ} (w : List ℕ) (r j e p : ℕ)
    (h : OnWay whole (parts_numbered ws w r j e p at tag left) before ws first count tag left at done)
    {vs : List ℕ} {size next m : ℕ} (q : RowNumbered ws vs (trees_numbered ws w r (j - 1) at tag size) tag size next m) where
  part_few : m ≤ size
  part_few = omega (arith, q.moved, trees_moved ws w r (j - 1) at tag size)

  pub part_counted : size ≤ left → done + m ≤ count
  part_counted fits = omega (arith, part_few, h.counted)

  pub part_on : 2 ≤ r → 1 ≤ j → e ≡ r ^ j → 1 ≤ p → PartsLeft p e left → PartSize p e left size → length vs ≡ length ws →
      OnWay whole (parts_numbered vs w r j e (p - 1) (cut (at + entry w j)) next (left - size)) before vs first count next (left - size) (cut (at + entry w j)) (done + m)
  part_on degree low power some parted sized long =
      let turn = rw (← sub-one j) at (parts_turn ws w r j e p at tag left size degree low power some parted sized) in
      on h (parts_numbered vs w r j e (p - 1) (cut (at + entry w j)) next (left - size)) vs size m next (cut (at + entry w j))
      (next_part p e left size some parted sized).fits
      part_few
      (cut_small (at + entry w j))
      q.next
      (rw q.words (trees_keep_next ws w r (j - 1) at tag size))
      long
      (rw (q.next, q.words) (rw turn))
      (rw (q.next, q.moved, q.words) (rw turn))
