-- The flat view of a whole row of new tags in a book: its labels before and after, in pieces along the row, whether no node is
-- split, a node below the root or the root. Assumes nothing.
use mathlib.Core.Path.{◌≡◌, refl, ap, sym, ◌∙◌}
use mathlib.Core.Bool.{true, false, cond}
use mathlib.Core.List.{List, [], ◌∷◌, ◌++◌, map, append_assoc, append-nil}
use Prim.Native.Nat.{ℕ, suc, pred, ◌+◌, ◌*◌, ◌-◌, ◌^◌, ◌≤◌, ◌<◌}
use native.Mathlib.Omega.{arith}
use borrow.Author.Tests.{lt-ltb, le-ltb, le-leb, lt-leb, ltb-true, ltb-false, leb-false}
use lib.Dec.{ltb, leb}
use lib.ListN.{length, get_or, length-append, length-map, get_or-append}
use lib.Seq.{get_or-append-add}
use Rattle.lists.proofs.Tests.{by_test}
use Rattle.tree.specs.Row.{insert_at}
use Rattle.tree.specs.Forest.{nil, size, labels}
use Rattle.tree.specs.Book.{Book, height, tags, labels_of}
use Rattle.tree.specs.Reach.{left_in, size_in}
use Rattle.tree.specs.Promise.{Widths, Sane}
use Rattle.tree.specs.Grown.{grown_node, full_height, grown_in, grown_height, grown_split, grown}
use Rattle.tree_laws.proofs.Rows.{insert_left, insert_right}
use Rattle.tree_laws.proofs.Insertion.{rooted, empty_low}
use Rattle.tree_laws.proofs.Labels.{length_labels}
use Rattle.tree_laws.proofs.Ancestors.{node_number}
use Rattle.tree_laws.proofs.Root.{whole, labels_whole}
use Rattle.tree_laws.proofs.Border.{Cut, cut_whole}
use Rattle.tree_laws.proofs.Full.{full_at_most, grown_inside, split_root, split_inner, grown_root, grown_inner}
use Rattle.tree_laws.proofs.RowHeight.{limits_grow, search_least}
use Rattle.tree_laws.proofs.GrownFlat.{Piece, grown_piece, grown_flat, grown_flat_inside}

-- THE FLAT VIEW: what stands before the piece and what stands behind the border keep their labels, what stands between is shifted
pub record RowFlat (w : ℕ → ℕ) (p : ℕ) (ns : List ℕ) (b : Book) : Type 0 where
  pub height : ℕ
  pub piece : Piece b.s b.r w height (length ns)
  pub before : List ℕ
  pub beside : List ℕ
  pub after : List ℕ
  pub height_is : grown_split (length ns) p b ≡ height
  pub was : labels_of w b ≡ before ++ (piece.old ++ (beside ++ after))
  pub now : labels_of w (grown p ns b) ≡ before ++ (piece.new ++ (map (λ l. l + piece.shift) beside ++ after))
  pub place_is : p ≡ length before + piece.offset
  -- THE ROOT is split where its height grows; then all tags are numbered anew
  pub grows : ltb (suc b.under) (grown_height (length ns) b) ≡ ltb b.under height
  pub root : b.under < height → (piece.number ≡ 0) × (before ≡ []) × (beside ≡ []) × (after ≡ [])
  -- BELOW THE ROOT: the split node, and the end of its parent
  pub left_is : height ≤ b.under → left_in (whole b) (suc b.under) height p ≡ length before
  pub size_is : height ≤ b.under → size_in (whole b) (suc b.under) height p ≡ length piece.old
  pub number_is : height ≤ b.under → 1 ≤ height → node_number (whole b) w (suc b.under) height p 0 ≡ piece.number
  pub parent : height ≤ b.under → left_in (whole b) (suc b.under) (suc height) p + size_in (whole b) (suc b.under) (suc height) p ≡ length before + (length piece.old + length beside)
  -- NO SPLIT: the first new label
  pub front : p ≡ 0 → piece.number ≡ 0
  pub next : height ≡ 0 → (q : ℕ) → p ≡ suc q → piece.number ≡ get_or (labels_of w b) q 0 + w 0

module _ (w : ℕ → ℕ) (p : ℕ) (ns : List ℕ) (b : Book) where
  abbrev top : ℕ
  top = grown_height (length ns) b

  abbrev inner : ℕ
  inner = full_height b.root b.s b.r b.under (length ns) p

  labels_root : ltb (height b) top ≡ true → labels_of w (grown p ns b) ≡ labels (grown_node b.s b.r (pred top) p ns (tags b)) w (pred top) 0
  labels_root t = rw (grown_root p ns b t, split_root (length ns) p b t)

  labels_inner : ltb (height b) top ≡ false → labels_of w (grown p ns b) ≡ labels (grown_in b.root b.s b.r b.under inner p ns) w b.under 0
  labels_inner t = rw (grown_inner p ns b t, split_inner (length ns) p b t)

  module _ (sane : Sane b) (fits : p ≤ size b.root) (some : 1 ≤ length ns) where
    -- THE ROOT, which is split for the last time one below its new height
    at_root : ltb (height b) top ≡ true → RowFlat w p ns b
    unfolding grown_node grown_piece
    at_root t =
        let h = pred top in
        let higher = ltb-true (height b) top t in
        let own = rooted b sane in
        let k = length ns in
        let l = size b.root in
        let room : l < b.s * b.r ^ h = omega (arith, own.high, limits_grow b.s b.r (height b) h sane.r_least (omega arith)) in
        let least = search_least k b.s b.r (l + k) (height b) sane.s_least sane.r_least (omega (arith, own.high)) in
        let old_long = length_labels b.root w b.under 0 in
        let above : b.under < h = omega arith in
        record {
          height = h;
          piece = grown_piece w h p 0 ns (tags b) (labels_of w b) sane.s_least sane.r_least (omega arith) old_long fits room (least.least higher);
          before = [];
          beside = [];
          after = [];
          height_is = split_root (length ns) p b t;
          was = rw append-nil;
          now = labels_root t ∙ rw append-nil;
          place_is = omega arith;
          grows = t ∙ sym (lt-ltb b.under h above);
          root = λ i. (refl, refl, refl, refl);
          left_is = λ i. absurd (omega arith);
          size_is = λ i. absurd (omega arith);
          number_is = λ i. absurd (omega arith);
          parent = λ i. absurd (omega arith);
          front = λ e. refl;
          next = λ e. absurd (omega arith);
        }

    -- BELOW IT
    at_inner : ltb (height b) top ≡ false → RowFlat w p ns b
    unfolding labels
    at_inner t =
        let own = rooted b sane in
        let low = full_at_most b.root b.s b.r b.under (length ns) p own.good in
        let d =
        grown_flat_inside b.s b.r w ns b.root nil b.under inner p 0 fits low
        (grown_flat w ns sane.s_least sane.r_least some b.root b.under p 0 own.good fits (empty_low b sane)) in
        let wrapped = grown_inside b.root nil b.s b.r (height b) inner p ns fits (λ i. omega arith) in
        let labelled : labels_of w (grown p ns b) ≡ labels (grown_in (whole b) b.s b.r (height b) inner p ns) w (height b) 0 = rw (labels_inner t, wrapped, append-nil) in
        record {
          height = inner;
          piece = d.piece;
          before = d.before;
          beside = d.beside;
          after = d.after;
          height_is = split_inner (length ns) p b t;
          was = labels_whole w b ∙ d.was;
          now = labelled ∙ d.now;
          place_is = d.place_is;
          grows = t ∙ sym (le-ltb b.under inner low);
          root = λ i. absurd (omega arith);
          left_is = λ i. d.left_is;
          size_is = λ i. d.size_is;
          number_is = λ i l. d.number_is l;
          parent = λ i. d.parent (omega arith);
          front = d.front;
          next = λ e q i. d.next e q i ∙ ap (λ (ls : List ℕ). get_or ls q 0 + w 0) (sym (labels_whole w b));
        }

    -- EVERY ROW of new tags in a sane book is such
    pub row_flat : RowFlat w p ns b
    row_flat = by_test (ltb (height b) top) at_root at_inner

-- how many labels there are
pub row_parts : {w : ℕ → ℕ} {p : ℕ} {ns : List ℕ} {b : Book} (d : RowFlat w p ns b) →
    length d.before + (length d.piece.old + (length d.beside + length d.after)) ≡ size b.root
row_parts {w} {b = b} d = omega (arith, simp length-append at (ap length d.was), length_labels b.root w b.under 0)

-- something put in at the place of the new tags stands in the piece
pub row_with : {w : ℕ → ℕ} {p : ℕ} {ns : List ℕ} {b : Book} (d : RowFlat w p ns b) (ms : List ℕ) →
    insert_at p ms (labels_of w b) ≡ d.before ++ (insert_at d.piece.offset ms d.piece.old ++ (d.beside ++ d.after))
row_with {p = p} d ms =
    let inside : p - length d.before ≡ d.piece.offset = omega (arith, d.place_is) in
    rw (
      d.was,
      insert_right p ms d.before (d.piece.old ++ (d.beside ++ d.after)) (omega (arith, d.place_is)),
      inside,
      insert_left d.piece.offset ms d.piece.old (d.beside ++ d.after) d.piece.fits,
    )

-- WHAT IS SHIFTED is shifted by less than a bound of the labels afterwards
pub row_shift : {w : ℕ → ℕ} {p : ℕ} {ns : List ℕ} {b : Book} (d : RowFlat w p ns b) (bound : ℕ) →
    ((i : ℕ) → i < length (labels_of w (grown p ns b)) → get_or (labels_of w (grown p ns b)) i 0 < bound) → 1 ≤ length d.beside → d.piece.shift < bound
row_shift {w} {p} {ns} {b} d bound below some =
    let at = length d.before + (length d.piece.new + 0) in
    let raised = map (λ l. l + d.piece.shift) d.beside in
    let many = simp (length-append, length-map) at (ap length d.now) in
    let here : get_or (labels_of w (grown p ns b)) at 0 ≡ get_or d.beside 0 0 + d.piece.shift =
    rw (d.now, get_or-append-add d.before, get_or-append-add d.piece.new) (get_or-append raised d.after 0 0 (rw length-map some) ∙ first_raised d.piece.shift d.beside some) in
    omega (arith, rw here at (below at (omega arith)))
  where
    first_raised : (a : ℕ) (ls : List ℕ) → 1 ≤ length ls → get_or (map (λ l. l + a) ls) 0 0 ≡ get_or ls 0 0 + a
    first_raised a [] l = absurd (omega arith)
    first_raised a (x ∷ ls) l = refl

-- the height afterwards
pub row_levels : {w : ℕ → ℕ} {p : ℕ} {ns : List ℕ} {b : Book} (d : RowFlat w p ns b) → height (grown p ns b) ≡ cond (leb (height b) d.height) (suc d.height) (height b)
unfolding grown
row_levels {b = b} d =
    by_test (ltb b.under d.height)
    (λ t. rw (d.grows ∙ t, le-leb (height b) d.height (ltb-true b.under d.height t), d.height_is))
    (λ t. let low = ltb-false b.under d.height t in rw (d.grows ∙ t, lt-leb (height b) d.height (omega arith)))

pub row_lower : {w : ℕ → ℕ} {p : ℕ} {ns : List ℕ} {b : Book} (d : RowFlat w p ns b) → d.height < height (grown p ns b)
row_lower {b = b} d =
    by_test (leb (height b) d.height)
    (λ t. rw (row_levels d, t) (omega arith))
    (λ t. rw (row_levels d, t) (leb-false (height b) d.height t))

-- THE BORDER in labels, below the root: what stands before it is below the end of the parent's width, what stands behind it from
-- there on
pub row_cut : {w : ℕ → ℕ} {p : ℕ} {ns : List ℕ} {b : Book} → Widths b.s b.r w → Sane b → p ≤ size b.root → (d : RowFlat w p ns b) → d.height ≤ b.under →
    Cut 0 (node_number (whole b) w (height b) (suc d.height) p 0 + w (suc d.height)) (w (height b)) (d.before ++ (d.piece.old ++ d.beside)) d.after
row_cut {w} {p} {b = b} widths sane fits d low =
    cut_whole p widths sane fits (d.before ++ (d.piece.old ++ d.beside)) d.after (d.was ∙ simp append_assoc) d.height (omega arith)
    (simp length-append (omega (arith, d.parent low)))
