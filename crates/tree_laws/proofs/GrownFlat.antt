-- The flat view of a whole row of new tags in a good forest: its labels before and after, in pieces along the row.
-- Assumes nothing.
use mathlib.Core.Path.{◌≡◌, refl, ap, sym, ◌∙◌}
use mathlib.Core.List.{List, [], ◌∷◌, ◌++◌, map, append_assoc, append-nil}
use Prim.Native.Nat.{ℕ, zero, suc, ◌+◌, ◌*◌, ◌-◌, ◌/◌, ◌^◌, ◌≤◌, ◌<◌}
use native.Mathlib.Nat.{suc-mul, mul-one, pow-zero}
use native.Mathlib.Omega.{arith}
use borrow.Author.Tests.{eqb-true, eqb-false}
use lib.Dec.{eqb}
use lib.ListN.{length, get_or, take, drop, length-append, take-append-drop}
use lib.Seq.{length-take-le}
use Rattle.lists.proofs.Tests.{by_test}
use Rattle.tree.specs.Good.{Good}
use Rattle.tree.specs.Row.{insert_at}
use Rattle.tree.specs.Forest.{Forest, nil, leaf, node, leaves, size, labels, joined, leaf_row}
use Rattle.tree.specs.Reach.{left_in, size_in}
use Rattle.tree.specs.Grown.{path, PathFits, in_node, grown_node, full_height, grown_in}
use Rattle.tree_laws.proofs.Rows.{length_insert}
use Rattle.tree_laws.proofs.Spread.{leaves_leaf_row, trees_leaf_row, leaf_row_of, some_power}
use Rattle.tree_laws.proofs.Insertion.{size_node}
use Rattle.tree_laws.proofs.Labels.{trees, length_labels, labels_shift, labels_joined}
use Rattle.tree_laws.proofs.Ancestors.{node_number, at_right, at_here, at_inside}
use Rattle.tree_laws.proofs.Thinnest.{label_inside, label_beyond}
use Rattle.tree_laws.proofs.PathLaws.{path_zero, leaves_path, trees_path, path_labels, node_fits}
use Rattle.tree_laws.proofs.Full.{ways, full_right, full_here, full_below, full_at_most, grown_right, grown_here, grown_inside, grown_row}

-- WHAT IS NUMBERED ANEW. Where no tree grows: the k new tags alone, between old ones
pub record PlainPiece (w : ℕ → ℕ) (offset l k cursor rest shift : ℕ) : Type 0 where
  pub offset_is : offset ≡ 0
  pub none : l ≡ 0
  pub cursor_is : cursor ≡ k
  pub rest_is : rest ≡ 0
  pub shift_is : shift ≡ k * w 0

-- where one of height h over l leaves does: these and the new ones, which stand behind the first `offset` of them
pub record SplitPiece (s r : ℕ) (w : ℕ → ℕ) (h offset l k cursor rest shift : ℕ) : Type 0 where
  pub cursor_is : cursor ≡ offset + in_node s r h l k
  pub rest_is : rest ≡ k - in_node s r h l k
  pub shift_is : shift ≡ ((l + in_node s r h l k) / r ^ h - 1) * w h

-- its labels before and after, and by how much what stands beside it is shifted: it is numbered as trees of height h, none grown
-- where h is 0, of which only the cursor's is not complete
pub record Piece (s r : ℕ) (w : ℕ → ℕ) (h k : ℕ) : Type 0 where
  pub offset : ℕ
  pub number : ℕ
  pub shift : ℕ
  pub cursor : ℕ
  pub rest : ℕ
  pub old : List ℕ
  pub new : List ℕ
  pub fits : offset ≤ length old
  pub paths : PathFits r h cursor rest (length old + k)
  pub complete : (zs : List ℕ) → length zs ≡ length old + k → labels (path s r h cursor rest zs) w h number ≡ new
  pub as_many : length new ≡ length old + k
  pub plain : h ≡ 0 → PlainPiece w offset (length old) k cursor rest shift
  pub split : 1 ≤ h → SplitPiece s r w h offset (length old) k cursor rest shift

-- THE FLAT VIEW of new tags behind the first p leaves, where the tree of height h grows: what stands before the piece and what
-- stands behind the border keep their labels, what stands between is shifted
pub record GrownFlat (s r : ℕ) (w : ℕ → ℕ) (f : Forest) (j h p a : ℕ) (ns : List ℕ) : Type 0 where
  pub piece : Piece s r w h (length ns)
  pub before : List ℕ
  pub beside : List ℕ
  pub after : List ℕ
  pub was : labels f w j a ≡ before ++ (piece.old ++ (beside ++ after))
  pub now : labels (grown_in f s r j h p ns) w j a ≡ before ++ (piece.new ++ (map (λ l. l + piece.shift) beside ++ after))
  pub place_is : p ≡ length before + piece.offset
  pub left_is : left_in f j h p ≡ length before
  pub size_is : size_in f j h p ≡ length piece.old
  -- the number of the tree that grows; the first new label where none does
  pub number_is : 1 ≤ h → node_number f w j h p a ≡ piece.number
  pub front : p ≡ 0 → piece.number ≡ a
  pub next : h ≡ 0 → (q : ℕ) → p ≡ suc q → piece.number ≡ get_or (labels f w j a) q 0 + w 0
  -- the parent's leaves end where those that are shifted do; with no parent in the forest all that follows is shifted
  pub parent : h < j → left_in f j (suc h) p + size_in f j (suc h) p ≡ length before + (length piece.old + length beside)
  pub outer : h ≡ j → after ≡ []

-- A PIECE THAT GROWS: new tags behind the first p leaves of a node, which they bring to its limit; the leaves had these labels
unfoldable pub grown_piece : (w : ℕ → ℕ) {s r : ℕ} (h p a : ℕ) (ns xs ls : List ℕ) → 2 ≤ s → 2 ≤ r → 1 ≤ h → length ls ≡ length xs → p ≤ length xs → length xs < s * r ^ h → s * r ^ h ≤ length xs + length ns → Piece s r w h (length ns)
grown_piece w {s} {r} h p a ns xs ls s_least r_least some same fits room limit =
    let k = length ns in
    let row = insert_at p ns xs in
    let c = node_fits s r h p (length xs) k s_least r_least fits room limit in
    let t = in_node s r h (length xs) k in
    let many : length row ≡ length xs + k = length_insert p ns xs ∙ omega arith in
    let own : PathFits r h (p + t) (k - t) (length row) = rw many c.fits in
    record {
      offset = p;
      number = a;
      shift = (c.fits.trees - 1) * w h;
      cursor = p + t;
      rest = k - t;
      old = ls;
      new = labels (path s r h (p + t) (k - t) row) w h a;
      fits = omega arith;
      paths = rw same c.fits;
      complete = λ zs n. path_labels w s r h (p + t) (k - t) zs row a (omega arith);
      as_many = length_labels (path s r h (p + t) (k - t) row) w h a ∙ ap length (leaves_path s r h (p + t) (k - t) row r_least own) ∙ omega arith;
      plain = λ i. absurd (omega arith);
      split = λ l. rw same (record { cursor_is = refl; rest_is = refl; shift_is = rw c.trees_are });
    }

-- ROWS OF LEAVES, one behind the other
row_append : (xs ys : List ℕ) → leaf_row (xs ++ ys) ≡ joined (leaf_row xs) (leaf_row ys)
unfolding leaf_row joined
row_append [] ys = refl
row_append (x ∷ xs) ys = ap (λ (g : Forest). leaf x g) (row_append xs ys)

row_labels : (w : ℕ → ℕ) (xs ys : List ℕ) (a : ℕ) → labels (leaf_row (xs ++ ys)) w 0 a ≡ labels (leaf_row xs) w 0 a ++ labels (leaf_row ys) w 0 (a + length xs * w 0)
row_labels w xs ys a = rw (row_append xs ys, labels_joined (leaf_row xs) (leaf_row ys) w 0 a, trees_leaf_row xs)

row_long : (w : ℕ → ℕ) (xs : List ℕ) (a : ℕ) → length (labels (leaf_row xs) w 0 a) ≡ length xs
row_long w xs a = length_labels (leaf_row xs) w 0 a ∙ ap length (leaves_leaf_row xs)

-- the i-th is labelled i widths behind the first
row_label : (w : ℕ → ℕ) (xs : List ℕ) (a i : ℕ) → i < length xs → get_or (labels (leaf_row xs) w 0 a) i 0 ≡ a + i * w 0
unfolding labels leaf_row
row_label w [] a i l = absurd (omega arith)
row_label w (x ∷ xs) a zero l = omega arith
row_label w (x ∷ xs) a (suc i) l = row_label w xs (a + w 0) i (omega arith) ∙ omega (arith, suc-mul i (w 0))

module _ (s r : ℕ) (w : ℕ → ℕ) (ns : List ℕ) where
  left_row : (f : Forest) (p : ℕ) → Good s r f 0 → p ≤ size f → (left_in f 0 0 p ≡ p) × (size_in f 0 0 p ≡ 0)
  unfolding left_in size_in leaves
  left_row nil p good fits = (omega arith, refl)
  left_row (leaf z f) p good fits = (refl, refl)
  left_row (node g f) p good fits = absurd good

  -- NEW LEAVES AMONG LEAVES
  flat_row : (f : Forest) (p a : ℕ) → Good s r f 0 → p ≤ size f → 1 ≤ length ns → GrownFlat s r w f 0 0 p a ns
  unfolding insert_at
  flat_row f p a good fits some =
      let xs = leaves f in
      let k = length ns in
      let n = a + p * w 0 in
      let front = length-take-le p xs fits in
      let f_row = sym (leaf_row_of s r f good) in
      let left = row_labels w (take p xs) (drop p xs) a in
      let all : k * r ^ 0 ≡ k = rw pow-zero (mul-one k) in
      record {
        piece = record {
          offset = 0;
          number = n;
          shift = k * w 0;
          cursor = k;
          rest = 0;
          old = [];
          new = labels (leaf_row ns) w 0 n;
          fits = omega arith;
          paths = record { trees = k; whole = omega arith; low = some; high = omega arith };
          complete = λ zs same. path_labels w s r 0 k 0 zs ns n (omega arith) ∙ rw (path_zero s r k 0 ns);
          as_many = omega (arith, row_long w ns n);
          plain = λ e. record { offset_is = refl; none = refl; cursor_is = refl; rest_is = refl; shift_is = refl };
          split = λ l. absurd (omega arith);
        };
        before = labels (leaf_row (take p xs)) w 0 a;
        beside = labels (leaf_row (drop p xs)) w 0 n;
        after = [];
        was = ap (λ (g : Forest). labels g w 0 a) f_row ∙ ap (λ (ys : List ℕ). labels (leaf_row ys) w 0 a) (sym (take-append-drop p xs)) ∙ left ∙ rw (front, append-nil);
        now = rw (grown_row s r ns f p good, row_labels w (take p xs) (ns ++ drop p xs) a, row_labels w ns (drop p xs), front, labels_shift (leaf_row (drop p xs)) w 0 n (k * w 0), append-nil);
        place_is = omega (arith, row_long w (take p xs) a);
        left_is = omega (arith, (left_row f p good fits).0, row_long w (take p xs) a);
        size_is = (left_row f p good fits).1;
        number_is = λ l. absurd (omega arith);
        front = λ e. rw e (omega arith);
        next = λ i q e. rw (f_row, row_label w xs a q (omega arith), e) (omega (arith, suc-mul q (w 0)));
        parent = λ l. absurd (omega arith);
        outer = λ e. refl;
      }

  -- right of a node
  grown_flat_right : (g f : Forest) (j h p a : ℕ) → size g < p → GrownFlat s r w f (suc j) h (p - size g) (a + w (suc j)) ns → GrownFlat s r w (node g f) (suc j) h p a ns
  unfolding labels
  grown_flat_right g f j h p a n d =
      let left = labels g w j a in
      let n_left = length_labels g w j a in
      let n_before = length-append left d.before in
      let e : (i : ℕ) → _ = λ i. at_right g f w (suc j) i p a n in
      record {
        piece = d.piece;
        before = left ++ d.before;
        beside = d.beside;
        after = d.after;
        was = ap (λ (t : List ℕ). left ++ t) d.was ∙ sym (append_assoc left d.before _);
        now = rw (grown_right g f s r (suc j) h p ns n) (ap (λ (t : List ℕ). left ++ t) d.now ∙ sym (append_assoc left d.before _));
        place_is = omega (arith, d.place_is);
        left_is = omega (arith, (e h).1, d.left_is);
        size_is = (e h).2 ∙ d.size_is;
        number_is = λ l. (e h).0 ∙ d.number_is l;
        front = λ i. absurd (omega arith);
        next = λ i q m. d.next i (q - size g) (omega arith) ∙ ap (λ (l : ℕ). l + w 0) (sym (label_beyond g f w j a q (omega arith)));
        parent = λ l. omega (arith, d.parent l, (e (suc h)).1, (e (suc h)).2);
        outer = d.outer;
      }

  -- a node that grows
  grown_flat_here : (g f : Forest) (h p a : ℕ) → 2 ≤ s → 2 ≤ r → p ≤ size g → size g < s * r ^ suc h → s * r ^ suc h ≤ size g + length ns → GrownFlat s r w (node g f) (suc h) (suc h) p a ns
  unfolding labels grown_node grown_piece
  grown_flat_here g f h p a s_least r_least fits room limit =
      let k = length ns in
      let row = insert_at p ns (leaves g) in
      let c = node_fits s r (suc h) p (size g) k s_least r_least fits room limit in
      let t = in_node s r (suc h) (size g) k in
      let v = w (suc h) in
      let many : length row ≡ size g + k = length_insert p ns (leaves g) ∙ omega arith in
      let e = at_here g f w (suc h) (suc h) p a fits refl in
      let m = c.fits.trees in
      let trees_are : trees (path s r (suc h) (p + t) (k - t) row) ≡ m = same_trees row many c.fits in
      let m' : m ≡ suc (m - 1) = omega (arith, c.some) in
      let end : a + m * v ≡ a + v + (m - 1) * v = omega (arith, ap (λ (i : ℕ). i * v) m', suc-mul (m - 1) v) in
      let old_long = length_labels g w h a in
      record {
        piece = grown_piece w (suc h) p a ns (leaves g) (labels g w h a) s_least r_least (omega arith) old_long fits room limit;
        before = [];
        beside = labels f w (suc h) (a + v);
        after = [];
        was = rw append-nil;
        now = rw (grown_here g f s r (suc h) (suc h) p ns fits refl, labels_joined (path s r (suc h) (p + t) (k - t) row) f w (suc h) a, trees_are, end, labels_shift f w (suc h) (a + v) ((m - 1) * v), append-nil);
        place_is = omega arith;
        left_is = e.1;
        size_is = e.2 ∙ sym old_long;
        number_is = λ l. e.0;
        front = λ i. refl;
        next = λ i. absurd (omega arith);
        parent = λ l. absurd (omega arith);
        outer = λ i. refl;
      }
    where
      same_trees : (row : List ℕ) {c e n : ℕ} → length row ≡ n → (fit : PathFits r (suc h) c e n) → trees (path s r (suc h) c e row) ≡ fit.trees
      same_trees row {c} {e} many fit =
          trees_path s r h c e row r_least (record { trees = fit.trees; whole = fit.whole ∙ sym many; low = fit.low; high = fit.high })

  -- under a node that does not
  pub grown_flat_inside : (g f : Forest) (j h p a : ℕ) → p ≤ size g → h ≤ j → GrownFlat s r w g j h p a ns → GrownFlat s r w (node g f) (suc j) h p a ns
  unfolding labels
  grown_flat_inside g f j h p a fits low d =
      let right = labels f w (suc j) (a + w (suc j)) in
      let lower : suc j ≡ h → ⊥ = λ i. omega arith in
      let e = at_inside g f w (suc j) h p a fits lower in
      record {
        piece = d.piece;
        before = d.before;
        beside = d.beside;
        after = d.after ++ right;
        was = ap (λ (t : List ℕ). t ++ right) d.was ∙ simp append_assoc;
        now = rw (grown_inside g f s r (suc j) h p ns fits lower) (ap (λ (t : List ℕ). t ++ right) d.now ∙ simp append_assoc);
        place_is = d.place_is;
        left_is = e.1 ∙ d.left_is;
        size_is = e.2 ∙ d.size_is;
        number_is = λ l. e.0 ∙ d.number_is l;
        front = d.front;
        next = λ i q m. d.next i q m ∙ ap (λ (l : ℕ). l + w 0) (sym (label_inside g f w j a q (omega arith)));
        parent = λ l. by_test (eqb j h) (λ t. here (eqb-true j h t)) (λ t. inside (eqb-false j h t));
        outer = λ i. absurd (omega arith);
      }
    where
      here : j ≡ h → left_in (node g f) (suc j) (suc h) p + size_in (node g f) (suc j) (suc h) p ≡ length d.before + (length d.piece.old + length d.beside)
      here i =
          let e = at_here g f w (suc j) (suc h) p a fits (ap suc i) in
          let n = simp (length-append, d.outer (sym i), append-nil) at (ap length d.was) in
          omega (arith, e.1, e.2, n, length_labels g w j a)

      inside : (j ≡ h → ⊥) → left_in (node g f) (suc j) (suc h) p + size_in (node g f) (suc j) (suc h) p ≡ length d.before + (length d.piece.old + length d.beside)
      inside n =
          let e = at_inside g f w (suc j) (suc h) p a fits (λ i. n (omega arith)) in
          omega (arith, e.1, e.2, d.parent (omega arith))

module _ {s r : ℕ} (w : ℕ → ℕ) (ns : List ℕ) (s_least : 2 ≤ s) (r_least : 2 ≤ r) (some : 1 ≤ length ns) where
  grown_flat_node : (g f : Forest) (j p a : ℕ) → Good s r (node g f) (suc j) →
      (size g < p → GrownFlat s r w f (suc j) (full_height f s r (suc j) (length ns) (p - size g)) (p - size g) (a + w (suc j)) ns) →
      (p ≤ size g → GrownFlat s r w g j (full_height g s r j (length ns) p) p a ns) →
      GrownFlat s r w (node g f) (suc j) (full_height (node g f) s r (suc j) (length ns) p) p a ns
  grown_flat_node g f j p a good onward inside =
      ways (size g) p (length ns) (s * r ^ suc j)
      (λ n. rw (full_right g f s r (suc j) (length ns) p n) (grown_flat_right s r w ns g f j _ p a n (onward n)))
      (λ n e. rw (full_here g f s r (suc j) (length ns) p n e) (grown_flat_here s r w ns g f j p a s_least r_least n good.1 e))
      (λ n e. rw (full_below g f s r (suc j) (length ns) p n e) (grown_flat_inside s r w ns g f j _ p a n (full_at_most g s r j (length ns) p good.2) (inside n)))

  -- EVERY ROW of new tags in a good forest is such; it goes into an empty forest only at height 0
  pub grown_flat : (f : Forest) (j p a : ℕ) → Good s r f j → p ≤ size f → (size f ≡ 0 → j ≡ 0) → GrownFlat s r w f j (full_height f s r j (length ns) p) p a ns
  unfolding leaves full_height
  grown_flat nil j p a good fits low = let j' : j ≡ 0 = low refl in rw j' (flat_row s r w ns nil p a good fits some)
  grown_flat (leaf z f) zero p a good fits low = flat_row s r w ns (leaf z f) p a good fits some
  grown_flat (leaf z f) (suc j) p a good fits low = absurd good
  grown_flat (node g f) zero p a good fits low = absurd good
  grown_flat (node g f) (suc j) p a good fits low =
      let both = size_node g f in
      grown_flat_node g f j p a good
      (λ n. grown_flat f (suc j) (p - size g) (a + w (suc j)) good.3 (omega arith) (λ e. absurd (omega arith)))
      (λ n. grown_flat g j p a good.2 n (λ e. absurd (omega (arith, good.0, some_power r (suc j) r_least))))
