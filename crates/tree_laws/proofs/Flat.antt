-- The flat view of one insertion: the labels of a good forest before and after it, in pieces along the row. Assumes nothing.
use mathlib.Core.Path.{◌≡◌, refl, ap, sym, ◌∙◌}
use mathlib.Core.List.{List, [], ◌∷◌, ◌++◌, map, append_assoc, append-nil}
use Prim.Native.Nat.{ℕ, zero, suc, ◌+◌, ◌*◌, ◌-◌, ◌^◌, ◌≤◌, ◌<◌}
use native.Mathlib.Nat.{suc-mul, div-eq_of_eq-mul_left}
use native.Mathlib.Omega.{arith}
use borrow.Author.Tests.{eqb-true, eqb-false}
use lib.Dec.{eqb}
use lib.ListN.{length, get_or, length-append}
use Rattle.lists.proofs.Tests.{by_test}
use Rattle.tree.specs.Good.{Good}
use Rattle.tree.specs.Row.{insert_at}
use Rattle.tree.specs.Forest.{Forest, nil, leaf, node, leaves, size, labels, parts, spread, put, split_height}
use Rattle.tree.specs.Reach.{left_in, size_in}
use Rattle.tree_laws.proofs.Spread.{parts_none, parts_one, parts_more, spread_suc, some_power}
use Rattle.tree_laws.proofs.Insertion.{Turn, right, split, below, turn, put_right, put_split, put_below, height_right, height_split, height_below, size_node, split_length}
use Rattle.tree_laws.proofs.Labels.{trees, length_labels, labels_shift, labels_joined}
use Rattle.tree_laws.proofs.Ancestors.{node_number, at_right, at_here, at_inside}
use Rattle.tree_laws.proofs.Thinnest.{label_inside, label_beyond}

-- a split leaves s trees
pub trees_parts : (c e : ℕ) (g : List ℕ → Forest) (xs : List ℕ) → trees (parts c e g xs) ≡ c
trees_parts zero e g xs = rw parts_none
trees_parts (suc zero) e g xs = rw parts_one
trees_parts (suc (suc c)) e g xs = rw parts_more (ap suc (trees_parts (suc c) e g _))

pub trees_spread : (j r k : ℕ) (xs : List ℕ) → 2 ≤ r → length xs ≡ k * r ^ suc j → trees (spread (suc j) r xs) ≡ k
trees_spread j r k xs q n =
    rw (spread_suc j r k xs (div-eq_of_eq-mul_left (some_power r (suc j) q) n)) (trees_parts k (r ^ suc j) (λ ys. spread j r ys) xs)

-- the split is at most as high as the forest
pub split_at_most : (f : Forest) (s r j p : ℕ) → Good s r f j → split_height f s r j p ≤ j
unfolding split_height
split_at_most nil s r j p k = omega arith
split_at_most (leaf z f) s r j p k = omega arith
split_at_most (node g f) s r zero p k = absurd k
split_at_most (node g f) s r (suc j) p k =
    go (turn (size g) p (s * r ^ suc j)) (split_at_most f s r (suc j) (p - size g) k.3) (split_at_most g s r j p k.2)
  where
    go : Turn (size g) p (s * r ^ suc j) → split_height f s r (suc j) (p - size g) ≤ suc j → split_height g s r j p ≤ j → split_height (node g f) s r (suc j) p ≤ suc j
    go (right h) onward inside = rw (height_right g f s r (suc j) p h) onward
    go (split h e) onward inside = omega (arith, height_split g f s r (suc j) p h e)
    go (below h n) onward inside = omega (arith, height_below g f s r (suc j) p h n)

-- WHAT IS NUMBERED ANEW. Where no node is split: the new tag alone. Where a node of height h + 1 and number n is: its
-- leaves, with the new tag behind the first `offset` of them, which s complete trees are over now. What stands right of
-- it under the same parent is shifted.
pub record Parted (s r : ℕ) (w : ℕ → ℕ) (x h offset n : ℕ) (old new : List ℕ) (shift : ℕ) : Type 0 where
  pub under : Forest
  pub good : Good s r under h
  pub limit : suc (size under) ≡ s * r ^ suc h
  pub fits : offset ≤ size under
  pub old_is : old ≡ labels under w h n
  pub new_is : new ≡ labels (spread (suc h) r (insert_at offset (x ∷ []) (leaves under))) w (suc h) n
  pub shift_is : shift ≡ (s - 1) * w (suc h)

abbrev pub Piece : (s r : ℕ) (w : ℕ → ℕ) (x height offset n : ℕ) (old new : List ℕ) (shift : ℕ) → Type 0
Piece s r w x zero q n old new d = (q ≡ 0) × (old ≡ []) × (new ≡ n ∷ []) × (d ≡ w 0)
Piece s r w x (suc h) q n old new d = Parted s r w x h q n old new d

-- the parent of what is split (of the new tag), a tree of height h + 1 of the forest: with what stands before the piece, and
-- with the piece and what is shifted; it is not at its limit
pub record Parent (s r : ℕ) (f : Forest) (j h p before part : ℕ) : Type 0 where
  pub left : left_in f j (suc h) p ≤ before
  pub border_is : left_in f j (suc h) p + size_in f j (suc h) p ≡ before + part
  pub room : size_in f j (suc h) p + 2 ≤ s * r ^ suc h

-- THE FLAT VIEW: what stands before that piece and what stands behind the border keep their labels; what stands between
-- the piece and the border is shifted. The border is the end of the parent's leaves.
pub record Flat (s r : ℕ) (w : ℕ → ℕ) (f : Forest) (j p x a : ℕ) : Type 0 where
  pub height : ℕ
  pub offset : ℕ
  pub number : ℕ
  pub shift : ℕ
  pub before : List ℕ
  pub old : List ℕ
  pub new : List ℕ
  pub beside : List ℕ
  pub after : List ℕ
  pub height_is : split_height f s r j p ≡ height
  pub piece : Piece s r w x height offset number old new shift
  pub was : labels f w j a ≡ before ++ (old ++ (beside ++ after))
  pub now : labels (put f s r j p x) w j a ≡ before ++ (new ++ (map (λ l. l + shift) beside ++ after))
  pub place_is : p ≡ length before + offset
  pub left_is : left_in f j height p ≡ length before
  -- the number of the split node; the new label where none is split
  pub number_is : (h : ℕ) → height ≡ suc h → node_number f w j (suc h) p a ≡ number
  pub front : p ≡ 0 → number ≡ a
  pub next : height ≡ 0 → (q : ℕ) → p ≡ suc q → number ≡ get_or (labels f w j a) q 0 + w 0
  pub most : height ≤ j
  pub parent : height < j → Parent s r f j height p (length before) (length old + length beside)
  -- with no parent in the forest all that follows is shifted
  pub outer : height ≡ j → after ≡ []

module _ (s r : ℕ) (w : ℕ → ℕ) where
  -- a new first leaf of a row of leaves
  flat_front : (f : Forest) (x a : ℕ) → put f s r 0 0 x ≡ leaf x f → split_height f s r 0 0 ≡ 0 → left_in f 0 0 0 ≡ 0 → Flat s r w f 0 0 x a
  unfolding labels
  flat_front f x a first none start = record {
    height = 0;
    offset = 0;
    number = a;
    shift = w 0;
    before = [];
    old = [];
    new = a ∷ [];
    beside = labels f w 0 a;
    after = [];
    height_is = none;
    piece = (refl, refl, refl, refl);
    was = rw append-nil;
    now = rw (first, append-nil, ← labels_shift f w 0 a (w 0));
    place_is = refl;
    left_is = start;
    number_is = λ h i. absurd (omega arith);
    front = λ i. refl;
    next = λ i q n. absurd (omega arith);
    most = omega arith;
    parent = λ l. absurd (omega arith);
    outer = λ i. refl;
  }

  -- behind a leaf
  flat_leaf : (z : ℕ) (f : Forest) (p x a : ℕ) → Flat s r w f 0 p x (a + w 0) → Flat s r w (leaf z f) 0 (suc p) x a
  unfolding labels put split_height left_in
  flat_leaf z f p x a d =
      let low : d.height ≡ 0 = omega (arith, d.most) in
      let piece : Piece s r w x 0 d.offset d.number d.old d.new d.shift = rw low at d.piece in
      record {
        height = 0;
        offset = d.offset;
        number = d.number;
        shift = d.shift;
        before = a ∷ d.before;
        old = d.old;
        new = d.new;
        beside = d.beside;
        after = d.after;
        height_is = refl;
        piece = piece;
        was = ap (λ (t : List ℕ). a ∷ t) d.was;
        now = ap (λ (t : List ℕ). a ∷ t) d.now;
        place_is = omega (arith, d.place_is);
        left_is = omega (arith, d.place_is, piece.0);
        number_is = λ h i. absurd (omega arith);
        front = λ i. absurd (omega arith);
        next = λ i q n. next q (omega arith);
        most = omega arith;
        parent = λ l. absurd (omega arith);
        outer = λ i. d.outer low;
      }
    where
      next : (q : ℕ) → p ≡ q → d.number ≡ get_or (a ∷ labels f w 0 (a + w 0)) q 0 + w 0
      next zero e = d.front e
      next (suc q) e = d.next (omega (arith, d.most)) q e

  -- right of a node
  flat_right : (g f : Forest) (j p x a : ℕ) → size g < p → Flat s r w f (suc j) (p - size g) x (a + w (suc j)) → Flat s r w (node g f) (suc j) p x a
  unfolding labels
  flat_right g f j p x a n d =
      let left = labels g w j a in
      let n_left = length_labels g w j a in
      let n_before = length-append left d.before in
      let e : (h : ℕ) → _ = λ h. at_right g f w (suc j) h p a n in
      record {
        height = d.height;
        offset = d.offset;
        number = d.number;
        shift = d.shift;
        before = left ++ d.before;
        old = d.old;
        new = d.new;
        beside = d.beside;
        after = d.after;
        height_is = height_right g f s r (suc j) p n ∙ d.height_is;
        piece = d.piece;
        was = ap (λ (t : List ℕ). left ++ t) d.was ∙ sym (append_assoc left d.before _);
        now = rw (put_right g f s r (suc j) p x n) (ap (λ (t : List ℕ). left ++ t) d.now ∙ sym (append_assoc left d.before _));
        place_is = omega (arith, d.place_is);
        left_is = omega (arith, (e d.height).1, d.left_is);
        number_is = λ h i. (e (suc h)).0 ∙ d.number_is h i;
        front = λ i. absurd (omega arith);
        next = λ i q m. d.next i (q - size g) (omega arith) ∙ ap (λ (l : ℕ). l + w 0) (sym (label_beyond g f w j a q (omega arith)));
        most = d.most;
        parent = λ l.
            let o = d.parent l in
            let u = e (suc d.height) in
            record { left = omega (arith, o.left, u.1); border_is = omega (arith, o.border_is, u); room = omega (arith, o.room, u.2) };
        outer = d.outer;
      }

  -- a node that is split
  pub flat_split : (g f : Forest) (j p x a : ℕ) → 2 ≤ s → 2 ≤ r → Good s r g j → p ≤ size g → suc (size g) ≡ s * r ^ suc j → Flat s r w (node g f) (suc j) p x a
  unfolding labels
  flat_split g f j p x a s_least r_least good fits full =
      let row = insert_at p (x ∷ []) (leaves g) in
      let v = w (suc j) in
      let e = at_here g f w (suc j) (suc j) p a fits refl in
      let s' : s ≡ suc (s - 1) = omega arith in
      let end : a + s * v ≡ a + v + (s - 1) * v = omega (arith, ap (λ (k : ℕ). k * v) s', suc-mul (s - 1) v) in
      let trees_are = trees_spread j r s row r_least (split_length p x g ∙ full) in
      record {
        height = suc j;
        offset = p;
        number = a;
        shift = (s - 1) * v;
        before = [];
        old = labels g w j a;
        new = labels (spread (suc j) r row) w (suc j) a;
        beside = labels f w (suc j) (a + v);
        after = [];
        height_is = height_split g f s r (suc j) p fits full;
        piece = record { under = g; good = good; limit = full; fits = fits; old_is = refl; new_is = refl; shift_is = refl };
        was = rw append-nil;
        now = rw (put_split g f s r (suc j) p x fits full, labels_joined (spread (suc j) r row) f w (suc j) a, trees_are, end, labels_shift f w (suc j) (a + v) ((s - 1) * v), append-nil);
        place_is = omega arith;
        left_is = e.1;
        number_is = λ h i. ap (λ (k : ℕ). node_number (node g f) w (suc j) k p a) (sym i) ∙ e.0;
        front = λ i. refl;
        next = λ i. absurd (omega arith);
        most = omega arith;
        parent = λ l. absurd (omega arith);
        outer = λ i. refl;
      }

  -- under a node that is not
  pub flat_below : (g f : Forest) (j p x a : ℕ) → p ≤ size g → size g < s * r ^ suc j → (suc (size g) ≡ s * r ^ suc j → ⊥) → Flat s r w g j p x a →
      Flat s r w (node g f) (suc j) p x a
  unfolding labels
  flat_below g f j p x a fits limit room d =
      let right = labels f w (suc j) (a + w (suc j)) in
      let most = d.most in
      let e = at_inside g f w (suc j) d.height p a fits (omega arith) in
      record {
        height = d.height;
        offset = d.offset;
        number = d.number;
        shift = d.shift;
        before = d.before;
        old = d.old;
        new = d.new;
        beside = d.beside;
        after = d.after ++ right;
        height_is = height_below g f s r (suc j) p fits room ∙ d.height_is;
        piece = d.piece;
        was = ap (λ (t : List ℕ). t ++ right) d.was ∙ simp append_assoc;
        now = rw (put_below g f s r (suc j) p x fits room) (ap (λ (t : List ℕ). t ++ right) d.now ∙ simp append_assoc);
        place_is = d.place_is;
        left_is = e.1 ∙ d.left_is;
        number_is = λ h i. (at_inside g f w (suc j) (suc h) p a fits (omega arith)).0 ∙ d.number_is h i;
        front = d.front;
        next = λ i q m. d.next i q m ∙ ap (λ (l : ℕ). l + w 0) (sym (label_inside g f w j a q (omega arith)));
        most = omega arith;
        parent = λ l. by_test (eqb j d.height) (λ t. here (eqb-true j d.height t)) (λ t. inside (eqb-false j d.height t));
        outer = λ i. absurd (omega arith);
      }
    where
      here : j ≡ d.height → Parent s r (node g f) (suc j) d.height p (length d.before) (length d.old + length d.beside)
      here i =
          let e = at_here g f w (suc j) (suc d.height) p a fits (ap suc i) in
          let all = d.was ∙ ap (λ (t : List ℕ). d.before ++ (d.old ++ (d.beside ++ t))) (d.outer (sym i)) in
          let n = simp (length-append, append-nil) at (ap length all) in
          record {
            left = omega (arith, e.1);
            border_is = omega (arith, e.1, e.2, n, length_labels g w j a);
            room = rw (← i) (omega (arith, (at_here g f w (suc j) (suc j) p a fits refl).2));
          }

      inside : (j ≡ d.height → ⊥) → Parent s r (node g f) (suc j) d.height p (length d.before) (length d.old + length d.beside)
      inside n =
          let e = at_inside g f w (suc j) (suc d.height) p a fits (λ i. n (omega arith)) in
          let o = d.parent (omega (arith, d.most)) in
          record { left = omega (arith, e.1, o.left); border_is = omega (arith, e.1, e.2, o.border_is); room = omega (arith, e.2, o.room) }

module _ {s r : ℕ} (w : ℕ → ℕ) (s_least : 2 ≤ s) (r_least : 2 ≤ r) where
  flat_node : (g f : Forest) (j p x a : ℕ) → Good s r (node g f) (suc j) → Turn (size g) p (s * r ^ suc j) →
      (size g < p → Flat s r w f (suc j) (p - size g) x (a + w (suc j))) → (p ≤ size g → Flat s r w g j p x a) → Flat s r w (node g f) (suc j) p x a
  flat_node g f j p x a k (right h) onward inside = flat_right s r w g f j p x a h (onward h)
  flat_node g f j p x a k (split h e) onward inside = flat_split s r w g f j p x a s_least r_least k.2 h e
  flat_node g f j p x a k (below h n) onward inside = flat_below s r w g f j p x a h k.1 n (inside h)

  -- every insertion into a good forest is such; a tag goes into an empty forest only at height 0
  pub flat : (f : Forest) (j p x a : ℕ) → Good s r f j → p ≤ size f → (size f ≡ 0 → j ≡ 0) → Flat s r w f j p x a
  unfolding leaves put split_height left_in
  flat nil j p x a k fits some =
      let j' : j ≡ 0 = some refl in
      let p' : p ≡ 0 = omega arith in
      rw (j', p') (flat_front s r w nil x a refl refl refl)
  flat (leaf z f) zero zero x a k fits some = flat_front s r w (leaf z f) x a refl refl refl
  flat (leaf z f) zero (suc p) x a k fits some = flat_leaf s r w z f p x a (flat f zero p x (a + w 0) k (omega arith) (λ e. refl))
  flat (leaf z f) (suc j) p x a k fits some = absurd k
  flat (node g f) zero p x a k fits some = absurd k
  flat (node g f) (suc j) p x a k fits some =
      let both = size_node g f in
      flat_node g f j p x a k (turn (size g) p (s * r ^ suc j))
      (λ h. flat f (suc j) (p - size g) x (a + w (suc j)) k.3 (omega arith) (λ e. absurd (omega arith)))
      (λ h. flat g j p x a k.2 h (λ e. absurd (omega (arith, k.0, some_power r (suc j) r_least))))
