-- The ancestors of a place in a good forest, read off the labels: how many leaves stand left of one and under it are
-- counts of labels, and its number is found from that of its parent and one label. Assumes nothing.
use mathlib.Core.Path.{◌≡◌, refl, ap, sym, ◌∙◌}
use mathlib.Core.Bool.{Bool, true, false, ◌&&◌, cond}
use mathlib.Core.List.{List, [], ◌∷◌, ◌++◌, append_assoc}
use Prim.Native.Nat.{ℕ, zero, suc, pred, ◌+◌, ◌*◌, ◌-◌, ◌/◌, ◌^◌, ◌≤◌, ◌<◌}
use native.Mathlib.Nat.{suc-mul, one-le-pow, le_refl, lt_of_mul-lt-mul_right, div-mul-le_self, lt-div-mul-add}
use native.Mathlib.Omega.{arith}
use borrow.Author.Tests.{lt-ltb, le-ltb, le-leb, lt-leb, eq-eqb, ne_eqb, ltb-true, ltb-false, eqb-true, eqb-false}
use lib.Dec.{ltb, leb, eqb}
use lib.ListN.{length, get_or, length-append, get_or-append}
use lib.Seq.{get_or-append-add}
use Rattle.lists.specs.Lists.{how_many}
use Rattle.lists.proofs.HowMany.{how_many_append}
use Rattle.tree.specs.Good.{Good}
use Rattle.tree.specs.Forest.{Forest, nil, leaf, node, leaves, size, labels}
use Rattle.tree.specs.Reach.{left_in, size_in}
use Rattle.tree.specs.Promise.{Widths}
use Rattle.tree_laws.proofs.Labels.{trees, next_end, Rising, rising_order, rising_higher, rising_append, rising_from, rising_below, width_least, good_rising, node_rising, children_fit, length_labels}

-- how many numbers of a list lie in [low, high)
abbrev pub count_within : (low high : ℕ) → List ℕ → ℕ
count_within a b ls = how_many (λ l. leb a l && ltb l b) ls

-- the number of the tree of height h that p goes into, in a forest of height j numbered from a
unfoldable pub node_number : Forest → (width : ℕ → ℕ) → (j h p a : ℕ) → ℕ
node_number nil w j h p a = a
node_number (leaf z f) w j h p a = a
node_number (node g f) w j h p a =
    let right = node_number f w j h (p - size g) (a + w j) in
    let inside = node_number g w (pred j) h p a in
    cond (ltb (size g) p) right (cond (eqb j h) a inside)

-- COUNTS of rising numbers
pub count_all : (a b c d : ℕ) (ls : List ℕ) → Rising c d ls → a ≤ c → d ≤ b → count_within a b ls ≡ length ls
unfolding how_many
count_all a b c d [] r low high = refl
count_all a b c d (l ∷ ls) r low high =
    rw (le-leb a l (omega (arith, r.0)), lt-ltb l b (omega (arith, rising_order (suc l) d ls r.1))) (omega (arith, count_all a b (suc l) d ls r.1 (omega (arith, r.0)) high))

pub count_below : (a b c d : ℕ) (ls : List ℕ) → Rising c d ls → d ≤ a → count_within a b ls ≡ 0
unfolding how_many
count_below a b c d [] r low = refl
count_below a b c d (l ∷ ls) r low =
    rw (lt-leb a l (omega (arith, rising_order (suc l) d ls r.1))) (omega (arith, count_below a b (suc l) d ls r.1 low))

pub count_above : (a b c d : ℕ) (ls : List ℕ) → Rising c d ls → b ≤ c → count_within a b ls ≡ 0
unfolding how_many
count_above a b c d [] r high = refl
count_above a b c d (l ∷ ls) r high = go (leb a l) (le-ltb l b (omega (arith, r.0))) (count_above a b (suc l) d ls r.1 (omega (arith, r.0)))
  where
    go : (t : Bool) {u : Bool} {n : ℕ} → u ≡ false → n ≡ 0 → cond (t && u) 1 0 + n ≡ 0
    go true e z = rw (e, z)
    go false e z = rw z

pub getD_middle : (xs ys zs : List ℕ) (i k : ℕ) → k ≡ length xs + i → i < length ys → get_or (xs ++ (ys ++ zs)) k 0 ≡ get_or ys i 0
getD_middle xs ys zs i k e short = rw e (get_or-append-add xs (ys ++ zs) i 0 ∙ get_or-append ys zs 0 i short)

-- THE THREE WAYS at a node of height j, where the tree of height h is sought: right of it, itself, under it
pub three_ways : {A : Type 0} (size p j h : ℕ) → (size < p → A) → (p ≤ size → j ≡ h → A) → (p ≤ size → (j ≡ h → ⊥) → A) → A
three_ways {A} n p j h right here inside = go (ltb n p) (eqb j h) refl refl
  where
    go : (t u : Bool) → ltb n p ≡ t → eqb j h ≡ u → A
    go true u e d = right (ltb-true n p e)
    go false true e d = here (ltb-false n p e) (eqb-true j h d)
    go false false e d = inside (ltb-false n p e) (eqb-false j h d)

module _ (g f : Forest) (w : ℕ → ℕ) (j h p a : ℕ) where
  pub at_right : size g < p →
      (node_number (node g f) w j h p a ≡ node_number f w j h (p - size g) (a + w j))
      × (left_in (node g f) j h p ≡ size g + left_in f j h (p - size g))
      × (size_in (node g f) j h p ≡ size_in f j h (p - size g))
  unfolding node_number left_in size_in
  at_right n = let e = lt-ltb (size g) p n in (rw e, rw e, rw e)

  pub at_here : p ≤ size g → j ≡ h →
      (node_number (node g f) w j h p a ≡ a) × (left_in (node g f) j h p ≡ 0) × (size_in (node g f) j h p ≡ size g)
  unfolding node_number left_in size_in
  at_here n i = let e = le-ltb (size g) p n in let d = eq-eqb j h i in (rw (e, d), rw (e, d), rw (e, d))

  pub at_inside : p ≤ size g → (j ≡ h → ⊥) →
      (node_number (node g f) w j h p a ≡ node_number g w (pred j) h p a)
      × (left_in (node g f) j h p ≡ left_in g (pred j) h p)
      × (size_in (node g f) j h p ≡ size_in g (pred j) h p)
  unfolding node_number left_in size_in
  at_inside n i = let e = le-ltb (size g) p n in let d = ne_eqb j h i in (rw (e, d), rw (e, d), rw (e, d))

-- THE NUMBERS, from the top down: a tree's number is its parent's (the forest's first number) plus a multiple of its width
pub number_top : (f : Forest) (w : ℕ → ℕ) (j p a : ℕ) → (i : ℕ) × (node_number f w j j p a ≡ a + i * w j)
unfolding node_number
number_top nil w j p a = (0, omega arith)
number_top (leaf z f) w j p a = (0, omega arith)
number_top (node g f) w j p a =
    let ih = number_top f w j (p - size g) (a + w j) in
    three_ways (size g) p j j
    (λ n. (suc ih.0, (at_right g f w j j p a n).0 ∙ ih.1 ∙ next_end a (w j) ih.0))
    (λ n e. (0, (at_here g f w j j p a n e).0 ∙ omega arith))
    (λ n e. absurd (e refl))

pub number_next : (f : Forest) (w : ℕ → ℕ) (j h p a : ℕ) → h < j → (i : ℕ) × (node_number f w j h p a ≡ node_number f w j (suc h) p a + i * w h)
unfolding node_number
number_next nil w j h p a below = (0, omega arith)
number_next (leaf z f) w j h p a below = (0, omega arith)
number_next (node g f) w j h p a below =
    three_ways (size g) p j (suc h)
    (λ n.
    let ih = number_next f w j h (p - size g) (a + w j) below in
    (ih.0, omega (arith, ih.1, (at_right g f w j h p a n).0, (at_right g f w j (suc h) p a n).0)))
    (λ n e.
    let top = number_top g w h p a in
    let inside = (at_inside g f w j h p a n (omega arith)).0 ∙ ap (λ (t : ℕ). node_number g w (pred t) h p a) e in
    (top.0, omega (arith, inside, top.1, (at_here g f w j (suc h) p a n e).0)))
    (λ n i.
    let ih = number_next g w (pred j) h p a (omega arith) in
    (ih.0, omega (arith, ih.1, (at_inside g f w j h p a n (omega arith)).0, (at_inside g f w j (suc h) p a n i).0)))

-- a number m + k * v that a label l lies less than v behind is the greatest such number up to l
multiple_most : (m v l i k : ℕ) → m + k * v ≤ l → l < m + i * v + v → k ≤ i
multiple_most m v l i k low high = let h : k < suc i = lt_of_mul-lt-mul_right v (omega (arith, suc-mul i v)) in omega arith

multiple_same : (m v l i k : ℕ) → m + k * v ≤ l → l < m + k * v + v → m + i * v ≤ l → l < m + i * v + v → m + k * v ≡ m + i * v
multiple_same m v l i k low high i_low i_high =
    let e : k ≡ i = omega (arith, multiple_most m v l i k low i_high, multiple_most m v l k i i_low high) in rw e

-- The tree of height h + 1 that p goes into, in a good forest of height j numbered from a: its children, its number,
-- and the labels before and after its own
pub record Found (s r : ℕ) (w : ℕ → ℕ) (f : Forest) (j h p a : ℕ) : Type 0 where
  pub number : ℕ
  pub under : Forest
  pub before : List ℕ
  pub after : List ℕ
  pub number_is : node_number f w j (suc h) p a ≡ number
  pub left_is : left_in f j (suc h) p ≡ length before
  pub size_is : size_in f j (suc h) p ≡ size under
  pub good : Good s r under h
  pub least : r ^ suc h ≤ size under
  pub most : size under < s * r ^ suc h
  pub whole : labels f w j a ≡ before ++ (labels under w h number ++ after)
  pub low : Rising a number before
  pub high : Rising (number + w (suc h)) (a + trees f * w j) after
  pub from : length before ≤ p - 1
  pub to : p - 1 < length before + size under

module _ {s r : ℕ} {w : ℕ → ℕ} (s_least : 2 ≤ s) (r_least : 2 ≤ r) (widths : Widths s r w) where
  found_right : (g f : Forest) (j h p a : ℕ) → Good s r (node g f) (suc j) → size g < p →
      Found s r w f (suc j) h (p - size g) (a + w (suc j)) → Found s r w (node g f) (suc j) h p a
  unfolding labels
  found_right g f j h p a k n d =
      let e = at_right g f w (suc j) (suc h) p a n in
      let n_labels = length_labels g w j a in
      let n_before = length-append (labels g w j a) d.before in
      record {
        number = d.number;
        under = d.under;
        before = labels g w j a ++ d.before;
        after = d.after;
        number_is = e.0 ∙ d.number_is;
        left_is = omega (arith, e.1, d.left_is);
        size_is = e.2 ∙ d.size_is;
        good = d.good;
        least = d.least;
        most = d.most;
        whole = ap (λ (t : List ℕ). labels g w j a ++ t) d.whole ∙ sym (append_assoc (labels g w j a) d.before _);
        low = rising_append a (a + w (suc j)) d.number (labels g w j a) d.before (node_rising s_least r_least widths g j a k.2 k.1) d.low;
        high = rw next_end at d.high;
        from = omega (arith, d.from);
        to = omega (arith, d.to);
      }

  found_here : (g f : Forest) (h p a : ℕ) → Good s r (node g f) (suc h) → p ≤ size g → Found s r w (node g f) (suc h) h p a
  unfolding labels
  found_here g f h p a k n =
      let e = at_here g f w (suc h) (suc h) p a n refl in
      let some = one-le-pow (suc h) r (omega arith) in
      record {
        number = a;
        under = g;
        before = [];
        after = labels f w (suc h) (a + w (suc h));
        number_is = e.0;
        left_is = e.1;
        size_is = e.2;
        good = k.2;
        least = k.0;
        most = k.1;
        whole = refl;
        low = le_refl a;
        high = rw next_end at (good_rising s_least r_least widths f (suc h) (a + w (suc h)) k.3);
        from = omega arith;
        to = omega (arith, k.0);
      }

  found_inside : (g f : Forest) (j h p a : ℕ) → Good s r (node g f) (suc j) → p ≤ size g → (suc j ≡ suc h → ⊥) →
      Found s r w g j h p a → Found s r w (node g f) (suc j) h p a
  unfolding labels
  found_inside g f j h p a k n i d =
      let e = at_inside g f w (suc j) (suc h) p a n i in
      let right = labels f w (suc j) (a + w (suc j)) in
      record {
        number = d.number;
        under = d.under;
        before = d.before;
        after = d.after ++ right;
        number_is = e.0 ∙ d.number_is;
        left_is = e.1 ∙ d.left_is;
        size_is = e.2 ∙ d.size_is;
        good = d.good;
        least = d.least;
        most = d.most;
        whole = ap (λ (t : List ℕ). t ++ right) d.whole ∙ simp append_assoc;
        low = d.low;
        high = rising_append _ (a + w (suc j)) _ d.after right
            (rising_higher _ _ (a + w (suc j)) d.after (omega (arith, children_fit s_least r_least widths g j k.2 k.1)) d.high)
            (rw next_end at (good_rising s_least r_least widths f (suc j) (a + w (suc j)) k.3));
        from = d.from;
        to = d.to;
      }

  pub found : (f : Forest) (j h p a : ℕ) → Good s r f j → h < j → p ≤ size f → 1 ≤ size f → Found s r w f j h p a
  unfolding leaves
  found nil j h p a k below fits some = absurd (omega arith)
  found (leaf z f) zero h p a k below fits some = absurd (omega arith)
  found (leaf z f) (suc j) h p a k below fits some = absurd k
  found (node g f) zero h p a k below fits some = absurd k
  found (node g f) (suc j) h p a k below fits some =
      let both = length-append (leaves g) (leaves f) in
      three_ways (size g) p j h
      (λ n. found_right g f j h p a k n (found f (suc j) h (p - size g) (a + w (suc j)) k.3 below (omega arith) (omega arith)))
      (λ n e. rw e (found_here g f h p a (rw e at k) n))
      (λ n i. found_inside g f j h p a k n (λ e. i (omega arith)) (found g j h p a k.2 (omega arith) n (omega (arith, k.0, one-le-pow (suc j) r (omega arith)))))

  -- LEFT OF that tree stand as many leaves as labels lie below its number; UNDER it as many as lie within its width;
  -- and the p-th label (the first, where p is 0) is one of these
  module _ {f : Forest} {j h p a : ℕ} (d : Found s r w f j h p a) where
    own : Rising d.number (d.number + w (suc h)) (labels d.under w h d.number)
    own = node_rising s_least r_least widths d.under h d.number d.good d.most

    count_parts : (x y : ℕ) → count_within x y (labels f w j a)
        ≡ count_within x y d.before + (count_within x y (labels d.under w h d.number) + count_within x y d.after)
    count_parts x y = rw d.whole (simp how_many_append)

    pub left_count : count_within 0 (node_number f w j (suc h) p a) (labels f w j a) ≡ left_in f j (suc h) p
    left_count =
        let n = d.number in
        let e = n + w (suc h) in
        rw (d.number_is, d.left_is) (omega (
          arith,
          count_parts 0 n,
          count_all 0 n a n d.before d.low (omega arith) (le_refl n),
          count_above 0 n n e (labels d.under w h n) own (le_refl n),
          count_above 0 n e (a + trees f * w j) d.after d.high (omega arith),
        ))

    pub size_count : count_within (node_number f w j (suc h) p a) (node_number f w j (suc h) p a + w (suc h)) (labels f w j a) ≡ size_in f j (suc h) p
    size_count =
        let n = d.number in
        let e = n + w (suc h) in
        rw (d.number_is, d.size_is) (omega (
          arith,
          count_parts n e,
          count_below n e a n d.before d.low (le_refl n),
          count_all n e n e (labels d.under w h n) own (le_refl n) (le_refl e),
          length_labels d.under w h n,
          count_above n e e (a + trees f * w j) d.after d.high (le_refl e),
        ))

    pub label_within : (node_number f w j (suc h) p a ≤ get_or (labels f w j a) (p - 1) 0)
        × (get_or (labels f w j a) (p - 1) 0 < node_number f w j (suc h) p a + w (suc h))
    label_within =
        let n = d.number in
        let e = n + w (suc h) in
        let mine = labels d.under w h n in
        let i = p - 1 - length d.before in
        let short : i < length mine = omega (arith, length_labels d.under w h n, d.from, d.to) in
        let same : get_or (labels f w j a) (p - 1) 0 ≡ get_or mine i 0 =
        rw d.whole (getD_middle d.before mine d.after i (p - 1) (omega (arith, d.from)) short) in
        rw (d.number_is, same) (rising_from n e mine own i short, rising_below n e mine own i short)

    -- SO THE LABEL TELLS THE NUMBER, that of the parent (at the top, of the forest) being m: the multiple of the width
    -- is the one that brings it within a width of the label
    pub number_by_label : (m i : ℕ) → (k : ℕ) × (node_number f w j (suc h) p a ≡ m + k * w (suc h)) →
        m + i * w (suc h) ≤ get_or (labels f w j a) (p - 1) 0 → get_or (labels f w j a) (p - 1) 0 < m + i * w (suc h) + w (suc h) →
        node_number f w j (suc h) p a ≡ m + i * w (suc h)
    number_by_label m i k low high =
        let l = get_or (labels f w j a) (p - 1) 0 in
        k.1 ∙ multiple_same m (w (suc h)) l i k.0 (rw k.1 at label_within.0) (rw k.1 at label_within.1) low high

    pub number_by_quotient : (m : ℕ) → (k : ℕ) × (node_number f w j (suc h) p a ≡ m + k * w (suc h)) →
        node_number f w j (suc h) p a ≡ m + (get_or (labels f w j a) (p - 1) 0 - m) / w (suc h) * w (suc h)
    number_by_quotient m k =
        let l = get_or (labels f w j a) (p - 1) 0 in
        let reach : m ≤ l = omega (arith, k.1, label_within.0) in
        number_by_label m ((l - m) / w (suc h)) k
        (omega (arith, div-mul-le_self (l - m) (w (suc h)))) (omega (arith, lt-div-mul-add {a = l - m} (width_least s_least r_least widths (suc h))))

-- an ancestor is over no more leaves than there are
pub size_most : (f : Forest) (j h p : ℕ) → size_in f j h p ≤ size f
unfolding size_in leaves
size_most nil j h p = omega arith
size_most (leaf z f) j h p = omega arith
size_most (node g f) j h p =
    let both = length-append (leaves g) (leaves f) in
    three_ways (size g) p j h
    (λ n. omega (arith, (at_right g f (λ i. 0) j h p 0 n).2, size_most f j h (p - size g)))
    (λ n e. omega (arith, (at_here g f (λ i. 0) j h p 0 n e).2))
    (λ n e. omega (arith, (at_inside g f (λ i. 0) j h p 0 n e).2, size_most g (pred j) h p))
