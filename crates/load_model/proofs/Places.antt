-- The label of a place in the trees that `spread` builds: by the node of each height that holds it. Assumes nothing.
use mathlib.Core.Path.{◌≡◌, ap, sym, ◌∙◌}
use mathlib.Core.List.{List, [], ◌∷◌, append-nil}
use mathlib.Core.Logic.{◌⊎◌, inl, inr, ⊎_elim}
use Prim.Native.Nat.{ℕ, zero, suc, ◌+◌, ◌*◌, ◌-◌, ◌^◌, ◌≤◌, ◌<◌}
use native.Mathlib.Nat.{suc-mul, one-mul, mul-one, mul_comm, mul-add, add-mul, mul_assoc, add-zero, pow-succ', pow-zero, mul-le-mul_right, lt_of_mul-lt-mul_right, not-suc-le-zero, sub-zero}
use native.Mathlib.Omega.{arith}
use borrow.Author.Tests.{ltb-true, ltb-false}
use lib.Dec.{ltb}
use lib.ListN.{length, get_or, take, drop, get_or-append}
use lib.Pow.{pow-add}
use lib.Seq.{get_or-append-add}
use Rattle.lists.proofs.Tests.{by_test}
use Rattle.tree.specs.Forest.{Forest, leaves, labels, leaf_row, parts, spread}
use Rattle.tree_laws.proofs.Labels.{length_labels, next_end}
use Rattle.tree_laws.proofs.Spread.{parts_one, parts_more, front_cut, rest_cut, parts_in, some_power, lower_power, spread_zero, spread_suc, leaves_below}

-- NODE k over e leaves holds place i of n: it begins at k times e, and the last takes all that remain
pub record Holds (e n i k : ℕ) : Type 0 where
  pub from : k * e ≤ i
  pub whole : suc k * e ≤ n
  pub to : suc (suc k) * e ≤ n → i < suc k * e

-- A NODE'S LEAVES within a row of l from place q times f on: the same nodes, q fewer before them
module _ (f q n l i m k : ℕ) (some : 1 ≤ f) (own : f ≤ l) (h : Holds f n i k) (place : i ≡ m + q * f) (room : l + q * f ≤ n) where
  pub before : q ≤ k
  before =
      by_test (ltb k q)
      (λ e.
      let past = mul-le-mul_right f (ltb-true k q e) in
      absurd (omega (arith, past, suc-mul (suc k) f, h.to (omega (arith, past, suc-mul (suc k) f)))))
      (λ e. ltb-false k q e)

  pub inside : ((p : ℕ) → p * f ≤ m → suc (p + q) * f ≤ n → suc p * f ≤ l) → Holds f l m (k - q)
  inside fits =
      let p = k - q in
      let e : k ≡ p + q = omega (arith, before) in
      let sum : k * f ≡ p * f + q * f = ap (λ (x : ℕ). x * f) e ∙ add-mul p q f in
      let from : p * f ≤ m = omega (arith, h.from) in
      record {
        from = from;
        whole = fits p from (rw (← e) h.whole);
        to = λ t. omega (arith, sum, suc-mul k f, suc-mul (suc k) f, suc-mul p f, suc-mul (suc p) f, h.to (omega (arith, sum, suc-mul k f, suc-mul (suc k) f, suc-mul p f, suc-mul (suc p) f)));
      }

-- A ROW OF LEAVES one apart
row_label : (xs : List ℕ) (w : ℕ → ℕ) (a i : ℕ) → w 0 ≡ 1 → i < length xs → get_or (labels (leaf_row xs) w 0 a) i 0 ≡ a + i
unfolding labels leaf_row
row_label [] w a i one l = absurd (not-suc-le-zero l)
row_label (x ∷ xs) w a zero one l = sym (add-zero a)
row_label (x ∷ xs) w a (suc i) one l = omega (arith, row_label xs w (a + w 0) i one (omega arith))

-- NODES OVER A ROW: place m of the part that the k-th of suc c holds
record Part (c k m e : ℕ) (g : List ℕ → Forest) (xs : List ℕ) (w : ℕ → ℕ) (j a : ℕ) : Type 0 where
  row : List ℕ
  enough : e ≤ length row
  inner : k < c → length row ≡ e
  last : k ≡ c → length row + k * e ≡ length xs
  label_is : get_or (labels (parts (suc c) e g xs) w (suc j) a) (m + k * e) 0 ≡ get_or (labels (g row) w j (a + k * w (suc j))) m 0

module _ (e : ℕ) (g : List ℕ → Forest) (whole : (ys : List ℕ) → e ≤ length ys → leaves (g ys) ≡ ys) (w : ℕ → ℕ) (j : ℕ) where
  as_many : (ys : List ℕ) (a : ℕ) → e ≤ length ys → length (labels (g ys) w j a) ≡ length ys
  as_many ys a l = length_labels (g ys) w j a ∙ ap length (whole ys l)

  part_at : (c k m : ℕ) (xs : List ℕ) (a : ℕ) → k ≤ c → suc c * e ≤ length xs → (k < c → m < e) → Part c k m e g xs w j a
  unfolding labels
  part_at zero zero m xs a below fits inside =
      record {
        row = xs;
        enough = omega (arith, one-mul e);
        inner = λ l. absurd (omega arith);
        last = λ s. omega arith;
        label_is = let z : m + 0 * e ≡ m = omega arith in let y : a + 0 * w (suc j) ≡ a = omega arith in rw (parts_one, append-nil, z, y);
      }
  part_at zero (suc k) m xs a below fits inside = absurd (omega arith)
  part_at (suc c) zero m xs a below fits inside =
      let front = front_cut (suc c) e xs fits in
      let z : m + 0 * e ≡ m = omega arith in
      let y : a + 0 * w (suc j) ≡ a = omega arith in
      record {
        row = take e xs;
        enough = omega arith;
        inner = λ l. front;
        last = λ s. absurd (omega arith);
        label_is = rw (parts_more, z, y) (get_or-append (labels (g (take e xs)) w j a) _ 0 m (omega (arith, as_many (take e xs) a (omega arith), inside (omega arith))));
      }
  part_at (suc c) (suc k) m xs a below fits inside =
      let front = front_cut (suc c) e xs fits in
      let rest = rest_cut (suc c) e xs fits in
      let p = part_at c k m (drop e xs) (a + w (suc j)) (omega arith) (omega (arith, rest, suc-mul (suc c) e)) (λ l. inside (omega arith)) in
      let first = labels (g (take e xs)) w j a in
      let z : m + suc k * e ≡ length first + (m + k * e) = omega (arith, as_many (take e xs) a (omega arith), suc-mul k e) in
      record {
        row = p.row;
        enough = p.enough;
        inner = λ l. p.inner (omega arith);
        last = λ s. omega (arith, p.last (omega arith), suc-mul k e);
        label_is = rw (parts_more, z, get_or-append-add first, ← next_end a (w (suc j)) k) p.label_is;
      }

-- GAPS: how far a node of each height begins behind what its leaves would have as neighbours; and all that a place has behind it
unfoldable pub raised : (d ks : ℕ → ℕ) → (u : ℕ) → ℕ
raised d ks zero = 0
raised d ks (suc u) = raised d ks u + ks (suc u) * d (suc u)

module _ (r : ℕ) (r_least : 2 ≤ r) (w d : ℕ → ℕ) (first : w 0 ≡ 1) (highest : ℕ) (apart : (j : ℕ) → j < highest → w (suc j) ≡ r * w j + d (suc j)) where
  -- k nodes of height t more before a place are so many of height j
  abbrev nodes : (t k j : ℕ) → ℕ
  nodes t k j = k * r ^ (t - j)

  nodes_next : (t k j : ℕ) → j < t → nodes t k j ≡ nodes t k (suc j) * r
  nodes_next t k j l =
      let e : t - j ≡ suc (t - suc j) = omega arith in
      rw (e, pow-succ', mul_comm r, mul_assoc)

  nodes_one : (u k : ℕ) → nodes (suc u) k u ≡ k * r
  nodes_one u k =
      let e : suc u - u ≡ suc 0 = omega arith in
      rw (e, pow-succ', pow-zero, mul-one)

  power_split : (t j : ℕ) → j ≤ t → r ^ (t - j) * r ^ j ≡ r ^ t
  power_split t j l =
      let e : (t - j) + j ≡ t = omega arith in
      sym (pow-add r (t - j) j) ∙ ap (λ (x : ℕ). r ^ x) e

  nodes_leaves : (t k j : ℕ) → j ≤ t → nodes t k j * r ^ j ≡ k * r ^ t
  nodes_leaves t k j l = mul_assoc k (r ^ (t - j)) (r ^ j) ∙ ap (λ (x : ℕ). k * x) (power_split t j l)

  raised_behind : (t k : ℕ) (ks ls : ℕ → ℕ) (u : ℕ) → u ≤ t → t ≤ highest → ((j : ℕ) → 1 ≤ j → j ≤ u → ks j ≡ ls j + nodes t k j) →
      k * r ^ t + raised d ks u ≡ raised d ls u + nodes t k u * w u
  unfolding raised
  raised_behind t k ks ls zero l high e = rw (first, mul-one, sub-zero) (omega arith)
  raised_behind t k ks ls (suc u) l high e =
      let c = nodes t k (suc u) in
      let own : ks (suc u) * d (suc u) ≡ ls (suc u) * d (suc u) + c * d (suc u) = rw (e (suc u) (omega arith) (omega arith)) (add-mul (ls (suc u)) c (d (suc u))) in
      let wide : c * w (suc u) ≡ c * (r * w u) + c * d (suc u) = rw (apart u (omega arith)) (mul-add c (r * w u) (d (suc u))) in
      let below : nodes t k u * w u ≡ c * (r * w u) = rw (nodes_next t k u (omega arith)) (mul_assoc c r (w u)) in
      omega (arith, own, wide, below, raised_behind t k ks ls u (omega arith) high (λ j m n. e j m (omega arith)))

  -- THE PART of a row of n that node k over r^t leaves holds: l leaves, of which place i is the one numbered m
  record Under (t k n l i m : ℕ) : Type 0 where
    place : i ≡ m + k * r ^ t
    enough : r ^ t ≤ l
    room : l + k * r ^ t ≤ n
    below : m < l
    ends : (l + k * r ^ t ≡ n) ⊎ (l ≡ r ^ t)

  module _ (t k n l i m : ℕ) (part : Under t k n l i m) (j x : ℕ) (low : j ≤ t) (h : Holds (r ^ j) n i x) where
    abbrev f : ℕ
    f = r ^ j

    abbrev q : ℕ
    q = nodes t k j

    own : f ≤ l
    own =
        let le = mul-le-mul_right f (some_power r (t - j) r_least) in
        omega (arith, part.enough, one-mul f, power_split t j low, le)

    fits : (p : ℕ) → p * f ≤ m → suc (p + q) * f ≤ n → suc p * f ≤ l
    fits p from whole =
        ⊎_elim
        (λ last. omega (arith, add-mul (suc p) q f, nodes_leaves t k j low))
        (λ inner.
        let less : p * f < r ^ (t - j) * f = omega (arith, power_split t j low, part.below) in
        omega (arith, mul-le-mul_right f (lt_of_mul-lt-mul_right f less), power_split t j low))
        part.ends

    held_before : q ≤ x
    held_before =
        before f q n l i m x (some_power r j r_least) own h (omega (arith, part.place, nodes_leaves t k j low)) (omega (arith, part.room, nodes_leaves t k j low))

    held_inside : Holds f l m (x - q)
    held_inside =
        inside f q n l i m x (some_power r j r_least) own h (omega (arith, part.place, nodes_leaves t k j low)) (omega (arith, part.room, nodes_leaves t k j low)) fits

  -- THE LABEL OF PLACE i
  pub place_label : (u : ℕ) (xs : List ℕ) (a i : ℕ) (ks : ℕ → ℕ) → u ≤ highest → (1 ≤ u → r ^ u ≤ length xs) → i < length xs →
      ((j : ℕ) → 1 ≤ j → j ≤ u → Holds (r ^ j) (length xs) i (ks j)) → get_or (labels (spread u r xs) w u a) i 0 ≡ a + (i + raised d ks u)
  unfolding raised
  place_label zero xs a i ks high least l h = rw spread_zero (row_label xs w a i first l ∙ omega arith)
  place_label (suc u) xs a i ks high least l h =
      let e = r ^ suc u in
      let n = length xs in
      let k = ks (suc u) in
      let top = h (suc u) (omega arith) (omega arith) in
      let ps = parts_in n e (some_power r (suc u) r_least) (least (omega arith)) in
      let c = ps.more in
      let fewer : suc k * e < suc (suc c) * e = omega (arith, top.whole, ps.high) in
      let low : k ≤ c = omega (arith, lt_of_mul-lt-mul_right e fewer) in
      let m = i - k * e in
      let place : i ≡ m + k * e = omega (arith, top.from) in
      let near : k < c → m < e =
      λ t. let more : suc (suc k) ≤ suc c = omega arith in
      omega (arith, suc-mul k e, top.to (omega (arith, ps.low, mul-le-mul_right e more))) in
      let p = part_at e (λ ys. spread u r ys) (leaves_below u r r_least) w u c k m xs a low ps.low near in
      let under : Under (suc u) k n (length p.row) i m =
      by_test (ltb k c)
      (λ t. let s = p.inner (ltb-true k c t) in
      record { place = place; enough = p.enough; room = omega (arith, top.whole, suc-mul k e); below = omega (arith, near (ltb-true k c t)); ends = inr s })
      (λ t. let s = p.last (omega (arith, ltb-false k c t)) in
      record { place = place; enough = p.enough; room = omega arith; below = omega arith; ends = inl s }) in
      let ls : ℕ → ℕ = λ j. ks j - nodes (suc u) k j in
      let behind =
      place_label u p.row (a + k * w (suc u)) m ls (omega arith) (λ t. lower_power r u (length p.row) r_least p.enough) under.below
      (λ j s t. held_inside (suc u) k n (length p.row) i m under j (ks j) (omega arith) (h j s (omega arith))) in
      let moved =
      raised_behind (suc u) k ks ls u (omega arith) high
      (λ j s t. omega (arith, held_before (suc u) k n (length p.row) i m under j (ks j) (omega arith) (h j s (omega arith)))) in
      let one : nodes (suc u) k u * w u ≡ k * (r * w u) = rw (nodes_one u k) (mul_assoc k r (w u)) in
      let wide : k * w (suc u) ≡ k * (r * w u) + k * d (suc u) = rw (apart u high) (mul-add k (r * w u) (d (suc u))) in
      rw (spread_suc u r _ xs ps.count)
      (ap (λ (x : ℕ). get_or (labels (parts (suc c) e (λ ys. spread u r ys) xs) w (suc u) a) x 0) place
      ∙ p.label_is ∙ behind ∙ omega (arith, moved, one, wide, place))
