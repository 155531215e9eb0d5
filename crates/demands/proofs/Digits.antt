-- The labels of a good forest have digits that spell it without gaps and within the limits; and labels with such digits are
-- those of a good forest. Assumes nothing.
use mathlib.Core.Path.{◌≡◌, refl, ap, sym, ◌∙◌}
use mathlib.Core.Bool.{true}
use mathlib.Core.List.{List, [], ◌∷◌, ◌++◌}
use Prim.Native.Nat.{ℕ, zero, suc, ◌+◌, ◌*◌, ◌/◌, ◌%◌, ◌^◌, ◌≤◌, ◌<◌}
use native.Mathlib.Nat.{mul-one, zero-mul, zero-mod, mod-add-div', pow-zero, pow-succ', suc-mul, mul_assoc, mul-le-mul, one-le-pow, div-eq_of_lt-le, lt_of_not-le}
use native.Mathlib.Omega.{arith}
use borrow.Author.Tests.{ltb-true, ltb-false, eqb-true, eqb-false}
use lib.Dec.{ltb, eqb}
use lib.ListN.{length, take, drop, length-append, length-take, length-drop, take-append-drop}
use Rattle.lists.proofs.Tests.{by_test}
use Rattle.tree.specs.Good.{Good}
use Rattle.tree.specs.Row.{rises}
use Rattle.tree.specs.Forest.{Forest, nil, leaf, node, leaves, size, labels}
use Rattle.tree.specs.Book.{base}
use Rattle.tree.specs.Promise.{Widths}
use Rattle.tree_laws.proofs.Rows.{member_first, member_later, member_cases}
use Rattle.tree_laws.proofs.Labels.{Rising, rising_lower, rising_order, rising_of, length_labels, node_rising}
use Rattle.demands.specs.Sound.{digit, count_under, Spells}
use Rattle.demands.proofs.Quotients.{quotient_up, quotient_leaf, quotient_from, quotient_below, quotient_grows, sibling_parent, sibling_next, sibling_digit}
use Rattle.demands.proofs.Ancestors.{In, in_left, in_right, in_either, in_none, count_append, count_none, count_all, Inner, Top, Parted, inner_left, inner_right, inner_join, inner_lower, top_under, inner_under}

-- RISING LABELS: where they lie
pub rising_in : (low high l : ℕ) (ls : List ℕ) → Rising low high ls → In l ls → (low ≤ l) × (l < high)
rising_in low high l [] h i = in_none l i
rising_in low high l (k ∷ ks) h i =
    member_cases l k ks i (λ e. rw e (h.0, rising_order (suc k) high ks h.1))
    (λ e m. let q = rising_in (suc k) high l ks h.1 m in (omega (arith, q.0, h.0), q.1))

-- and those below a number, before those from it on
record Split (e low high : ℕ) (ls : List ℕ) : Type 0 where
  lower : List ℕ
  upper : List ℕ
  whole : ls ≡ lower ++ upper
  below : (m : ℕ) → In m lower → m < e
  from : (m : ℕ) → In m upper → e ≤ m
  lower_rise : Rising low high lower
  upper_rise : Rising low high upper

split : (e low high : ℕ) (ls : List ℕ) → Rising low high ls → Split e low high ls
split e low high [] h =
    record { lower = []; upper = []; whole = refl; below = λ m i. in_none m i; from = λ m i. in_none m i; lower_rise = h; upper_rise = h }
split e low high (l ∷ ls) h =
    by_test (ltb l e)
    (λ t. let rest = split e (suc l) high ls h.1 in
    record {
      lower = l ∷ rest.lower;
      upper = rest.upper;
      whole = ap (λ (v : List ℕ). l ∷ v) rest.whole;
      below = λ m i. member_cases m l rest.lower i (λ q. rw q (ltb-true l e t)) (λ _ k. rest.below m k);
      from = rest.from;
      lower_rise = (h.0, rest.lower_rise);
      upper_rise = rising_lower (suc l) low high rest.upper (omega (arith, h.0)) rest.upper_rise;
    })
    (λ t. let high_first = ltb-false l e t in
    record {
      lower = [];
      upper = l ∷ ls;
      whole = refl;
      below = λ m i. in_none m i;
      from = λ m i. member_cases m l ls i (λ q. rw q high_first) (λ _ k. omega (arith, (rising_in (suc l) high m ls h.1 k).0));
      lower_rise = rising_order low high (l ∷ ls) h;
      upper_rise = h;
    })

some_in : (ls : List ℕ) → 1 ≤ length ls → (m : ℕ) × In m ls
some_in [] l = absurd (omega arith)
some_in (k ∷ ks) l = (k, member_first k ks)

module _ (s r : ℕ) (s_least : 2 ≤ s) (r_least : 2 ≤ r) (w : ℕ → ℕ) (widths : Widths s r w) (powers : (j : ℕ) → w j ≡ base s r ^ j) where
  abbrev b : ℕ
  b = base s r

  pub b_pos : 1 ≤ b
  unfolding base
  b_pos = omega (arith, mul-le-mul s_least r_least)

  -- the number of a node by its quotient, as of its first child, and of its right sibling
  first_child : (c j : ℕ) → c * b ^ suc j ≡ c * b * b ^ j
  first_child c j = rw (pow-succ', mul_assoc)

  right_sibling : (c j : ℕ) → c * b ^ j + w j ≡ suc c * b ^ j
  right_sibling c j = rw (powers j) (sym (suc-mul c (b ^ j)))

  at_quotient : (c j l : ℕ) → c * b ^ j ≤ l → l < suc c * b ^ j → l / b ^ j ≡ c
  at_quotient c j l low high = let next : suc c ≡ c + 1 = omega arith in div-eq_of_lt-le (b ^ j) low (rw next at high)

  -- labels under one ancestor, and labels further right
  parts : (ms ns : List ℕ) (c j : ℕ) → ((l : ℕ) → In l ms → l / b ^ j ≡ c) → ((l : ℕ) → In l ns → suc c ≤ l / b ^ j) → Parted s r b b_pos j ms ns
  unfolding Parted
  parts ms ns c j under from l m i k e = omega (arith, under l i, from m k)

  -- A GOOD FOREST'S LABELS
  pub forest_digits : (f : Forest) (j c : ℕ) → Good s r f j → Top s r b b_pos j c (labels f w j (c * b ^ j)) × Inner s r b b_pos j (labels f w j (c * b ^ j))
  unfolding labels
  forest_digits nil j c good = (
    record { from = λ l i. in_none l i; next = λ l i. in_none l i },
    record { sibling = λ l h i. in_none l i; limits = λ l h i. in_none l i },
  )
  forest_digits (leaf x f) zero c good =
      let a = c * b ^ 0 in
      let rest = rw (← right_sibling c 0) at (forest_digits f zero (suc c) good).0 in
      let own : a / b ^ 0 ≡ c = quotient_leaf b b_pos a ∙ rw (pow-zero, mul-one) in
      let ls = labels f w zero (a + w zero) in (
        record {
          from = λ l i. member_cases l a ls i (λ e. rw e (omega (arith, own))) (λ _ m. omega (arith, rest.from l m));
          next = λ l i more. member_cases l a ls i (λ e. absurd (let same : l / b ^ 0 ≡ a / b ^ 0 = rw e in omega (arith, own)))
              (λ _ m. by_test (eqb (l / b ^ 0) (suc c))
              (λ e. (a, member_first a ls, omega (arith, own, eqb-true (l / b ^ 0) (suc c) e)))
              (λ e. let (k, there, q) = rest.next l m (let other = eqb-false (l / b ^ 0) (suc c) e in lt_of_not-le λ (small : l / b ^ 0 ≤ suc c). other (omega arith)) in
              (k, member_later k a ls there, q)));
        },
        record { sibling = λ l h i le. absurd (omega arith); limits = λ l h i one le. absurd (omega arith) },
      )
  forest_digits (leaf x f) (suc j) c good = absurd good
  forest_digits (node g f) zero c good = absurd good
  forest_digits (node g f) (suc j) c good =
      let a = c * b ^ suc j in
      let ms = labels g w j a in
      let ns = labels f w (suc j) (a + w (suc j)) in
      let left = rw (← first_child c j) at (forest_digits g j (c * b) good.2) in
      let right = rw (← right_sibling c (suc j)) at (forest_digits f (suc j) (suc c) good.3) in
      let rise = node_rising s_least r_least widths g j a good.2 good.1 in
      let many = length_labels g w j a in
      let under : (l : ℕ) → In l ms → l / b ^ suc j ≡ c =
      λ l i. let q = rising_in a (a + w (suc j)) l ms rise i in at_quotient c (suc j) l q.0 (omega (arith, q.1, right_sibling c (suc j))) in
      let parted : Parted s r b b_pos (suc j) ms ns = parts ms ns c (suc j) under right.0.from in
      let some = some_in ms (omega (arith, good.0, one-le-pow (suc j) r (omega arith))) in (
        record {
          from = λ l i. in_either l ms ns i (λ m. omega (arith, under l m)) (λ m. omega (arith, right.0.from l m));
          next = λ l i more. in_either l ms ns i (λ m. absurd (omega (arith, under l m)))
              (λ m. by_test (eqb (l / b ^ suc j) (suc c))
              (λ e. (some.0, in_left some.0 ms ns some.1, omega (arith, under some.0 some.1, eqb-true (l / b ^ suc j) (suc c) e)))
              (λ e. let (k, there, q) = right.0.next l m (let other = eqb-false (l / b ^ suc j) (suc c) e in lt_of_not-le λ (small : l / b ^ suc j ≤ suc c). other (omega (arith, right.0.from l m))) in
              (k, in_right k ms ns there, q)));
        },
        inner_join s r b b_pos (suc j) ms ns parted
            (inner_under s r b b_pos j c ms under left.1 left.0 (omega (arith, good.0)) (omega (arith, good.1))) right.1,
      )

  -- LABELS WITH SUCH DIGITS, from the quotient c on, beside as many tags
  record Given (j c : ℕ) (xs ls : List ℕ) : Type 0 where
    many : length xs ≡ length ls
    low : ℕ
    high : ℕ
    rise : Rising low high ls
    top : Top s r b b_pos j c ls
    inner : Inner s r b b_pos j ls

  -- are those of a good forest with these tags
  abbrev pub Built : (j c : ℕ) → (xs ls : List ℕ) → Type 0
  Built j c xs ls = (f : Forest) × Good s r f j × (leaves f ≡ xs) × (labels f w j (c * b ^ j) ≡ ls)

  -- the first of them is under the first node
  first_there : (j c l : ℕ) (ls : List ℕ) (low high : ℕ) → Rising low high (l ∷ ls) → Top s r b b_pos j c (l ∷ ls) → l / b ^ j ≡ c
  first_there j c l ls low high rise top =
      let least = top.from l (member_first l ls) in
      let most : l / b ^ j < suc c = lt_of_not-le λ (more : suc c ≤ l / b ^ j).
      let (m, there, e) = top.next l (member_first l ls) more in
      let after : l ≤ m = member_cases m l ls there (λ q. omega arith) (λ _ k. omega (arith, (rising_in (suc l) high m ls rise.1 k).0)) in
      omega (arith, quotient_grows b b_pos j l m after) in
      omega arith

  no_forest : (j c : ℕ) (xs : List ℕ) → length xs ≡ 0 → Built j c xs []
  unfolding leaves labels
  no_forest j c [] e = (nil, tt, refl, refl)
  no_forest j c (x ∷ xs) e = absurd (omega arith)

  one_leaf : (c l x : ℕ) (xs ls : List ℕ) → c * b ^ 0 ≡ l → Built 0 (suc c) xs ls → Built 0 c (x ∷ xs) (l ∷ ls)
  unfolding leaves labels
  one_leaf c l x xs ls number (f, good, tags, numbers) =
      let later : labels f w 0 (c * b ^ 0 + w 0) ≡ ls = rw (right_sibling c 0) numbers in
      (leaf x f, good, rw tags, rw (later, number))

  build_leaves : (c : ℕ) (xs ls : List ℕ) → Given 0 c xs ls → Built 0 c xs ls
  unfolding leaves labels
  build_leaves c xs [] h = no_forest 0 c xs h.many
  build_leaves c [] (l ∷ ls) h = absurd (omega (arith, h.many))
  build_leaves c (x ∷ xs) (l ∷ ls) h =
      let first = first_there 0 c l ls h.low h.high h.rise h.top in
      let leaf_number : (m : ℕ) → m / b ^ 0 ≡ m = quotient_leaf b b_pos in
      let number : c * b ^ 0 ≡ l = rw (pow-zero, mul-one) (sym first ∙ leaf_number l) in
      let behind : (m : ℕ) → In m ls → suc c ≤ m / b ^ 0 = λ m i.
      omega (arith, leaf_number m, leaf_number l, (rising_in (suc l) h.high m ls h.rise.1 i).0) in
      let rest : Given 0 (suc c) xs ls = record {
        many = omega (arith, h.many);
        low = suc l;
        high = h.high;
        rise = h.rise.1;
        top = record {
          from = behind;
          next = λ m i more. let (k, there, e) = h.top.next m (member_later m l ls i) (omega arith) in
              member_cases k l ls there (λ q. absurd (let same : k / b ^ 0 ≡ l / b ^ 0 = rw q in omega arith)) (λ _ inside. (k, inside, e));
        };
        inner = record { sibling = λ m g i le. absurd (omega arith); limits = λ m g i one le. absurd (omega arith) };
      } in
      one_leaf c l x xs ls number (build_leaves (suc c) xs ls rest)

  -- the first node is over the labels below its end, and the others behind it
  module _ (j c l : ℕ) (xs ls : List ℕ) (h : Given (suc j) c xs (l ∷ ls)) (p : Split (suc c * b ^ suc j) h.low h.high (l ∷ ls)) where
    abbrev ms : List ℕ
    ms = p.lower

    abbrev ns : List ℕ
    ns = p.upper

    abbrev all : List ℕ
    all = l ∷ ls

    into : (m : ℕ) → In m (ms ++ ns) → In m all
    into m i = rw p.whole i

    out : (m : ℕ) → In m all → In m (ms ++ ns)
    out m i = rw p.whole at i

    under : (m : ℕ) → In m ms → m / b ^ suc j ≡ c
    under m i =
        omega (arith, h.top.from m (into m (in_left m ms ns i)), (quotient_below b b_pos (suc c) (suc j) m).1 (p.below m i))

    further : (m : ℕ) → In m ns → suc c ≤ m / b ^ suc j
    further m i = (quotient_from b b_pos (suc c) (suc j) m).1 (p.from m i)

    parted : Parted s r b b_pos (suc j) ms ns
    parted = parts ms ns c (suc j) under further

    inner : Inner s r b b_pos (suc j) (ms ++ ns)
    inner = rw p.whole at h.inner

    own : Inner s r b b_pos (suc j) ms
    own = inner_left s r b b_pos (suc j) ms ns parted inner

    count : count_under b (suc j) (l / b ^ suc j) all ≡ length ms
    count =
        rw (first_there (suc j) c l ls h.low h.high h.rise h.top)
        (ap (count_under b (suc j) c) p.whole
        ∙ (count_append b (suc j) c ms ns
        ∙ omega (arith, count_all b (suc j) c ms under, count_none b (suc j) c ns (λ m i e. omega (arith, further m i)))))

    node_limits : (r ^ suc j ≤ length ms) × (length ms < s * r ^ suc j)
    node_limits = rw count at (h.inner.limits l (suc j) (member_first l ls) (omega arith) (omega arith))

    long : length all ≡ length ms + length ns
    long = ap length p.whole ∙ length-append ms ns

    taken : length (take (length ms) xs) ≡ length ms
    taken = length-take (length ms) xs ∙ omega (arith, h.many, long)

    first_given : Given j (c * b) (take (length ms) xs) ms
    first_given =
        record {
          many = taken;
          low = h.low;
          high = h.high;
          rise = p.lower_rise;
          top = top_under s r b b_pos j c ms under own;
          inner = inner_lower s r b b_pos j ms own;
        }

    rest_given : Given (suc j) (suc c) (drop (length ms) xs) ns
    rest_given =
        record {
          many = length-drop (length ms) xs ∙ omega (arith, h.many, long);
          low = h.low;
          high = h.high;
          rise = p.upper_rise;
          top = record {
            from = further;
            next = λ m i more. let (n, there, e) = h.top.next m (into m (in_right m ms ns i)) (omega arith) in
                in_either n ms ns (out n there) (λ here. absurd (omega (arith, under n here))) (λ here. (n, here, e));
          };
          inner = inner_right s r b b_pos (suc j) ms ns parted inner;
        }

    shorter : length ns < length all
    shorter = omega (arith, long, node_limits.0, one-le-pow (suc j) r (omega arith))

    joined : Built j (c * b) (take (length ms) xs) ms → Built (suc j) (suc c) (drop (length ms) xs) ns → Built (suc j) c xs all
    unfolding leaves labels
    joined (g, good_g, tags_g, numbers_g) (f, good_f, tags_f, numbers_f) =
        let sized : size g ≡ length ms = ap length tags_g ∙ taken in
        let own_labels : labels g w j (c * b ^ suc j) ≡ ms = rw (first_child c j) numbers_g in
        let later_labels : labels f w (suc j) (c * b ^ suc j + w (suc j)) ≡ ns = rw (right_sibling c (suc j)) numbers_f in (
          node g f,
          (omega (arith, node_limits.0), omega (arith, node_limits.1), good_g, good_f),
          rw (tags_g, tags_f) (take-append-drop (length ms) xs),
          rw (own_labels, later_labels) (sym p.whole),
        )

  build_nodes : (j : ℕ) → ((c : ℕ) (xs ls : List ℕ) → Given j c xs ls → Built j c xs ls) → (most c : ℕ) (xs ls : List ℕ) → length ls ≤ most →
      Given (suc j) c xs ls → Built (suc j) c xs ls
  build_nodes j below zero c xs [] fits h = no_forest (suc j) c xs h.many
  build_nodes j below zero c xs (l ∷ ls) fits h = absurd (omega arith)
  build_nodes j below (suc most) c xs [] fits h = no_forest (suc j) c xs h.many
  build_nodes j below (suc most) c xs (l ∷ ls) fits h =
      let p = split (suc c * b ^ suc j) h.low h.high (l ∷ ls) h.rise in
      joined j c l xs ls h p (below (c * b) (take (length p.lower) xs) p.lower (first_given j c l xs ls h p))
      (build_nodes j below most (suc c) (drop (length p.lower) xs) p.upper (omega (arith, shorter j c l xs ls h p)) (rest_given j c l xs ls h p))

  build : (j c : ℕ) (xs ls : List ℕ) → Given j c xs ls → Built j c xs ls
  build zero c xs ls h = build_leaves c xs ls h
  build (suc j) c xs ls h = build_nodes j (build j) (length ls) c xs ls (omega arith) h

  -- A ROOT'S CHILDREN: labels below b^(u + 1), by their digits
  module _ (u : ℕ) (ls : List ℕ) where
    -- a digit that is not 0 has its left sibling
    left_digit : Spells s r (suc u) ls → (l h : ℕ) → In l ls → h < suc u → (l / b ^ h % b ≡ 0 → ⊥) → (m : ℕ) × In m ls × (suc (m / b ^ h) ≡ l / b ^ h)
    unfolding digit
    left_digit sp l h i le some = go (l / b ^ h % b) refl
      where
        go : (v : ℕ) → l / b ^ h % b ≡ v → (m : ℕ) × In m ls × (suc (m / b ^ h) ≡ l / b ^ h)
        go zero e = absurd (some e)
        go (suc d) e =
            let (m, there, same, below) = sp.no_gaps l h d i le e in
            (m, there, sibling_next b b_pos (m / b ^ h) (l / b ^ h) d (sym (quotient_up b b_pos h m) ∙ (same ∙ quotient_up b b_pos h l)) below e)

    pub spelled_forest : (xs : List ℕ) → length xs ≡ length ls → rises (b ^ suc u) ls ≡ true → Spells s r (suc u) ls →
        (f : Forest) × Good s r f u × (leaves f ≡ xs) × (labels f w u 0 ≡ ls)
    spelled_forest xs many rise sp =
        let rising = rising_of (b ^ suc u) ls rise in
        let (f, good, tags, numbers) = build u 0 xs ls (record {
          many = many;
          low = 0;
          high = b ^ suc u;
          rise = rising;
          top = record {
            from = λ l i. omega arith;
            next = λ l i more. left_digit sp l u i (omega arith) (λ z.
                let one : l / b ^ suc u < 1 = (quotient_below b b_pos 1 (suc u) l).1 (omega (arith, (rising_in 0 (b ^ suc u) l ls rising i).1)) in
                let none : l / b ^ u / b ≡ 0 = omega (arith, quotient_up b b_pos u l) in
                let whole = mod-add-div' (l / b ^ u) b in
                let nothing : l / b ^ u / b * b ≡ 0 = rw none (zero-mul b) in
                omega arith);
          };
          inner = record {
            sibling = λ l h i le some. left_digit sp l h i (omega arith) some;
            limits = λ l h i one le. sp.limits l h i one (omega arith);
          };
        }) in
        (f, good, tags, rw (zero-mul (b ^ u)) at numbers)

  -- a left sibling has the same digits above, and one less
  digits_left : (l j d m : ℕ) → l / b ^ j % b ≡ suc d → suc (m / b ^ j) ≡ l / b ^ j → (m / b ^ suc j ≡ l / b ^ suc j) × (m / b ^ j % b ≡ d)
  digits_left l j d m e q =
      let parents = sibling_parent b b_pos (m / b ^ j) (l / b ^ j) q (λ z. omega arith) in
      (rw (quotient_up b b_pos j m, quotient_up b b_pos j l) parents, sibling_digit b b_pos (m / b ^ j) (l / b ^ j) d q e)

  module _ (u : ℕ) (ls : List ℕ) (top : Top s r b b_pos u 0 ls) (inner : Inner s r b b_pos u ls) where
    sibling_there : (l j d : ℕ) → In l ls → j < suc u → l / b ^ j % b ≡ suc d → (m : ℕ) × In m ls × (suc (m / b ^ j) ≡ l / b ^ j)
    sibling_there l j d i le e =
        by_test (eqb j u)
        (λ t. let same = eqb-true j u t in
        let further : 0 < l / b ^ u = lt_of_not-le λ (small : l / b ^ u ≤ 0).
        let none : l / b ^ j ≡ 0 = rw same (omega arith) in
        let digit_none : l / b ^ j % b ≡ 0 = rw none (zero-mod b) in
        omega arith in
        rw same (top.next l i further))
        (λ t. inner.sibling l j i (let other = eqb-false j u t in lt_of_not-le λ (high : u ≤ j). other (omega arith)) (λ z. omega arith))

    spells_of : Spells s r (suc u) ls
    unfolding digit
    spells_of =
        record {
          no_gaps = λ l j d i le e.
              let (m, there, q) = sibling_there l j d i le e in
              let left = digits_left l j d m e q in
              (m, there, left.0, left.1);
          limits = λ l j i one le. inner.limits l j i one (omega arith);
        }

  pub forest_spells : (u : ℕ) (f : Forest) → Good s r f u → Spells s r (suc u) (labels f w u 0)
  forest_spells u f good =
      let (top, inner) = rw (zero-mul (b ^ u)) at (forest_digits f u 0 good) in
      spells_of u (labels f w u 0) top inner
