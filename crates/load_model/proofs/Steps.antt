-- From place to place: which nodes begin there, and the label that the steps have come to is that of the place. Assumes nothing.
use mathlib.Core.Path.{◌≡◌, refl, ap, sym, ◌∙◌}
use mathlib.Core.Bool.{cond}
use mathlib.Core.List.{List}
use Prim.Native.Nat.{ℕ, zero, suc, ◌+◌, ◌*◌, ◌-◌, ◌^◌, ◌≤◌, ◌<◌}
use native.Mathlib.Nat.{suc-mul, mul_assoc, zero-add, pow-succ', pow-le-pow_right, mul-le-mul_right, lt_of_mul-lt-mul_right}
use native.Mathlib.Omega.{arith}
use borrow.Author.Tests.{le-leb, lt-leb, leb-true, leb-false, eqb-true, eqb-false, eq-eqb, ne_eqb, ltb-true, ltb-false}
use lib.Dec.{leb, eqb, ltb}
use lib.ListN.{length, get_or, set, length-set}
use lib.Seq.{get_or-set_same, get_or-set_other}
use Rattle.lists.proofs.Tests.{by_test}
use Rattle.powers.specs.Tables.{entry, table_length, table_top}
use Rattle.tree.specs.Forest.{labels, spread}
use Rattle.tree_laws.proofs.Spread.{some_power}
use Rattle.shape.specs.Sums.{cut}
use Rattle.shape.proofs.Sums.{cut_added}
use Rattle.load_model.specs.Begins.{next_begin, begun, FirstBegins}
use Rattle.load_model.proofs.Places.{Holds, raised, place_label}

-- NODE k over e leaves holds the place before i
pub record Coming (e n i k : ℕ) : Type 0 where
  pub from : k * e ≤ i - 1
  pub whole : suc k * e ≤ n
  pub to : suc (suc k) * e ≤ n → i ≤ suc k * e

abbrev pub behind : (e n k : ℕ) → ℕ
behind e n k = next_begin (k * e) n e

-- where the next node begins
next_there : (e n k : ℕ) → suc (suc k) * e ≤ n → behind e n k ≡ suc k * e
unfolding next_begin
next_there e n k l = rw (le-leb (k * e + 2 * e) n (omega (arith, suc-mul k e, suc-mul (suc k) e))) (omega (arith, suc-mul k e))

next_none : (e n k : ℕ) → n < suc (suc k) * e → behind e n k ≡ n
unfolding next_begin
next_none e n k l = rw (lt-leb (k * e + 2 * e) n (omega (arith, suc-mul k e, suc-mul (suc k) e)))

module _ (e n i k : ℕ) (inside : i < n) (h : Coming e n i k) where
  pub holds_still : (behind e n k ≡ i → ⊥) → Holds e n i k
  holds_still other =
      record {
        from = omega (arith, h.from);
        whole = h.whole;
        to = λ t. by_test (eqb i (suc k * e))
            (λ s. absurd (other (next_there e n k t ∙ sym (eqb-true i (suc k * e) s))))
            (λ s. let apart = eqb-false i (suc k * e) s in omega (arith, h.to t));
      }

  -- the place where the next one begins, and that there is room for it
  pub begins_here : behind e n k ≡ i → (suc (suc k) * e ≤ n) × (suc k * e ≡ i)
  begins_here s =
      by_test (leb (suc (suc k) * e) n)
      (λ t. let room = leb-true (suc (suc k) * e) n t in (room, sym (next_there e n k room) ∙ s))
      (λ t. absurd (omega (arith, next_none e n k (leb-false (suc (suc k) * e) n t))))

  pub holds_next : 1 ≤ e → behind e n k ≡ i → Holds e n i (suc k)
  holds_next some s =
      let b = begins_here s in
      record { from = omega (arith, b.1); whole = b.0; to = λ t. omega (arith, b.1, suc-mul (suc k) e) }

-- where no node of a height begins, none of the height above does
higher_still : (r f n i k m : ℕ) → 1 ≤ r → 1 ≤ f → i < n → Coming f n i k → Coming (r * f) n i m → (behind f n k ≡ i → ⊥) → behind (r * f) n m ≡ i → ⊥
higher_still r f n i k m s t inside h g other e =
    let b = begins_here (r * f) n i m inside g e in
    let at : suc m * r * f ≡ i = mul_assoc (suc m) r f ∙ b.1 in
    let wide : f ≤ r * f = omega (arith, mul-le-mul_right f s) in
    let past : 1 ≤ i = omega (arith, b.1, suc-mul m (r * f)) in
    let less : k * f < suc m * r * f = omega (arith, h.from) in
    let few = lt_of_mul-lt-mul_right f less in
    let fewer = mul-le-mul_right f few in
    let room : suc (suc k) * f ≤ n = omega (arith, b.0, suc-mul (suc m) (r * f), suc-mul (suc k) f) in
    other (next_there f n k room ∙ omega (arith, h.to room))

pub comes_next : (e n i k : ℕ) → Holds e n i k → Coming e n (i + 1) k
comes_next e n i k h = record { from = omega (arith, h.from); whole = h.whole; to = λ t. omega (arith, h.to t) }

-- COUNTED: one node more at height j + 1
abbrev one_more : (j : ℕ) → (ℕ → ℕ) → ℕ → ℕ
one_more j ks h = cond (eqb h (suc j)) (suc (ks h)) (ks h)

own_more : (j : ℕ) (ks : ℕ → ℕ) → one_more j ks (suc j) ≡ suc (ks (suc j))
own_more j ks = rw (eq-eqb (suc j) (suc j) refl)

other_more : (j : ℕ) (ks : ℕ → ℕ) (h : ℕ) → (h ≡ suc j → ⊥) → one_more j ks h ≡ ks h
other_more j ks h apart = rw (ne_eqb h (suc j) apart)

raised_same : (d ks : ℕ → ℕ) (j u : ℕ) → u ≤ j → raised d (one_more j ks) u ≡ raised d ks u
unfolding raised
raised_same d ks j zero l = refl
raised_same d ks j (suc u) l = rw (other_more j ks (suc u) (λ e. omega arith), raised_same d ks j u (omega arith))

raised_more : (d ks : ℕ → ℕ) (j u : ℕ) → j < u → raised d (one_more j ks) u ≡ raised d ks u + d (suc j)
unfolding raised
raised_more d ks j zero l = absurd (omega arith)
raised_more d ks j (suc u) l =
    by_test (eqb u j)
    (λ e. let s = eqb-true u j e in rw (s, own_more j ks, raised_same d ks j j (omega arith)) (omega (arith, suc-mul (ks (suc j)) (d (suc j)))))
    (λ e. let apart = eqb-false u j e in rw (other_more j ks (suc u) (λ s. omega arith), raised_more d ks j u (omega arith)) (omega arith))

raised_none : (d : ℕ → ℕ) (u : ℕ) → raised d (λ h. 0) u ≡ 0
unfolding raised
raised_none d zero = refl
raised_none d (suc u) = omega (arith, raised_none d u)

first_cut : 0 ≡ cut (0 + 0)
unfolding cut
first_cut = refl

-- THE STATE at place i: the nodes of heights up to j that hold it, those above that hold the place before, where the next ones
-- begin, and the label that all of them give
pub record Abreast (r u n : ℕ) (d : ℕ → ℕ) (i j a : ℕ) (bs : List ℕ) : Type 0 where
  pub nodes : ℕ → ℕ
  pub label : a ≡ cut (i + raised d nodes u)
  pub size : length bs ≡ table_length
  pub held : (h : ℕ) → h < j → h < u → Holds (r ^ suc h) n i (nodes (suc h))
  pub coming : (h : ℕ) → j ≤ h → h < u → Coming (r ^ suc h) n i (nodes (suc h))
  pub next : (h : ℕ) → h < u → entry bs h ≡ behind (r ^ suc h) n (nodes (suc h))
  pub none : (h : ℕ) → u ≤ h → h < table_length → entry bs h ≡ n

-- what the steps go by: at each height the leaves of a node, and the gap before it
pub record TablesSay (r u : ℕ) (d : ℕ → ℕ) (gaps lows : List ℕ) : Type 0 where
  pub leaves_are : (h : ℕ) → h < u → entry lows h ≡ r ^ suc h
  pub gaps_are : (h : ℕ) → h < u → entry gaps h ≡ d (suc h)

module _ (r u n : ℕ) (d : ℕ → ℕ) (r_least : 2 ≤ r) (low : u ≤ table_top) where
  -- at first
  pub abreast_first : (gaps lows bs : List ℕ) → TablesSay r u d gaps lows → (1 ≤ u → r ^ u ≤ n) → FirstBegins n u lows bs → Abreast r u n d 0 0 0 bs
  abreast_first gaps lows bs t least f =
      record {
        nodes = λ h. 0;
        label = rw (raised_none d u) first_cut;
        size = f.size;
        held = λ h l m. absurd (omega arith);
        coming = λ h l m. record { from = omega arith; whole = omega (arith, pow-le-pow_right {n = r} (omega arith) m, least (omega arith)); to = λ e. omega arith };
        next = λ h l. let z : 0 * r ^ suc h ≡ 0 = omega arith in f.next h l ∙ rw (t.leaves_are h l, z);
        none = f.none;
      }

  -- from one place to the next
  pub abreast_next : (i a : ℕ) (bs : List ℕ) → Abreast r u n d i u a bs → Abreast r u n d (i + 1) 0 (cut (a + 1)) bs
  abreast_next i a bs g =
      record {
        nodes = g.nodes;
        label = rw g.label (cut_added (i + raised d g.nodes u) 1 ∙ ap cut (omega arith));
        size = g.size;
        held = λ h l m. absurd (omega arith);
        coming = λ h l m. comes_next _ n i _ (g.held h m m);
        next = g.next;
        none = g.none;
      }

  module _ (i : ℕ) (inside : i < n) where
    -- no node begins there from height j + 1 on
    none_higher : (j a : ℕ) (bs : List ℕ) (g : Abreast r u n d i j a bs) → (entry bs j ≡ i → ⊥) → (c : ℕ) → c + j < u → entry bs (c + j) ≡ i → ⊥
    none_higher j a bs g other zero l e = other (rw zero-add at e)
    none_higher j a bs g other (suc c) l e =
        let h = c + j in
        let f = r ^ suc h in
        let same : suc c + j ≡ suc (c + j) = omega arith in
        let above : r ^ suc (suc h) ≡ r * f = pow-succ' r (suc h) in
        let up = g.coming (suc h) (omega arith) (omega arith) in
        higher_still r f n i (g.nodes (suc h)) (g.nodes (suc (suc h))) (omega arith) (some_power r (suc h) r_least) inside
        (g.coming h (omega arith) (omega arith)) (rw above at up)
        (λ s. none_higher j a bs g other c (omega arith) (g.next h (omega arith) ∙ s))
        (rw above at (sym (g.next (suc h) (omega arith)) ∙ rw same at e))

    all_held : (j a : ℕ) (bs : List ℕ) → Abreast r u n d i j a bs → (entry bs j ≡ i → ⊥) → Abreast r u n d i u a bs
    all_held j a bs g other =
        record {
          nodes = g.nodes;
          label = g.label;
          size = g.size;
          held = λ h l m.
              by_test (ltb h j)
              (λ e. g.held h (ltb-true h j e) m)
              (λ e. let s : (h - j) + j ≡ h = omega (arith, ltb-false h j e) in
              holds_still _ n i _ inside (g.coming h (ltb-false h j e) m)
              (λ t. none_higher j a bs g other (h - j) (rw s m) (rw s (g.next h m ∙ t))));
          coming = λ h l m. absurd (omega arith);
          next = g.next;
          none = g.none;
        }

    -- the nodes that begin there have begun
    module _ (gaps lows : List ℕ) (t : TablesSay r u d gaps lows) where
      begun_one : (j a : ℕ) (bs : List ℕ) → j < u → Abreast r u n d i j a bs → entry bs j ≡ i →
          Abreast r u n d i (suc j) (cut (a + entry gaps j)) (set bs j (next_begin i n (entry lows j)))
      begun_one j a bs l g e =
          let ks = g.nodes in
          let own = g.coming j (omega arith) l in
          let here : behind (r ^ suc j) n (ks (suc j)) ≡ i = sym (g.next j l) ∙ e in
          let some = some_power r (suc j) r_least in
          let others : (h : ℕ) → (h ≡ j → ⊥) → one_more j ks (suc h) ≡ ks (suc h) = λ h apart. other_more j ks (suc h) (λ s. apart (omega arith)) in
          let kept : (h : ℕ) → (h ≡ j → ⊥) → entry (set bs j (next_begin i n (entry lows j))) h ≡ entry bs h = λ h apart. get_or-set_other bs j h _ 0 apart in
          record {
            nodes = one_more j ks;
            label = rw (g.label, t.gaps_are j l, raised_more d ks j u l) (cut_added (i + raised d ks u) (d (suc j)) ∙ ap cut (omega arith));
            size = length-set bs j _ ∙ g.size;
            held = λ h m b.
                by_test (eqb h j)
                (λ s. rw (eqb-true h j s, own_more j ks) (holds_next (r ^ suc j) n i (ks (suc j)) inside own some here))
                (λ s. let apart = eqb-false h j s in rw (others h apart) (g.held h (omega arith) b));
            coming = λ h m b. rw (others h (λ s. omega arith)) (g.coming h (omega arith) b);
            next = λ h b.
                by_test (eqb h j)
                (λ s. rw (eqb-true h j s, own_more j ks) (get_or-set_same bs j _ 0 (omega (arith, g.size)) ∙ rw (t.leaves_are j l, (begins_here (r ^ suc j) n i (ks (suc j)) inside own here).1)))
                (λ s. let apart = eqb-false h j s in rw (others h apart) (kept h apart ∙ g.next h b));
            none = λ h m b. kept h (λ s. omega arith) ∙ g.none h m b;
          }

      pub begun_all : (most j a : ℕ) (bs : List ℕ) → most + j ≡ table_length → Abreast r u n d i j a bs →
          Abreast r u n d i u (begun most j gaps lows n i a bs).label (begun most j gaps lows n i a bs).begins
      unfolding begun
      begun_all zero j a bs s g =
          record {
            nodes = g.nodes;
            label = g.label;
            size = g.size;
            held = λ h l m. g.held h (omega arith) m;
            coming = λ h l m. absurd (omega arith);
            next = g.next;
            none = g.none;
          }
      begun_all (suc k) j a bs s g =
          by_test (eqb (entry bs j) i)
          (λ e.
          let here = eqb-true (entry bs j) i e in
          let l : j < u =
          by_test (ltb j u) (λ m. ltb-true j u m) (λ m. absurd (omega (arith, g.none j (ltb-false j u m) (omega arith)))) in
          rw e (begun_all k (suc j) _ _ (omega arith) (begun_one j a bs l g here)))
          (λ e. rw e (all_held j a bs g (eqb-false (entry bs j) i e)))

    -- the label is that of the place
    pub abreast_label : (w : ℕ → ℕ) → w 0 ≡ 1 → ((j : ℕ) → j < u → w (suc j) ≡ r * w j + d (suc j)) → (xs : List ℕ) → length xs ≡ n → (1 ≤ u → r ^ u ≤ n) →
        (a : ℕ) (bs : List ℕ) → Abreast r u n d i u a bs → a ≡ cut (get_or (labels (spread u r xs) w u 0) i 0)
    abreast_label w first apart xs many least a bs g =
        let place =
        place_label r r_least w d first u apart u xs 0 i g.nodes (omega arith) (λ s. rw many (least s)) (rw many inside)
        (λ j s t. let e : j ≡ suc (j - 1) = omega arith in rw (e, many) (g.held (j - 1) (omega arith) (omega arith))) in
        g.label ∙ ap cut (sym (place ∙ zero-add (i + raised d g.nodes u)))
