-- The labels of a tree within its limits pass (specs/Levels.antt): at each place the tree is the closed trees left of the
-- open nodes and the trees right of them. Assumes nothing.
use mathlib.Core.Path.{◌≡◌, refl, ap, sym, ◌∙◌}
use mathlib.Core.Bool.{Bool, true, false}
use mathlib.Core.List.{List, [], ◌∷◌, ◌++◌, append_assoc}
use Prim.Native.Nat.{ℕ, zero, suc, ◌+◌, ◌*◌, ◌^◌, ◌≤◌, ◌<◌}
use native.Mathlib.Nat.{zero-add, add-mul, mul-le-mul}
use native.Mathlib.Omega.{arith}
use borrow.Author.Tests.{lt-ltb, le-ltb, eq-eqb, ne_eqb, eqb-true}
use lib.Dec.{eqb}
use lib.ListN.{length, length-append}
use Rattle.lists.proofs.Tests.{and_both, by_test}
use Rattle.store_types.specs.Limits.{label_limit}
use Rattle.powers.specs.Tables.{entry, table_length}
use Rattle.shape.specs.Sums.{cut}
use Rattle.shape.proofs.Sums.{cut_below, cut_most}
use Rattle.tree.specs.Good.{Good}
use Rattle.tree.specs.Forest.{Forest, nil, leaf, node, leaves, size, labels, joined}
use Rattle.tree.specs.Promise.{Widths}
use Rattle.tree_laws.proofs.Insertion.{size_node}
use Rattle.tree_laws.proofs.Labels.{trees, width_least, children_fit, length_labels}
use Rattle.tree_laws.proofs.Spread.{leaves_joined, good_joined, some_power}
use Rattle.walk_model.specs.Levels.{Tables, Levels, settle, place_label, all_close, labels_pass}
use Rattle.walk_model.specs.Promise.{TablesRight}
use Rattle.walk_model.proofs.Spine.{Spine, top, over, number, GoodSpine, end_is, At, at_closed, at_opened, trees_joined, closed, closed_number, closed_leaves, opened, with_leaf, leaf_leaves, leaf_number, at_leaf, settle_higher, Placed, stay, closes_of, next_number, descend}

-- from height h up: the labels right of the open nodes of a spine, where at each height the trees of another are right of it
abbrev pub after : (w : ℕ → ℕ) (h : ℕ) {k : ℕ} → Spine k → Spine k → List ℕ
after w h top top = []
after w h (over f p) (over g q) = labels g w h (number w h (over f p) + w h) ++ after w (suc h) p q

-- the open nodes from height suc j up are within their limits; n leaves are under the lowest
abbrev pub OpenWithin : (s r j n : ℕ) {k : ℕ} → Spine k → Spine k → Type 0
OpenWithin s r j n top top = n < s * r ^ suc j
OpenWithin s r j n (over f p) (over g q) = (r ^ suc j ≤ n) × (n < s * r ^ suc j) × OpenWithin s r (suc j) (size f + (n + size g)) p q

room_high : (s r j n : ℕ) {k : ℕ} (p q : Spine k) → OpenWithin s r j n p q → n < s * r ^ suc j
room_high s r j n top top h = h
room_high s r j n (over f p) (over g q) h = h.1

-- what is right of a forest f of height j under a spine: the forest g, and the trees of q
pub record Rest (s r j : ℕ) {k : ℕ} (f g : Forest) (p q : Spine k) : Type 0 where
  pub good : Good s r g j
  pub good_above : GoodSpine s r (suc j) q
  pub room : OpenWithin s r j (size f + size g) p q

abbrev pub rest_labels : (w : ℕ → ℕ) (j : ℕ) {k : ℕ} (f g : Forest) (p q : Spine k) → List ℕ
rest_labels w j f g p q = labels g w j (number w (suc j) p + trees f * w j) ++ after w (suc j) p q

-- one height up, where the node over f is closed
rest_closed : {s r j k : ℕ} {f left right : Forest} {p q : Spine k} → Rest s r j f nil (over left p) (over right q) → Rest s r (suc j) (closed left f) right p q
unfolding leaves
rest_closed {s} {r} {j} {k} {f} {left} {right} {p} {q} b =
    let e : size left + (size f + size nil + size right) ≡ size (closed left f) + size right =
    rw (closed_leaves left f, length-append) omega arith in
    record { good = b.good_above.0; good_above = b.good_above.1; room = rw e at b.room.2 }

labels_closed : (w : ℕ → ℕ) (j : ℕ) {k : ℕ} (f left right : Forest) (p q : Spine k) →
    rest_labels w (suc j) (closed left f) right p q ≡ rest_labels w j f nil (over left p) (over right q)
unfolding labels
labels_closed w j f left right p q = rw (closed_number w j left f p)

-- one height down, where a node is opened
pub rest_below : {s r j k : ℕ} {f g h : Forest} {p q : Spine k} → Rest s r (suc j) f (node g h) p q → Rest s r j nil g (over f p) (over h q)
unfolding leaves
rest_below {s} {r} {j} {k} {f} {g} {h} {p} {q} b =
    let e : size f + size (node g h) ≡ size f + (size nil + size g + size h) = omega (arith, size_node g h) in
    record {
      good = b.good.2;
      good_above = (b.good.3, b.good_above);
      room = (omega (arith, b.good.0), omega (arith, b.good.1), rw e at b.room);
    }

pub labels_below : (w : ℕ → ℕ) (j : ℕ) {k : ℕ} (f g h : Forest) (p q : Spine k) →
    rest_labels w j nil g (over f p) (over h q) ≡ rest_labels w (suc j) f (node g h) p q
unfolding labels
labels_below w j f g h p q =
    let a = number w (suc (suc j)) p + trees f * w (suc j) in
    let e : a + 0 * w j ≡ a = omega arith in
    rw (e, append_assoc)

-- where a label is below the end of the open node, nothing is closed
settle_here : (t : Tables) (k h l i : ℕ) (v : Levels) → l < entry v.ends h → settle t k h true l i v ≡ record { ok = true; levels = v }
unfolding settle
settle_here t zero h l i v b = rw (lt-ltb l (entry v.ends h) b)
settle_here t (suc k) h l i v b = rw (lt-ltb l (entry v.ends h) b)

place_next : (t : Tables) (k e l i : ℕ) (v : Levels) → l ≡ e → l < entry v.ends 1 → place_label t k e l i v ≡ record { ok = true; levels = v }
unfolding place_label
place_next t k e l i v n b = rw (eq-eqb l e n, ne_eqb l (entry v.ends 1) (λ z. omega arith))

place_closing : (t : Tables) (k e l i : ℕ) (v : Levels) → (l ≡ e → l ≡ entry v.ends 1) → place_label t k e l i v ≡ settle t k 1 false l i v
unfolding place_label
place_closing t k e l i v b =
    by_test (eqb l e) (λ same. rw (same, eq-eqb l (entry v.ends 1) (b (eqb-true l e same)))) (λ other. rw other)

-- what stands after nodes were closed and opened for the label l of the next leaf: a tree comes next
record Ready (s r : ℕ) (w : ℕ → ℕ) (before after : Levels) (j k l i : ℕ) (ls : List ℕ) : Type 0 where
  forest : Forest
  right : Forest
  spine : Spine k
  rights : Spine k
  placed : Placed s r w before after j forest spine l i
  rest : Rest s r j forest right spine rights
  some : 1 ≤ size right
  labels_are : rest_labels w j forest right spine rights ≡ l ∷ ls

some_trees : (g : Forest) → 1 ≤ size g → 1 ≤ trees g
unfolding leaves
some_trees nil n = n
some_trees (leaf x g) n = omega arith
some_trees (node g h) n = omega arith

no_labels : {l : ℕ} {ls : List ℕ} → [] ≡ l ∷ ls → ⊥
no_labels e = let z : ◌≡◌ {A = ℕ} 0 1 = cc in omega arith

-- labels that are none are of no leaf
no_leaves : (g : Forest) (w : ℕ → ℕ) (j a : ℕ) (ms : List ℕ) → 1 ≤ size g → labels g w j a ++ ms ≡ [] → ⊥
no_leaves g w j a ms n e = omega (arith, ap length e, length-append (labels g w j a) ms, length_labels g w j a)

-- where no tree comes next, the open node is within its limits as it stands, and can be closed
closed_limits : {s r j k : ℕ} {f left right : Forest} {p q : Spine k} → Rest s r j f nil (over left p) (over right q) →
    (r ^ suc j ≤ size f) × (size f < s * r ^ suc j)
unfolding leaves
closed_limits b = (omega (arith, b.room.0), omega (arith, b.room.1))

at_up : {s r : ℕ} {w : ℕ → ℕ} {v : Levels} {j k i : ℕ} {f left right : Forest} {p q : Spine k} → At s r w v j f (over left p) i →
    Rest s r j f nil (over left p) (over right q) → At s r w v (suc j) (closed left f) p i
at_up a b = let n = closed_limits b in at_closed a n.0 n.1

module _ {s r : ℕ} {w : ℕ → ℕ} {t : Tables} {u : ℕ} (s_least : 2 ≤ s) (r_least : 2 ≤ r) (widths : Widths s r w) (tables : TablesRight s r w (suc u) t) where
  -- a good forest has no tree or some leaf
  next_tree : {G : Type 0} (g : Forest) (j : ℕ) → Good s r g j → (g ≡ nil → G) → (1 ≤ size g → G) → G
  unfolding leaves
  next_tree nil j b x y = x refl
  next_tree (leaf z g) j b x y = y (omega arith)
  next_tree (node g h) zero b x y = absurd b
  next_tree (node g h) (suc j) b x y = y (omega (arith, size_node g h, b.0, some_power r (suc j) r_least))

  -- the first label of a good forest is its number
  first_label : (g : Forest) (j a l : ℕ) (ls ms : List ℕ) → Good s r g j → 1 ≤ size g → labels g w j a ++ ms ≡ l ∷ ls → l ≡ a
  unfolding labels leaves
  first_label nil j a l ls ms b n e = absurd (omega arith)
  first_label (leaf x g) j a l ls ms b n e = cc
  first_label (node g h) zero a l ls ms b n e = absurd b
  first_label (node g h) (suc j) a l ls ms b n e =
      first_label g j a l ls (labels h w (suc j) (a + w (suc j)) ++ ms) b.2 (omega (arith, b.0, some_power r (suc j) r_least)) (rw append_assoc at e)

  -- so is the first label of the rest, where a tree comes next
  next_label : {j k l : ℕ} {f g : Forest} {p q : Spine k} {ls : List ℕ} → Rest s r j f g p q → 1 ≤ size g → rest_labels w j f g p q ≡ l ∷ ls →
      l ≡ number w (suc j) p + trees f * w j
  next_label {j} {k} {l} {f} {g} {p} {q} {ls} b n e = first_label g j (number w (suc j) p + trees f * w j) l ls (after w (suc j) p q) b.good n e

  -- the trees on both sides fit into the open node
  both_size : (f g : Forest) → size (joined f g) ≡ size f + size g
  both_size f g = rw leaves_joined (length-append (leaves f) (leaves g))

  both_fit : {j k : ℕ} {f g : Forest} {p q : Spine k} → Good s r f j → Rest s r j f g p q → trees f * w j + trees g * w j ≤ w (suc j)
  both_fit {j} {k} {f} {g} {p} {q} good b =
      omega (
        arith,
        children_fit s_least r_least widths (joined f g) j (good_joined s r f g j good b.good) (omega (arith, both_size f g, room_high s r j _ p q b.room)),
        ap (λ z. z * w j) (trees_joined f g),
        add-mul (trees f) (trees g) (w j),
      )

  -- so every open node ends within the root, and no number of one, no end and no label is cut
  end_within : {k : ℕ} (j : ℕ) (f g : Forest) (p q : Spine k) → j + k ≡ u → Good s r f j → GoodSpine s r (suc j) p → Rest s r j f g p q →
      number w (suc j) p + w (suc j) < label_limit
  end_within j f g top top m good above b = let e : j ≡ u = omega arith in rw (zero-add (w (suc j)), e) (tables.narrow (suc u) (omega arith))
  end_within j f g (over left p) (over right q) m good above b =
      let own = joined f g in
      let n = both_size f g in
      let more : size left + (size f + size g + size right) ≡ size (closed left own) + size right =
      rw (closed_leaves left own, length-append) (omega (arith, n)) in
      let better = good_joined s r left (node own nil) (suc j) above.0 (omega (arith, b.room.0), omega (arith, b.room.1), good_joined s r f g j good b.good, tt) in
      let higher : Rest s r (suc j) (closed left own) right p q = record { good = b.good_above.0; good_above = b.good_above.1; room = rw more at b.room.2 } in
      omega (
        arith,
        closed_number w j left own p,
        both_fit better higher,
        end_within (suc j) (closed left own) right p q (omega arith) better above.1 higher,
      )

  -- the next label is below the open node's end where a tree comes next there
  below_end : {v : Levels} {j k l i : ℕ} {f g : Forest} {p q : Spine k} → j + k ≡ u → At s r w v j f p i → Rest s r j f g p q → 1 ≤ size g →
      l ≡ number w (suc j) p + trees f * w j → l < entry v.ends (suc j)
  below_end {v} {j} {f = f} {g} {p} {q} m a b n e =
      let end = number w (suc j) p + w (suc j) in
      rw (end_is w v (suc j) p a.agrees, cut_below end (end_within j f g p q m a.good a.good_above b))
      (omega (arith, both_fit a.good b, mul-le-mul (some_trees g n) (width_least s_least r_least widths j)))

  -- and is held whole
  label_whole : {v : Levels} {j k l i : ℕ} {f g : Forest} {p q : Spine k} → j + k ≡ u → At s r w v j f p i → Rest s r j f g p q → 1 ≤ size g →
      l ≡ number w (suc j) p + trees f * w j → l ≡ cut (number w (suc j) p + trees f * w j)
  label_whole {v} {j} {f = f} {g} {p} {q} m a b n e =
      e ∙ sym (cut_below (number w (suc j) p + trees f * w j) (omega (
        arith,
        end_within j f g p q m a.good a.good_above b,
        both_fit a.good b,
        mul-le-mul (some_trees g n) (width_least s_least r_least widths j),
      )))

  -- the next label is at least the number of the tree that would come next
  rest_from : {v : Levels} {k : ℕ} (j : ℕ) (f g : Forest) (p q : Spine k) (l i : ℕ) (ls : List ℕ) → At s r w v j f p i → Rest s r j f g p q →
      rest_labels w j f g p q ≡ l ∷ ls → number w (suc j) p + trees f * w j ≤ l
  unfolding labels
  rest_from j f g top top l i ls a b e =
      next_tree g j b.good (λ n. absurd (no_labels (rw n at e))) (λ n. omega (arith, next_label b n e))
  rest_from j f g (over left p) (over right q) l i ls a b e = next_tree g j b.good
      (λ n.
      let b' : Rest s r j f nil (over left p) (over right q) = rw n at b in
      let e' : rest_labels w j f nil (over left p) (over right q) ≡ l ∷ ls = rw n at e in
      omega (
        arith,
        rest_from (suc j) (closed left f) right p q l i ls (at_up a b') (rest_closed b') (labels_closed w j f left right p q ∙ e'),
        closed_number w j left f p,
        both_fit a.good b',
      ))
      (λ n. omega (arith, next_label b n e))

  -- where no tree comes next in the open node, it is at least the node's end
  end_passed : {v : Levels} {k : ℕ} (j : ℕ) (f : Forest) (p q : Spine k) (l i : ℕ) (ls : List ℕ) → At s r w v j f p i → Rest s r j f nil p q →
      rest_labels w j f nil p q ≡ l ∷ ls → entry v.ends (suc j) ≤ l
  unfolding labels
  end_passed j f top top l i ls a b e = absurd (no_labels e)
  end_passed j f (over left p) (over right q) l i ls a b e =
      omega (
        arith,
        rest_from (suc j) (closed left f) right p q l i ls (at_up a b) (rest_closed b) (labels_closed w j f left right p q ∙ e),
        closed_number w j left f p,
        a.agrees.0,
        cut_most (number w (suc j) (over left p) + w (suc j)),
      )

  -- ready with nothing closed, and one height below where a tree comes next
  ready_still : {v : Levels} {j k l i : ℕ} {f g : Forest} {p q : Spine k} (ls : List ℕ) → j + k ≡ u → At s r w v j f p i → Rest s r j f g p q →
      1 ≤ size g → rest_labels w j f g p q ≡ l ∷ ls → Ready s r w v v j k l i ls
  ready_still {v} {j} {k} {l} {i} {f} {g} {p} {q} ls m a b n e = record {
    forest = f;
    right = g;
    spine = p;
    rights = q;
    placed = stay a (label_whole m a b n (next_label b n e));
    rest = b;
    some = n;
    labels_are = e;
  }

  ready_below : {v z : Levels} {j k l i : ℕ} (f g : Forest) (p q : Spine k) (ls : List ℕ) → j ≤ u → length v.ends ≡ table_length → length v.firsts ≡ table_length →
      Placed s r w (opened t v (suc j) l i) z (suc j) f p l i → Rest s r (suc j) f g p q → 1 ≤ size g → rest_labels w (suc j) f g p q ≡ l ∷ ls →
      Ready s r w v z j (suc k) l i ls
  unfolding leaves
  ready_below f nil p q ls m x y c b n e = absurd (omega arith)
  ready_below f (leaf x g) p q ls m y z c b n e = absurd b.good
  ready_below {j} f (node g h) p q ls m x y c b n e = record {
    forest = nil;
    right = g;
    spine = over f p;
    rights = over h q;
    placed = descend tables m x y c;
    rest = rest_below b;
    some = omega (arith, b.good.0, some_power r (suc j) r_least);
    labels_are = labels_below w j f g h p q ∙ e;
  }

  -- CLOSING for the label l of the next leaf is accepted, and leaves a tree to come next
  abbrev Accepted : (exact : Bool) (l i : ℕ) (ls : List ℕ) (v : Levels) (j k : ℕ) → Type 0
  Accepted exact l i ls v j k = ((settle t k (suc j) exact l i v).ok ≡ true) × Ready s r w v (settle t k (suc j) exact l i v).levels j k l i ls

  settle_next : {v : Levels} {j k l i : ℕ} {f g : Forest} {p q : Spine k} {exact : Bool} {ls : List ℕ} → j + k ≡ u → At s r w v j f p i → Rest s r j f g p q →
      1 ≤ size g → rest_labels w j f g p q ≡ l ∷ ls → exact ≡ true → Accepted exact l i ls v j k
  settle_next {v} {j} {k} {l} {i} {f} {g} {ls = ls} m a b n e x =
      rw (x, settle_here t k (suc j) l i v (below_end m a b n (next_label b n e))) (refl, ready_still ls m a b n e)

  settle_closed : (j k : ℕ) (f left right : Forest) (p q : Spine k) (exact : Bool) (l i : ℕ) (ls : List ℕ) (v : Levels) → j ≤ u →
      At s r w v j f (over left p) i → Rest s r j f nil (over left p) (over right q) → rest_labels w j f nil (over left p) (over right q) ≡ l ∷ ls →
      Accepted (eqb (entry v.ends (suc j)) l) l i ls (opened t v (suc j) l i) (suc j) k → Accepted exact l i ls v j (suc k)
  settle_closed j k f left right p q exact l i ls v m a b e up =
      let end = entry v.ends (suc j) in
      let limits = closed_limits b in
      let c = closes_of tables a m limits.0 limits.1 in
      let o = up.1 in
      rw (settle_higher t k (suc j) exact l i v (le-ltb l end (end_passed j f (over left p) (over right q) l i ls a b e)) c)
      (up.0, ready_below o.forest o.right o.spine o.rights ls m a.long_ends a.long_firsts o.placed o.rest o.some o.labels_are)

  exact_end : (j k : ℕ) (f left right : Forest) (p q : Spine k) (l i : ℕ) (ls : List ℕ) (v : Levels) → suc j + k ≡ u →
      At s r w v j f (over left p) i → At s r w v (suc j) (closed left f) p i → Rest s r (suc j) (closed left f) right p q → rest_labels w (suc j) (closed left f) right p q ≡ l ∷ ls →
      1 ≤ size right → eqb (entry v.ends (suc j)) l ≡ true
  exact_end j k f left right p q l i ls v m a up b e n =
      eq-eqb (entry v.ends (suc j)) l (a.agrees.0 ∙ ap cut (sym (closed_number w j left f p)) ∙ sym (label_whole m up b n (next_label b n e)))

  settle_ready : {k : ℕ} (j : ℕ) (f g : Forest) (p q : Spine k) (exact : Bool) (l i : ℕ) (ls : List ℕ) (v : Levels) → j + k ≡ u → At s r w v j f p i →
      Rest s r j f g p q → rest_labels w j f g p q ≡ l ∷ ls → (1 ≤ size g → exact ≡ true) → Accepted exact l i ls v j k
  unfolding labels
  settle_ready j f g top top exact l i ls v m a b e x =
      next_tree g j b.good (λ n. absurd (no_labels (rw n at e))) (λ n. settle_next m a b n e (x n))
  settle_ready j f g (over {k} left p) (over right q) exact l i ls v m a b e x = next_tree g j b.good
      (λ n.
      let b' : Rest s r j f nil (over left p) (over right q) = rw n at b in
      let e' : rest_labels w j f nil (over left p) (over right q) ≡ l ∷ ls = rw n at e in
      let d = labels_closed w j f left right p q ∙ e' in
      settle_closed j k f left right p q exact l i ls v (omega arith) a b' e' (
      settle_ready (suc j) (closed left f) right p q (eqb (entry v.ends (suc j)) l) l i ls (opened t v (suc j) l i) (omega arith)
      (at_opened t l (at_up a b')) (rest_closed b') d (exact_end j k f left right p q l i ls v (omega arith) a (at_up a b') (rest_closed b') d)))
      (λ n. settle_next m a b n e (x n))

  -- where no tree comes next in the open node of height 1, the child that would come next is no further than its end
  at_end : {v : Levels} {e l i : ℕ} {f : Forest} {p q : Spine u} → At s r w v 0 f p i → Rest s r 0 f nil p q → e ≡ cut (number w 1 p + trees f * w 0) →
      entry v.ends 1 ≤ l → l ≡ e → l ≡ entry v.ends 1
  at_end {v} {e} {l} {f = f} {p} {q} a b n passed same =
      let end = number w 1 p + w 1 in
      let whole : entry v.ends 1 ≡ end = end_is w v 1 p a.agrees ∙ cut_below end (end_within 0 f nil p q (zero-add u) a.good a.good_above b) in
      omega (arith, both_fit a.good b, cut_most (number w 1 p + trees f * w 0))

  -- the next label is accepted, with or without closing
  place_ready : (f g : Forest) (p q : Spine u) (e l i : ℕ) (ls : List ℕ) (v : Levels) → At s r w v 0 f p i → Rest s r 0 f g p q →
      rest_labels w 0 f g p q ≡ l ∷ ls → e ≡ cut (number w 1 p + trees f * w 0) →
      ((place_label t u e l i v).ok ≡ true) × Ready s r w v (place_label t u e l i v).levels 0 u l i ls
  unfolding leaves
  place_ready f g p q e l i ls v a b d n = next_tree g 0 b.good
      (λ x.
      let b' : Rest s r 0 f nil p q = rw x at b in
      let d' : rest_labels w 0 f nil p q ≡ l ∷ ls = rw x at d in
      rw (place_closing t u e l i v (λ same. at_end a b' n (end_passed 0 f p q l i ls a b' d') same))
      (settle_ready 0 f nil p q false l i ls v (zero-add u) a b' d' (λ y. absurd (omega arith))))
      (λ x.
      let here = next_label b x d in
      let whole = zero-add u in
      rw (place_next t u e l i v (label_whole whole a b x here ∙ sym n) (below_end whole a b x here)) (refl, ready_still ls whole a b x d))

  -- at the end every open node is within its limits
  all_closed : {k : ℕ} (j : ℕ) (f g : Forest) (p q : Spine k) (i : ℕ) (v : Levels) → j + k ≡ u → At s r w v j f p i → Rest s r j f g p q →
      rest_labels w j f g p q ≡ [] → all_close t k (suc j) i v ≡ true
  unfolding all_close
  all_closed j f g top top i v m a b e = refl
  all_closed j f g (over left p) (over right q) i v m a b e = next_tree g j b.good
      (λ n.
      let b' : Rest s r j f nil (over left p) (over right q) = rw n at b in
      let e' : rest_labels w j f nil (over left p) (over right q) ≡ [] = rw n at e in
      let limits = closed_limits b' in
      and_both (closes_of tables a (omega arith) limits.0 limits.1)
      (all_closed (suc j) (closed left f) right p q i v (omega arith) (at_up a b') (rest_closed b') (labels_closed w j f left right p q ∙ e')))
      (λ n. absurd (no_leaves g w j _ _ n e))

  -- the next leaf goes behind the closed ones
  leaf_passed : {v z : Levels} {k : ℕ} (f g : Forest) (p q : Spine k) (l i : ℕ) (ls : List ℕ) → Placed s r w v z 0 f p l i → Rest s r 0 f g p q →
      1 ≤ size g → rest_labels w 0 f g p q ≡ l ∷ ls → (x : ℕ) × (h : Forest) × Rest s r 0 (with_leaf f x) h p q × (rest_labels w 0 (with_leaf f x) h p q ≡ ls)
  unfolding leaves labels
  leaf_passed f nil p q l i ls c b n e = absurd (omega arith)
  leaf_passed f (node g h) p q l i ls c b n e = absurd b.good
  leaf_passed f (leaf x h) p q l i ls c b n e =
      let m : size f + size (leaf x h) ≡ size (with_leaf f x) + size h = rw (leaf_leaves f x, length-append) omega arith in
      (x, h, record { good = b.good; good_above = b.good_above; room = rw m at b.room }, rw (← leaf_number w f p x _ refl) (cc))

  -- the labels of what is to the right pass
  pub rest_passes : (ls : List ℕ) (f g : Forest) (p q : Spine u) (e i : ℕ) (v : Levels) → At s r w v 0 f p i → Rest s r 0 f g p q →
      rest_labels w 0 f g p q ≡ ls → e ≡ cut (number w 1 p + trees f * w 0) → labels_pass t u e i v ls ≡ true
  unfolding labels_pass
  rest_passes [] f g p q e i v a b d n = all_closed 0 f g p q i v (zero-add u) a b d
  rest_passes (l ∷ ls) f g p q e i v a b d n =
      let y = place_ready f g p q e l i ls v a b d n in
      let o = y.1 in
      let c = leaf_passed o.forest o.right o.spine o.rights l i ls o.placed o.rest o.some o.labels_are in
      and_both y.0 (
      rest_passes ls (with_leaf o.forest c.0) c.1 o.spine o.rights _ (suc i) _ (at_leaf c.0 o.placed.here) c.2 c.3
      (next_number tables o.forest o.spine c.0 l o.placed.label_is))
