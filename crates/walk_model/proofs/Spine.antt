-- The open nodes while labels are read: at each height the closed trees left of the open node, what the levels of
-- specs/Levels.antt are then, and how they change when nodes are closed. Assumes nothing.
use mathlib.Core.Path.{◌≡◌, refl, ap, ◌∙◌}
use mathlib.Core.Bool.{Bool, true, false}
use mathlib.Core.List.{List, [], ◌∷◌, ◌++◌, append-nil}
use Prim.Native.Nat.{ℕ, zero, suc, ◌+◌, ◌*◌, ◌^◌, ◌≤◌, ◌<◌}
use native.Mathlib.Nat.{suc-mul}
use native.Mathlib.Omega.{arith}
use borrow.Author.Tests.{le-leb, lt-ltb, leb-true, ltb-true}
use lib.Dec.{ltb, leb, eqb}
use lib.ListN.{length, set, length-append, length-set}
use lib.Seq.{get_or-set_same, get_or-set_other}
use Rattle.lists.proofs.Tests.{and_left, and_right, and_both}
use Rattle.powers.specs.Tables.{entry, table_length}
use Rattle.shape.specs.Sums.{cut}
use Rattle.shape.proofs.Sums.{cut_added}
use Rattle.tree.specs.Good.{Good}
use Rattle.tree.specs.Forest.{Forest, nil, leaf, node, leaves, size, labels, joined}
use Rattle.tree_laws.proofs.Labels.{trees, labels_joined}
use Rattle.tree_laws.proofs.Spread.{leaves_joined, good_joined}
use Rattle.walk_model.specs.Levels.{Tables, Levels, closes, settle}
use Rattle.walk_model.specs.Promise.{TablesRight}

-- for each of k heights, from the lowest up, the closed trees left of the open node of that height
pub data Spine : ℕ → Type 0 where
  top : Spine zero
  over : {k : ℕ} → (left : Forest) → (above : Spine k) → Spine (suc k)

-- from height h up: the number of the open node of height h; above the last height it is the root
abbrev pub number : (w : ℕ → ℕ) (h : ℕ) {k : ℕ} → Spine k → ℕ
number w h top = 0
number w h (over f p) = number w (suc h) p + trees f * w h

-- the tags and the labels before that node
abbrev pub tags : {k : ℕ} → Spine k → List ℕ
tags top = []
tags (over f p) = tags p ++ leaves f

abbrev pub marks : (w : ℕ → ℕ) (h : ℕ) {k : ℕ} → Spine k → List ℕ
marks w h top = []
marks w h (over f p) = marks w (suc h) p ++ labels f w h (number w (suc h) p)

abbrev pub GoodSpine : (s r h : ℕ) {k : ℕ} → Spine k → Type 0
GoodSpine s r h top = Unit {0}
GoodSpine s r h (over f p) = Good s r f h × GoodSpine s r (suc h) p

-- levels that say where these nodes and the root end, by what a label holds, and the places where they begin
abbrev pub Agrees : (w : ℕ → ℕ) (v : Levels) (h : ℕ) {k : ℕ} → Spine k → Type 0
Agrees w v h top = entry v.ends h ≡ cut (number w h top + w h)
Agrees w v h (over f p) =
    (entry v.ends h ≡ cut (number w h (over f p) + w h)) × (entry v.firsts h ≡ length (tags (over f p))) × Agrees w v (suc h) p

pub end_is : (w : ℕ → ℕ) (v : Levels) (h : ℕ) {k : ℕ} (p : Spine k) → Agrees w v h p → entry v.ends h ≡ cut (number w h p + w h)
end_is w v h top a = a
end_is w v h (over f p) a = a.0

-- a good forest f of height j inside the open node of height suc j, with the spine from there up, at place i
pub record At (s r : ℕ) (w : ℕ → ℕ) (v : Levels) (j : ℕ) {k : ℕ} (f : Forest) (p : Spine k) (i : ℕ) : Type 0 where
  pub good : Good s r f j
  pub good_above : GoodSpine s r (suc j) p
  pub place_is : i ≡ length (tags p) + size f
  pub agrees : Agrees w v (suc j) p
  pub long_ends : length v.ends ≡ table_length
  pub long_firsts : length v.firsts ≡ table_length

-- CLOSING the open node over f: it becomes the last tree left of the next one
abbrev pub closed : Forest → Forest → Forest
closed left f = joined left (node f nil)

pub trees_joined : (f g : Forest) → trees (joined f g) ≡ trees f + trees g
unfolding joined
trees_joined nil g = omega arith
trees_joined (leaf x f) g = omega (arith, trees_joined f g)
trees_joined (node h f) g = omega (arith, trees_joined f g)

pub closed_number : (w : ℕ → ℕ) (j : ℕ) {k : ℕ} (left f : Forest) (p : Spine k) →
    number w (suc (suc j)) p + trees (closed left f) * w (suc j) ≡ number w (suc j) (over left p) + w (suc j)
closed_number w j left f p =
    let e : trees (closed left f) ≡ suc (trees left) = omega (arith, trees_joined left (node f nil)) in
    rw e omega (arith, suc-mul (trees left) (w (suc j)))

pub closed_leaves : (left f : Forest) → leaves (closed left f) ≡ leaves left ++ leaves f
unfolding leaves
closed_leaves left f = rw (leaves_joined, append-nil)

pub closed_labels : (left f : Forest) (w : ℕ → ℕ) (j a : ℕ) →
    labels (closed left f) w (suc j) a ≡ labels left w (suc j) a ++ labels f w j (a + trees left * w (suc j))
unfolding labels
closed_labels left f w j a = rw (labels_joined, append-nil)

-- one height up, where the node over f is closed
pub at_closed : {s r : ℕ} {w : ℕ → ℕ} {v : Levels} {j k i : ℕ} {f left : Forest} {p : Spine k} → At s r w v j f (over left p) i →
    r ^ suc j ≤ size f → size f < s * r ^ suc j → At s r w v (suc j) (closed left f) p i
at_closed {s} {r} {w} {v} {j} {k} {i} {f} {left} {p} a low high = record {
  good = good_joined s r left (node f nil) (suc j) a.good_above.0 (low, high, a.good, tt);
  good_above = a.good_above.1;
  place_is = rw (closed_leaves left f, length-append) (omega (arith, a.place_is, length-append (tags p) (leaves left)));
  agrees = a.agrees.2;
  long_ends = a.long_ends;
  long_firsts = a.long_firsts;
}

-- levels after a node of height h is opened for a label at place i
abbrev pub opened : Tables → Levels → (h label i : ℕ) → Levels
opened t v h l i = record { ends = set v.ends h (cut (l + entry t.widths h)); firsts = set v.firsts h i }

agrees_opened : (t : Tables) (w : ℕ → ℕ) (v : Levels) (g l i h : ℕ) {k : ℕ} (p : Spine k) → g < h → Agrees w v h p → Agrees w (opened t v g l i) h p
agrees_opened t w v g l i h top n a = rw (get_or-set_other v.ends g h _ 0 (omega arith)) a
agrees_opened t w v g l i h (over f p) n a = (
  rw (get_or-set_other v.ends g h _ 0 (omega arith)) a.0,
  rw (get_or-set_other v.firsts g h _ 0 (omega arith)) a.1,
  agrees_opened t w v g l i (suc h) p (omega arith) a.2,
)

-- which no height above it sees
pub at_opened : {s r : ℕ} {w : ℕ → ℕ} (t : Tables) {v : Levels} {j k i : ℕ} {f : Forest} {p : Spine k} (l : ℕ) → At s r w v j f p i →
    At s r w (opened t v j l i) j f p i
at_opened {s} {r} {w} t {v} {j} {k} {i} {f} {p} l a = record {
  good = a.good;
  good_above = a.good_above;
  place_is = a.place_is;
  agrees = agrees_opened t w v j l i (suc j) p (omega arith) a.agrees;
  long_ends = length-set v.ends _ _ ∙ a.long_ends;
  long_firsts = length-set v.firsts _ _ ∙ a.long_firsts;
}

-- ONE LEAF MORE as the last child of the open node of height 1
abbrev pub with_leaf : Forest → (x : ℕ) → Forest
with_leaf f x = joined f (leaf x nil)

pub leaf_leaves : (f : Forest) (x : ℕ) → leaves (with_leaf f x) ≡ leaves f ++ x ∷ []
unfolding leaves
leaf_leaves f x = rw leaves_joined

pub leaf_labels : (f : Forest) (x : ℕ) (w : ℕ → ℕ) (a : ℕ) → labels (with_leaf f x) w 0 a ≡ labels f w 0 a ++ (a + trees f * w 0) ∷ []
unfolding labels
leaf_labels f x w a = rw labels_joined

pub leaf_number : (w : ℕ → ℕ) {k : ℕ} (f : Forest) (p : Spine k) (x l : ℕ) → l ≡ number w 1 p + trees f * w 0 →
    l + w 0 ≡ number w 1 p + trees (with_leaf f x) * w 0
leaf_number w f p x l e =
    let n : trees (with_leaf f x) ≡ suc (trees f) = omega (arith, trees_joined f (leaf x nil)) in
    rw n omega (arith, suc-mul (trees f) (w 0))

pub at_leaf : {s r : ℕ} {w : ℕ → ℕ} {v : Levels} {k i : ℕ} {f : Forest} {p : Spine k} (x : ℕ) → At s r w v 0 f p i → At s r w v 0 (with_leaf f x) p (suc i)
at_leaf {s} {r} {w} {v} {k} {i} {f} {p} x a = record {
  good = good_joined s r f (leaf x nil) 0 a.good tt;
  good_above = a.good_above;
  place_is = rw (leaf_leaves f x, length-append) (omega (arith, a.place_is));
  agrees = a.agrees;
  long_ends = a.long_ends;
  long_firsts = a.long_firsts;
}

-- the clauses of `settle`
pub settle_stays : (t : Tables) (k h : ℕ) (exact : Bool) (l i : ℕ) (v : Levels) → ltb l (entry v.ends h) ≡ true →
    settle t (suc k) h exact l i v ≡ record { ok = exact; levels = v }
unfolding settle
settle_stays t k h exact l i v e = rw e

pub settle_higher : (t : Tables) (k h : ℕ) (exact : Bool) (l i : ℕ) (v : Levels) → ltb l (entry v.ends h) ≡ false →
    closes t h (entry v.firsts h) i ≡ true →
    settle t (suc k) h exact l i v ≡ settle t k (suc h) (eqb (entry v.ends h) l) l i (opened t v h l i)
unfolding settle
settle_higher t k h exact l i v e c = rw (e, c)

pub settle_fails : (t : Tables) (k h : ℕ) (exact : Bool) (l i : ℕ) (v : Levels) → ltb l (entry v.ends h) ≡ false →
    closes t h (entry v.firsts h) i ≡ false → settle t (suc k) h exact l i v ≡ record { ok = false; levels = v }
unfolding settle
settle_fails t k h exact l i v e c = rw (e, c)

-- what stands after nodes were closed and opened for a label l at place i: the spine, with the leaf's place to come right
-- behind its lowest trees; levels below height suc j are as before
pub record Placed (s r : ℕ) (w : ℕ → ℕ) (before after : Levels) (j : ℕ) {k : ℕ} (f : Forest) (p : Spine k) (l i : ℕ) : Type 0 where
  pub here : At s r w after j f p i
  pub label_is : l ≡ cut (number w (suc j) p + trees f * w j)
  pub kept_ends : (g : ℕ) → g ≤ j → entry after.ends g ≡ entry before.ends g
  pub kept_firsts : (g : ℕ) → g ≤ j → entry after.firsts g ≡ entry before.firsts g

-- nothing is closed
pub stay : {s r : ℕ} {w : ℕ → ℕ} {v : Levels} {j k l i : ℕ} {f : Forest} {p : Spine k} → At s r w v j f p i →
    l ≡ cut (number w (suc j) p + trees f * w j) → Placed s r w v v j f p l i
stay a e = record { here = a; label_is = e; kept_ends = λ g n. refl; kept_firsts = λ g n. refl }

module _ {s r : ℕ} {w : ℕ → ℕ} {t : Tables} {u : ℕ} (tables : TablesRight s r w (suc u) t) where
  -- the test of the limits of the open node over f, both ways
  module _ {v : Levels} {j k i : ℕ} {f left : Forest} {p : Spine k} (a : At s r w v j f (over left p) i) (fits : j ≤ u) where
    low_is : entry v.firsts (suc j) + entry t.lows (suc j) ≡ length (tags (over left p)) + r ^ suc j
    low_is = rw (a.agrees.1, tables.lows (suc j) (omega arith))

    high_is : entry v.firsts (suc j) + entry t.highs (suc j) ≡ length (tags (over left p)) + s * r ^ suc j
    high_is = rw (a.agrees.1, tables.highs (suc j) (omega arith))

    pub closes_of : r ^ suc j ≤ size f → size f < s * r ^ suc j → closes t (suc j) (entry v.firsts (suc j)) i ≡ true
    unfolding closes
    closes_of low high = and_both (le-leb _ i (omega (arith, low_is, a.place_is))) (lt-ltb i _ (omega (arith, high_is, a.place_is)))

    pub of_closes : closes t (suc j) (entry v.firsts (suc j)) i ≡ true → At s r w v (suc j) (closed left f) p i
    unfolding closes
    of_closes c =
        let first = entry v.firsts (suc j) in
        let above = leb (first + entry t.lows (suc j)) i in
        let below = ltb i (first + entry t.highs (suc j)) in
        at_closed a
        (omega (arith, leb-true _ i (and_left above below c), low_is, a.place_is))
        (omega (arith, ltb-true i _ (and_right above below c), high_is, a.place_is))

  -- the label expected behind one leaf more
  pub next_number : {k : ℕ} (f : Forest) (p : Spine k) (x l : ℕ) → l ≡ cut (number w 1 p + trees f * w 0) →
      cut (l + entry t.widths 0) ≡ cut (number w 1 p + trees (with_leaf f x) * w 0)
  next_number f p x l e =
      rw (tables.widths 0 (omega arith), e) (cut_added (number w 1 p + trees f * w 0) (w 0) ∙ ap cut (leaf_number w f p x _ refl))

  -- one height down, to no trees under the node opened there
  pub descend : {v z : Levels} {j k l i : ℕ} {f : Forest} {p : Spine k} → j ≤ u → length v.ends ≡ table_length → length v.firsts ≡ table_length →
      Placed s r w (opened t v (suc j) l i) z (suc j) f p l i → Placed s r w v z j nil (over f p) l i
  unfolding leaves
  descend {v} {z} {j} {k} {l} {i} {f} {p} fits long_ends long_firsts q =
      let small : suc j < table_length = omega (arith, tables.top_fits) in
      let ends_here : entry z.ends (suc j) ≡ cut (l + entry t.widths (suc j)) =
      q.kept_ends (suc j) (omega arith) ∙ get_or-set_same v.ends (suc j) _ 0 (omega arith) in
      let firsts_here : entry z.firsts (suc j) ≡ i =
      q.kept_firsts (suc j) (omega arith) ∙ get_or-set_same v.firsts (suc j) i 0 (omega arith) in
      record {
        here = record {
          good = tt;
          good_above = (q.here.good, q.here.good_above);
          place_is = rw length-append (omega (arith, q.here.place_is));
          agrees = (
            ends_here ∙ rw (tables.widths (suc j) (omega arith), q.label_is) (cut_added (number w (suc (suc j)) p + trees f * w (suc j)) (w (suc j))),
            rw length-append (omega (arith, firsts_here, q.here.place_is)),
            q.here.agrees,
          );
          long_ends = q.here.long_ends;
          long_firsts = q.here.long_firsts;
        };
        label_is = q.label_is ∙ ap cut (omega arith);
        kept_ends = λ g n. q.kept_ends g (omega arith) ∙ get_or-set_other v.ends (suc j) g _ 0 (omega arith);
        kept_firsts = λ g n. q.kept_firsts g (omega arith) ∙ get_or-set_other v.firsts (suc j) g _ 0 (omega arith);
      }
