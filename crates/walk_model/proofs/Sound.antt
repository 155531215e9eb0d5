-- Labels that pass are what labels hold of those of a tree within its limits (specs/Levels.antt): the trees closed so far are
-- built up on the way. Assumes nothing.
use mathlib.Core.Path.{◌≡◌, refl, ap, sym, ◌∙◌}
use mathlib.Core.Bool.{Bool, true, false, ◌&&◌, not, false≢true}
use mathlib.Core.List.{List, [], ◌∷◌, ◌++◌, map, map-append, append-nil, append_assoc}
use Prim.Native.Nat.{ℕ, suc, ◌+◌, ◌*◌, ◌≤◌}
use native.Mathlib.Nat.{zero-add}
use native.Mathlib.Omega.{arith}
use borrow.Author.Tests.{eqb-true}
use lib.Dec.{ltb, eqb}
use lib.ListN.{length}
use Rattle.lists.proofs.Tests.{and_left, and_right, by_test}
use Rattle.powers.specs.Tables.{entry}
use Rattle.shape.specs.Sums.{cut}
use Rattle.tree.specs.Good.{Good}
use Rattle.tree.specs.Forest.{Forest, nil, leaves, labels}
use Rattle.tree_laws.proofs.Labels.{trees}
use Rattle.walk_model.specs.Levels.{Tables, Levels, Settled, closes, settle, place_label, all_close, labels_pass}
use Rattle.walk_model.specs.Promise.{TablesRight}
use Rattle.walk_model.proofs.Spine.{Spine, top, over, number, tags, marks, At, at_opened, closed, closed_number, closed_leaves, closed_labels, opened, with_leaf, leaf_leaves, leaf_labels, at_leaf, settle_stays, settle_higher, settle_fails, Placed, stay, of_closes, next_number, descend}

-- the tags and labels read so far, for a forest f under a spine
abbrev read_tags : {k : ℕ} → Forest → Spine k → List ℕ
read_tags f p = tags p ++ leaves f

abbrev read_marks : (w : ℕ → ℕ) (j : ℕ) {k : ℕ} → Forest → Spine k → List ℕ
read_marks w j f p = marks w (suc j) p ++ labels f w j (number w (suc j) p)

-- they are the same after nodes were closed
record Kept (s r : ℕ) (w : ℕ → ℕ) (before after : Levels) (j k l i : ℕ) (xs ms : List ℕ) : Type 0 where
  forest : Forest
  spine : Spine k
  placed : Placed s r w before after j forest spine l i
  same_tags : read_tags forest spine ≡ xs
  same_marks : read_marks w j forest spine ≡ ms

kept_still : {s r : ℕ} {w : ℕ → ℕ} {v : Levels} {j k l i : ℕ} {f : Forest} {p : Spine k} → At s r w v j f p i →
    l ≡ cut (number w (suc j) p + trees f * w j) → Kept s r w v v j k l i (read_tags f p) (read_marks w j f p)
kept_still {f} {p} a e = record { forest = f; spine = p; placed = stay a e; same_tags = refl; same_marks = refl }

closed_tags : {k : ℕ} (f left : Forest) (p : Spine k) → read_tags (closed left f) p ≡ read_tags f (over left p)
closed_tags f left p = rw (closed_leaves left f) (sym (append_assoc (tags p) (leaves left) (leaves f)))

closed_marks : (w : ℕ → ℕ) (j : ℕ) {k : ℕ} (f left : Forest) (p : Spine k) → read_marks w (suc j) (closed left f) p ≡ read_marks w j f (over left p)
closed_marks w j f left p = rw (closed_labels left f, append_assoc)

-- a leaf goes behind them
leaf_tags : {k : ℕ} (f : Forest) (p : Spine k) (x : ℕ) (xs : List ℕ) → read_tags (with_leaf f x) p ++ xs ≡ read_tags f p ++ x ∷ xs
leaf_tags f p x xs = rw (leaf_leaves f x) (simp append_assoc)

leaf_marks : (w : ℕ → ℕ) {k : ℕ} (f : Forest) (p : Spine k) (x l : ℕ) (ls : List ℕ) → l ≡ cut (number w 1 p + trees f * w 0) →
    map cut (read_marks w 0 (with_leaf f x) p) ++ ls ≡ map cut (read_marks w 0 f p) ++ l ∷ ls
leaf_marks w f p x l ls e = rw (leaf_labels f x w (number w 1 p), e) (simp (map-append, append_assoc))

-- a tree within its limits of whose labels these are what a label holds
pub record TreeCut (s r : ℕ) (w : ℕ → ℕ) (under : ℕ) (tags ls : List ℕ) : Type 0 where
  pub forest : Forest
  pub good : Good s r forest under
  pub tags_are : leaves forest ≡ tags
  pub labels_are : map cut (labels forest w under 0) ≡ ls

module _ {s r : ℕ} {w : ℕ → ℕ} {t : Tables} {u : ℕ} (tables : TablesRight s r w (suc u) t) where
  kept_below : {v z : Levels} {j k l i : ℕ} {f left : Forest} {p : Spine k} → j ≤ u → At s r w v j f (over left p) i →
      Kept s r w (opened t v (suc j) l i) z (suc j) k l i (read_tags (closed left f) p) (read_marks w (suc j) (closed left f) p) →
      Kept s r w v z j (suc k) l i (read_tags f (over left p)) (read_marks w j f (over left p))
  unfolding leaves labels
  kept_below {j} {f} {left} {p} n a q = record {
    forest = nil;
    spine = over q.forest q.spine;
    placed = descend tables n a.long_ends a.long_firsts q.placed;
    same_tags = rw append-nil (q.same_tags ∙ closed_tags f left p);
    same_marks = rw append-nil (q.same_marks ∙ closed_marks w j f left p);
  }

  -- closing nodes for a label keeps what was read
  settle_kept : {k : ℕ} (j : ℕ) (f : Forest) (p : Spine k) (exact : Bool) (l i : ℕ) (v : Levels) (q : Settled) →
      settle t k (suc j) exact l i v ≡ q → j + k ≡ u → At s r w v j f p i → (exact ≡ true → l ≡ cut (number w (suc j) p + trees f * w j)) → q.ok ≡ true →
      Kept s r w v q.levels j k l i (read_tags f p) (read_marks w j f p)
  unfolding settle
  settle_kept j f top exact l i v q e n a x o =
      let b = and_left exact (ltb l (entry v.ends (suc j))) (ap (λ z. z.ok) e ∙ o) in
      rw (sym (ap (λ z. z.levels) e)) (kept_still a (x b))
  settle_kept j f (over {k} left p) exact l i v q e n a x o =
      let end = entry v.ends (suc j) in
      let first = entry v.firsts (suc j) in
      by_test (ltb l end)
      (λ below.
      let d = sym (settle_stays t k (suc j) exact l i v below) ∙ e in
      rw (sym (ap (λ z. z.levels) d)) (kept_still a (x (ap (λ z. z.ok) d ∙ o))))
      (λ above. by_test (closes t (suc j) first i)
      (λ c.
      let number_is : eqb end l ≡ true → l ≡ cut (number w (suc (suc j)) p + trees (closed left f) * w (suc j)) =
      λ b. sym (eqb-true end l b) ∙ a.agrees.0 ∙ ap cut (sym (closed_number w j left f p)) in
      kept_below (omega arith) a (
      settle_kept (suc j) (closed left f) p (eqb end l) l i (opened t v (suc j) l i) q (sym (settle_higher t k (suc j) exact l i v above c) ∙ e) (omega arith)
      (at_opened t l (of_closes tables a (omega arith) c)) number_is o))
      (λ c. absurd (false≢true (ap (λ z. z.ok) (sym (settle_fails t k (suc j) exact l i v above c) ∙ e) ∙ o))))

  -- so does any label that is accepted
  place_kept : (f : Forest) (p : Spine u) (e l i : ℕ) (v : Levels) (q : Settled) → place_label t u e l i v ≡ q → At s r w v 0 f p i →
      e ≡ cut (number w 1 p + trees f * w 0) → q.ok ≡ true → Kept s r w v q.levels 0 u l i (read_tags f p) (read_marks w 0 f p)
  unfolding place_label
  place_kept f p e l i v q d a n o = by_test (eqb l e && not (eqb l (entry v.ends 1)))
      (λ next.
      let same = eqb-true l e (and_left (eqb l e) (not (eqb l (entry v.ends 1))) next) in
      rw (sym (ap (λ z. z.levels) (rw next at d))) (kept_still a (same ∙ n)))
      (λ later. settle_kept 0 f p false l i v q (rw later at d) (zero-add u) a (λ x. absurd (false≢true x)) o)

  -- at the end the open nodes are closed
  tree_closed : {k : ℕ} (j : ℕ) (f : Forest) (p : Spine k) (i : ℕ) (v : Levels) → j + k ≡ u → At s r w v j f p i → all_close t k (suc j) i v ≡ true →
      TreeCut s r w u (read_tags f p) (map cut (read_marks w j f p))
  unfolding all_close
  tree_closed j f top i v n a c = let e : j ≡ u = omega arith in rw (← e) (record { forest = f; good = a.good; tags_are = refl; labels_are = refl })
  tree_closed j f (over {k} left p) i v n a c =
      let first = entry v.firsts (suc j) in
      let own = and_left (closes t (suc j) first i) (all_close t k (suc (suc j)) i v) c in
      let higher = and_right (closes t (suc j) first i) (all_close t k (suc (suc j)) i v) c in
      rw (← closed_tags f left p, ← closed_marks w j f left p)
      (tree_closed (suc j) (closed left f) p i v (omega arith) (of_closes tables a (omega arith) own) higher)

  -- labels that pass behind what was read make a tree with it
  pub tree_read : (ls xs : List ℕ) (f : Forest) (p : Spine u) (e i : ℕ) (v : Levels) → At s r w v 0 f p i → e ≡ cut (number w 1 p + trees f * w 0) →
      length xs ≡ length ls → labels_pass t u e i v ls ≡ true → TreeCut s r w u (read_tags f p ++ xs) (map cut (read_marks w 0 f p) ++ ls)
  unfolding labels_pass
  tree_read [] [] f p e i v a n m c = rw (append-nil (read_tags f p), append-nil (map cut (read_marks w 0 f p))) (tree_closed 0 f p i v (zero-add u) a c)
  tree_read [] (x ∷ xs) f p e i v a n m c = absurd (omega arith)
  tree_read (l ∷ ls) [] f p e i v a n m c = absurd (omega arith)
  tree_read (l ∷ ls) (x ∷ xs) f p e i v a n m c =
      let q = place_label t u e l i v in
      let rest = labels_pass t u (cut (l + entry t.widths 0)) (suc i) q.levels ls in
      let k = place_kept f p e l i v q refl a n (and_left q.ok rest c) in
      let tree = tree_read ls xs (with_leaf k.forest x) k.spine _ (suc i) q.levels (at_leaf x k.placed.here)
      (next_number tables k.forest k.spine x l k.placed.label_is) (omega arith)
      (and_right q.ok rest c) in
      record {
        forest = tree.forest;
        good = tree.good;
        tags_are = tree.tags_are ∙ leaf_tags k.forest k.spine x xs ∙ ap (λ z. z ++ x ∷ xs) k.same_tags;
        labels_are = tree.labels_are ∙ leaf_marks w k.forest k.spine x l ls k.placed.label_is ∙ ap (λ z. map cut z ++ l ∷ ls) k.same_marks;
      }
