-- Labels pass if and only if a tree within its limits has them (specs/Promise.antt). Assumes nothing.
use mathlib.Core.Path.{◌≡◌, refl, ap, sym, ◌∙◌}
use mathlib.Core.Bool.{true}
use mathlib.Core.List.{List, [], append-nil}
use Prim.Native.Nat.{ℕ, zero, suc, ◌+◌, ◌*◌, ◌^◌, ◌≤◌, ◌<◌}
use native.Mathlib.Omega.{arith}
use lib.ListN.{length, get_or, get_or-replicate, length-replicate}
use Rattle.store_types.specs.Limits.{label_limit}
use Rattle.powers.specs.Tables.{entry, table_length}
use Rattle.shape.specs.Sums.{cut}
use Rattle.shape.proofs.Sums.{cut_below, cut_all}
use Rattle.tree.specs.Forest.{Forest, nil, leaf, node, leaves, size, labels}
use Rattle.tree.specs.Promise.{Widths}
use Rattle.tree_laws.proofs.Labels.{rising_below, node_rising}
use Rattle.tree_laws.proofs.Spread.{some_power}
use Rattle.walk_model.specs.Levels.{Tables, start_levels, labels_pass}
use Rattle.walk_model.specs.Promise.{TablesRight, TreeWith, LevelsRight}
use Rattle.walk_model.proofs.Spine.{Spine, top, over, number, tags, marks, GoodSpine, Agrees, At}
use Rattle.walk_model.proofs.Sound.{TreeCut, tree_read}
use Rattle.walk_model.proofs.Complete.{Rest, rest_labels, rest_below, labels_below, rest_passes}

-- BEFORE THE FIRST LABEL nothing is closed
abbrev empty : (k : ℕ) → Spine k
empty zero = top
empty (suc k) = over nil (empty k)

empty_number : (w : ℕ → ℕ) (h k : ℕ) → number w h (empty k) ≡ 0
empty_number w h zero = refl
empty_number w h (suc k) = omega (arith, empty_number w (suc h) k)

empty_tags : (k : ℕ) → tags (empty k) ≡ []
unfolding leaves
empty_tags zero = refl
empty_tags (suc k) = rw (empty_tags k)

empty_marks : (w : ℕ → ℕ) (h k : ℕ) → marks w h (empty k) ≡ []
unfolding labels
empty_marks w h zero = refl
empty_marks w h (suc k) = rw (empty_marks w (suc h) k)

empty_good : (s r h k : ℕ) → GoodSpine s r h (empty k)
empty_good s r h zero = tt
empty_good s r h (suc k) = (tt, empty_good s r (suc h) k)

module _ {s r : ℕ} {w : ℕ → ℕ} {t : Tables} {u : ℕ} (tables : TablesRight s r w (suc u) t) where
  -- a label can hold where the first node of each height ends
  first_end : (h a : ℕ) → a ≡ 0 → h ≤ suc u → entry t.widths h ≡ cut (a + w h)
  first_end h a e l = tables.widths h l ∙ sym (ap cut (omega arith) ∙ cut_below (w h) (tables.narrow h l))

  empty_agrees : (h k : ℕ) → h + k ≡ suc u → Agrees w (start_levels t) h (empty k)
  unfolding start_levels
  empty_agrees h zero e = first_end h 0 refl (omega arith)
  empty_agrees h (suc k) e = (
    first_end h (number w h (empty (suc k))) (empty_number w h (suc k)) (omega arith),
    get_or-replicate table_length h 0 0 (omega (arith, tables.top_fits)) ∙ sym (ap length (empty_tags (suc k))),
    empty_agrees (suc h) k (omega arith),
  )

  at_start : At s r w (start_levels t) 0 nil (empty u) 0
  unfolding start_levels leaves
  at_start = record {
    good = tt;
    good_above = empty_good s r 1 u;
    place_is = rw (empty_tags u);
    agrees = empty_agrees 1 u (omega arith);
    long_ends = tables.long;
    long_firsts = length-replicate {A = ℕ} table_length 0;
  }

  number_start : 0 ≡ cut (number w 1 (empty u) + 0 * w 0)
  number_start = sym (ap cut (omega (arith, empty_number w 1 u)) ∙ cut_below 0 (omega arith))

  -- labels that pass are what labels hold of those of a tree
  tree_of : (xs ls : List ℕ) → length xs ≡ length ls → labels_pass t u 0 0 (start_levels t) ls ≡ true → TreeCut s r w u xs ls
  unfolding leaves labels
  tree_of xs ls n c = rw (empty_tags u, empty_marks w 1 u) at (tree_read tables ls xs nil (empty u) 0 0 (start_levels t) at_start number_start n c)

  module _ (s_least : 2 ≤ s) (r_least : 2 ≤ r) (widths : Widths s r w) where
    -- and those are whole: the labels of a tree within its limits are below the root's width
    tree_whole : (xs ls : List ℕ) → length xs < s * r ^ suc u → TreeCut s r w u xs ls → TreeWith s r w u xs ls
    tree_whole xs ls high tree =
        let f = tree.forest in
        let own = node_rising s_least r_least widths f u 0 tree.good (omega (arith, ap length tree.tags_are)) in
        let small : (i : ℕ) → i < length (labels f w u 0) → get_or (labels f w u 0) i 0 < label_limit =
        λ i l. omega (arith, rising_below 0 (0 + w (suc u)) (labels f w u 0) own i l, tables.narrow (suc u) (omega arith)) in
        record { forest = f; good = tree.good; tags_are = tree.tags_are; labels_are = sym (cut_all (labels f w u 0) small) ∙ tree.labels_are }

    -- the labels of a tree pass: its first nodes are opened down to the first leaf
    first_passes : (j k : ℕ) (g : Forest) (q : Spine k) (ls : List ℕ) → j + k ≡ u → Rest s r j nil g (empty k) q → ((j ≡ 0 → ⊥) → 1 ≤ size g) →
        rest_labels w j nil g (empty k) q ≡ ls → labels_pass t u 0 0 (start_levels t) ls ≡ true
    unfolding leaves
    first_passes zero k g q ls m b n e =
        let same : k ≡ u = omega arith in
        let go : (q : Spine k) → Rest s r 0 nil g (empty k) q → rest_labels w 0 nil g (empty k) q ≡ ls → labels_pass t u 0 0 (start_levels t) ls ≡ true =
        rw same (λ q b e. rest_passes s_least r_least widths tables ls nil g (empty u) q 0 0 (start_levels t) at_start b e number_start) in
        go q b e
    first_passes (suc j) k nil q ls m b n e = absurd (omega (arith, n (omega arith)))
    first_passes (suc j) k (leaf x g) q ls m b n e = absurd b.good
    first_passes (suc j) k (node g h) q ls m b n e =
        first_passes j (suc k) g (over h q) ls (omega arith) (rest_below b) (λ x. omega (arith, b.good.0, some_power r (suc j) r_least))
        (labels_below w j nil g h (empty k) q ∙ e)

    tree_passes : (f : Forest) (ls : List ℕ) → Rest s r u nil f top top → ((u ≡ 0 → ⊥) → 1 ≤ size f) → labels f w u 0 ≡ ls →
        labels_pass t u 0 0 (start_levels t) ls ≡ true
    tree_passes f ls b n e =
        let a : 0 + 0 * w u ≡ 0 = omega arith in
        first_passes u 0 f top ls (omega arith) b n (rw (a, append-nil (labels f w u 0)) e)

-- LABELS PASS if and only if a tree within its limits has them
pub levels_right : LevelsRight
unfolding LevelsRight leaves
levels_right s r w t u xs ls s_least r_least widths tables n high low = (
  λ c. tree_whole tables s_least r_least widths xs ls (omega arith) (tree_of tables xs ls n c),
  λ tree.
      let m : size tree.forest ≡ length ls = ap length tree.tags_are ∙ n in
      tree_passes tables s_least r_least widths tree.forest ls (record { good = tree.good; good_above = tt; room = omega arith }) (λ x. omega (arith, low x)) tree.labels_are,
)
