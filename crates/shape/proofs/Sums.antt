-- What sums of labels and widths leave, and what is left of the labels of a tree. Assumes nothing.
use mathlib.Core.Path.{◌≡◌, refl, ap, sym, ◌∙◌}
use mathlib.Core.List.{List, [], ◌∷◌, map, map-append}
use Prim.Native.Nat.{ℕ, suc, pred, ◌+◌, ◌≤◌, ◌<◌}
use native.Mathlib.Nat.{mod-lt, mod-le, mod-eq_of_lt, mod-mod, mod-add-mod}
use native.Mathlib.Omega.{arith}
use lib.ListN.{length, get_or}
use Rattle.store_types.specs.Limits.{label_limit}
use Rattle.tree.specs.Forest.{Forest, nil, leaf, node, labels}
use Rattle.shape.specs.Sums.{cut}

-- it is a label, and no more than the number; one that is below the limit is as it was, and so is what is left already
pub cut_small : (a : ℕ) → cut a < label_limit
unfolding cut
cut_small a = mod-lt a (omega arith)

pub cut_below : (l : ℕ) → l < label_limit → cut l ≡ l
unfolding cut
cut_below l small = mod-eq_of_lt small

pub cut_most : (a : ℕ) → cut a ≤ a
unfolding cut
cut_most a = mod-le a label_limit

pub cut_twice : (a : ℕ) → cut (cut a) ≡ cut a
unfolding cut
cut_twice a = mod-mod a label_limit

-- what is added later counts all the same
pub cut_added : (a y : ℕ) → cut (cut a + y) ≡ cut (a + y)
unfolding cut
cut_added a y = mod-add-mod a label_limit y

-- LABELS: where all of a list fit they are as they were
pub cut_all : (ls : List ℕ) → ((i : ℕ) → i < length ls → get_or ls i 0 < label_limit) → map cut ls ≡ ls
cut_all [] small = refl
cut_all (l ∷ ls) small = rw (cut_below l (small 0 (omega arith)), cut_all ls (λ i n. small (suc i) (omega arith)))

-- numbers of which the same is left, with the same added, and the labels from them
cut_add : (a c d : ℕ) → cut a ≡ cut c → cut (a + d) ≡ cut (c + d)
cut_add a c d e = sym (cut_added a d) ∙ ap (λ (n : ℕ). cut (n + d)) e ∙ cut_added c d

labels_alike : (f : Forest) (w : ℕ → ℕ) (j a c : ℕ) → cut a ≡ cut c → map cut (labels f w j a) ≡ map cut (labels f w j c)
unfolding labels
labels_alike nil w j a c e = refl
labels_alike (leaf x f) w j a c e = rw (e, labels_alike f w j (a + w j) (c + w j) (cut_add a c (w j) e))
labels_alike (node g f) w j a c e =
    simp (map-append, labels_alike g w (pred j) a c e, labels_alike f w j (a + w j) (c + w j) (cut_add a c (w j) e))

pub labels_cut : (f : Forest) (w : ℕ → ℕ) (j a : ℕ) → map cut (labels f w j (cut a)) ≡ map cut (labels f w j a)
labels_cut f w j a = labels_alike f w j (cut a) a (cut_twice a)
