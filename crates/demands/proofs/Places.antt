-- Along next: the tags met from a tag on are determined, and one stands behind another just where its place is greater.
-- Assumes nothing.
use mathlib.Core.Path.{◌≡◌, refl, ap, sym, ◌∙◌}
use mathlib.Core.Bool.{true}
use mathlib.Core.List.{List, [], ◌∷◌, ◌++◌, append_assoc}
use Prim.Native.Nat.{ℕ, suc, ◌+◌, ◌-◌, ◌<◌}
use native.Mathlib.Omega.{arith}
use lib.ListN.{length, get_or, take, drop, length-append, length-drop}
use lib.Seq.{split_at, get_or-drop}
use Rattle.store_types.specs.Layout.{at_first, at_next, word_at, field}
use Rattle.tree.specs.Row.{member, place}
use Rattle.tree_laws.proofs.Rows.{Distinct, place_of_member, getD_place}
use Rattle.calls_laws.proofs.Sections.{place_at}
use Rattle.demands.specs.Words.{Met, Stand}

pub met_one : (g : ℕ → ℕ) (x : ℕ) (xs ys : List ℕ) → Met g x xs → Met g x ys → xs ≡ ys
unfolding Met
met_one g x [] [] h k = refl
met_one g x [] (y ∷ ys) h k = absurd (k.1 (sym k.0 ∙ h))
met_one g x (y ∷ ys) [] h k = absurd (h.1 (sym h.0 ∙ k))
met_one g x (y ∷ ys) (z ∷ zs) h k =
    let same : z ≡ y = sym k.0 ∙ h.0 in
    let rest : Met g (g y) zs = rw same at k.2 in
    rw (same, met_one g (g y) ys zs h.2 rest)

-- three places in order part a list
parted : (xs : List ℕ) (i j k d : ℕ) → i < j → j < k → k < length xs →
    (before : List ℕ) × (between : List ℕ) × (then : List ℕ) × (behind : List ℕ)
    × (xs ≡ before ++ get_or xs i d ∷ between ++ get_or xs j d ∷ then ++ get_or xs k d ∷ behind)
parted xs i j k d a b c =
    let ys = drop (suc i) xs in
    let m = j - suc i in
    let zs = drop (suc m) ys in
    let n = k - suc j in
    let long_ys = length-drop (suc i) xs in
    let long_zs = length-drop (suc m) ys in
    let at_j : get_or ys m d ≡ get_or xs j d = get_or-drop (suc i) xs m d ∙ ap (λ (v : ℕ). get_or xs v d) (omega arith) in
    let at_k : get_or zs n d ≡ get_or xs k d =
    get_or-drop (suc m) ys n d ∙ (get_or-drop (suc i) xs (suc m + n) d ∙ ap (λ (v : ℕ). get_or xs v d) (omega arith)) in
    let last : zs ≡ take n zs ++ get_or xs k d ∷ drop (suc n) zs = split_at zs n d (omega arith) ∙ rw at_k in
    let middle : ys ≡ take m ys ++ get_or xs j d ∷ zs = split_at ys m d (omega arith) ∙ rw at_j in (
      take i xs,
      take m ys,
      take n zs,
      drop (suc n) zs,
      split_at xs i d (omega arith)
          ∙ (ap (λ (v : List ℕ). take i xs ++ (get_or xs i d ∷ v)) (middle ∙ ap (λ (v : List ℕ). take m ys ++ (get_or xs j d ∷ v)) last)
          ∙ (sym (append_assoc (take i xs) (get_or xs i d ∷ take m ys) (get_or xs j d ∷ (take n zs ++ (get_or xs k d ∷ drop (suc n) zs))))
          ∙ sym (append_assoc (take i xs ++ (get_or xs i d ∷ take m ys)) (get_or xs j d ∷ take n zs) (get_or xs k d ∷ drop (suc n) zs)))),
    )

module _ (ws row : List ℕ) (met : Met (λ z. field ws z at_next) (word_at ws at_first) row) (once : Distinct row) where
  pub stand_of : (x d y : ℕ) → member x row ≡ true → member d row ≡ true → member y row ≡ true → place x row < place d row → place d row < place y row → Stand ws x d y
  unfolding Stand
  stand_of x d y mx md my a b =
      let (before, between, then, behind, e) = parted row (place x row) (place d row) (place y row) 0 a b (place_of_member y row my) in
      let named : row ≡ before ++ x ∷ between ++ d ∷ then ++ y ∷ behind = rw (getD_place x row 0 mx, getD_place d row 0 md, getD_place y row 0 my) at e in
      (before, between, then, behind, rw named at met)

  pub places_of : (x d y : ℕ) → Stand ws x d y → (place x row < place d row) × (place d row < place y row)
  unfolding Stand
  places_of x d y (before, between, then, behind, m) =
      let front = before ++ (x ∷ between) in
      let all = front ++ (d ∷ then) in
      let e_y : row ≡ all ++ (y ∷ behind) = met_one (λ z. field ws z at_next) (word_at ws at_first) row _ met m in
      let e_d : row ≡ front ++ (d ∷ (then ++ (y ∷ behind))) = e_y ∙ append_assoc front (d ∷ then) (y ∷ behind) in
      let e_x : row ≡ before ++ (x ∷ (between ++ (d ∷ (then ++ (y ∷ behind))))) = e_d ∙ append_assoc before (x ∷ between) (d ∷ (then ++ (y ∷ behind))) in
      let at_x : place x row ≡ length before = ap (place x) e_x ∙ place_at before x _ (rw e_x at once) in
      let at_d : place d row ≡ length front = ap (place d) e_d ∙ place_at front d _ (rw e_d at once) in
      let at_y : place y row ≡ length all = ap (place y) e_y ∙ place_at all y _ (rw e_y at once) in (
        omega (arith, length-append before (x ∷ between)),
        omega (arith, length-append front (d ∷ then)),
      )
