-- Noted names brought into order one after the other. Assumes nothing.
use mathlib.Core.Path.{◌≡◌, refl, sym, ◌∙◌}
use mathlib.Core.Bool.{Bool, true, false, false≢true}
use mathlib.Core.List.{List, [], ◌∷◌, ◌++◌, map, map-append}
use Prim.Native.Nat.{ℕ, suc, ◌+◌, ◌-◌, ◌<◌, ◌≤◌}
use native.Mathlib.Omega.{arith}
use native.Mathlib.Numerals.{add-one}
use lib.ListN.{length, get_or, take, drop}
use lib.Seq.{take-suc, take-add}
use Rattle.xml.specs.Grammar.{among}
use Rattle.xml_scan.specs.Post.{name_from}
use Rattle.name_index.specs.Order.{differ}
use Rattle.name_index.specs.Index.{places, names_at, name_at, Begun, Index, Holds, Arranged}
use Rattle.name_index.specs.Steps.{Next, Joined}
use Rattle.name_index.proofs.Names.{differ_append, differ_last}

names_last : (text ss : List ℕ) (i : ℕ) → i < length ss → names_at text ss (suc i) ≡ names_at text ss i ++ (name_at text ss i ∷ [])
unfolding names_at name_at
names_last text ss i l = rw (take-suc ss i 0 l) (map-append (name_from text) (take i ss) (get_or ss i 0 ∷ []))

-- the first ones differ where all do
differ_first : (text ss : List ℕ) (i n : ℕ) → i ≤ n → differ (names_at text ss i) ≡ false → differ (names_at text ss n) ≡ false
unfolding names_at
differ_first text ss i n l e =
    let later = take (n - i) (drop i ss) in
    let q : n ≡ i + (n - i) = omega arith in
    rw (q, take-add i (n - i) ss, map-append (name_from text) (take i ss) later, differ_append (map (name_from text) (take i ss)) (map (name_from text) later), e)

-- the first i of the noted names are in order, and the places of the others are as they were
pub record Arranging (text ss₀ : List ℕ) (n : ℕ) (hs ss : List ℕ) (i : ℕ) : Type 0 where
  pub within : i ≤ n
  pub differing : differ (names_at text ss₀ i) ≡ true
  pub index : Index text hs ss i
  pub holds : Holds text ss i (names_at text ss₀ i)
  pub left : (j : ℕ) → i ≤ j → get_or ss j 0 ≡ get_or ss₀ j 0

pub arranging_start : (text hs ss : List ℕ) (n : ℕ) → Arranging text ss n hs ss 0
unfolding names_at differ among
arranging_start text hs ss n = record {
  within = omega arith;
  differing = refl;
  index = record {
    begun = record { room = omega arith; within = λ i l. absurd (omega arith) };
    hashed = λ i l. absurd (omega arith);
    ordered = λ i j l m. absurd (omega arith);
  };
  holds = record { each = λ i l. absurd (omega arith); only = λ x e. absurd (false≢true e) };
  left = λ j l. refl;
}

module _ {text ss₀ : List ℕ} {n : ℕ} (begun : Begun text ss₀ n) (size : length ss₀ ≡ places) {hs ss : List ℕ} {i : ℕ} (a : Arranging text ss₀ n hs ss i) where
  pub arranging_next : i < n → Next text hs ss i
  arranging_next l = record {
    index = a.index;
    entry = record { room = omega (arith, begun.room); within = rw (a.left i (omega arith)) (begun.within i l) };
  }

  name_left : name_at text ss i ≡ name_at text ss₀ i
  unfolding name_at
  name_left = rw (a.left i (omega arith))

  -- the next one differs from them as it is told
  differ_next : {hs' ss' : List ℕ} {t : Bool} → i < n → Joined text ss hs' ss' i t → differ (names_at text ss₀ (suc i)) ≡ t
  differ_next l j =
      rw (names_last text ss₀ i (omega (arith, begun.room)), differ_last (names_at text ss₀ i) (name_at text ss₀ i), a.differing, ← name_left)
      (sym (j.tells (names_at text ss₀ i) a.holds))

  pub arranging_turn : {hs' ss' : List ℕ} {t : Bool} → i < n → Joined text ss hs' ss' i t → t ≡ true → Arranging text ss₀ n hs' ss' (i + 1)
  arranging_turn l j e =
      let added = j.added e in
      rw (add-one i) (record {
        within = omega arith;
        differing = differ_next l j ∙ e;
        index = added.index;
        holds = rw (names_last text ss₀ i (omega (arith, begun.room)), ← name_left) (added.holds (names_at text ss₀ i) a.holds);
        left = λ k m. added.later k (omega arith) ∙ a.left k (omega arith);
      })

  pub arranging_not : {hs' ss' : List ℕ} {t : Bool} → i < n → Joined text ss hs' ss' i t → t ≡ false → Arranged text ss₀ n hs' ss' false
  arranging_not l j e = record {
    tells = sym (differ_first text ss₀ (suc i) n (omega arith) (differ_next l j ∙ e));
    index = λ w. absurd (false≢true w);
    holds = λ w. absurd (false≢true w);
  }

  pub arranging_end : n ≤ i → Arranged text ss₀ n hs ss true
  arranging_end l =
      let e : i ≡ n = omega (arith, a.within) in
      record { tells = rw e at (sym a.differing); index = λ w. rw e at a.index; holds = λ w. rw e at a.holds }
