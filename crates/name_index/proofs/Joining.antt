-- The name after those of an index joins them: the index is one then too, and holds that name more. Assumes nothing.
use mathlib.Core.Path.{◌≡◌, sym, ◌∙◌}
use mathlib.Core.Bool.{Bool, true, false, false≢true}
use mathlib.Core.List.{List, [], ◌∷◌, ◌++◌}
use mathlib.Core.Logic.{⊎_elim, by_cases}
use Prim.Native.Nat.{ℕ, suc, ◌+◌, ◌-◌, ◌<◌, ◌≤◌}
use native.Mathlib.Omega.{arith}
use native.Mathlib.Decide.{dec_lt}
use lib.ListN.{length, get_or, take, drop}
use Rattle.std.specs.declared.cmp.Ordering.TheVariants.{Less}
use Rattle.xml.specs.Grammar.{among}
use Rattle.xml.specs.Scan.{name_length}
use Rattle.name_index.specs.Order.{order, hash_of}
use Rattle.name_index.specs.Index.{name_at, key_at, Index, Holds}
use Rattle.name_index.specs.Steps.{Searched, Inserted, Next, Joined}
use Rattle.name_index.proofs.Names.{among_here, among_before, among_cases}
use Rattle.name_index.proofs.NameEnds.{name_part}
use Rattle.name_index.proofs.Orders.{order_equal, order_other, by_order}
use Rattle.name_index.proofs.Entries.{name_equal, told_among}

-- the name up to where it ends is that of the entry
pub searched_entry : (text hs ss : List ℕ) (n : ℕ) {b h p : ℕ} {t : Bool} → b ≡ get_or ss n 0 + name_length (drop (get_or ss n 0) text) →
    Searched text hs ss n (take (b - get_or ss n 0) (drop (get_or ss n 0) text)) h p t → Searched text hs ss n (name_at text ss n) h p t
unfolding name_at
searched_entry text hs ss n ends s = rw (name_part text (get_or ss n 0) ends) at s

-- a fact of each place, by where it lies: before p, at p, after p
by_place : (P : ℕ → Type 0) (p n : ℕ) → ((i : ℕ) → i < p → P i) → P p → ((i : ℕ) → p ≤ i → i < n → P (suc i)) → (i : ℕ) → i < suc n → P i
by_place P p n below here above i l =
    by_order i p
    (λ less. below i less)
    (λ same. rw same here)
    (λ more. let e : i ≡ suc (i - 1) = omega arith in rw e (above (i - 1) (omega arith) (omega arith)))

module _ {text hs ss hs' ss' : List ℕ} {n h p : ℕ} {t : Bool} (next : Next text hs ss n) (s : Searched text hs ss n (name_at text ss n) h p t) (new : t ≡ false)
    (ih : Inserted hs p n h hs') (is : Inserted ss p n (get_or ss n 0) ss') where
  name_below : (i : ℕ) → i < p → name_at text ss' i ≡ name_at text ss i
  unfolding name_at
  name_below i l = rw (is.below i l)

  name_here : name_at text ss' p ≡ name_at text ss n
  unfolding name_at
  name_here = rw is.here

  name_above : (i : ℕ) → p ≤ i → i < n → name_at text ss' (suc i) ≡ name_at text ss i
  unfolding name_at
  name_above i k l = rw (is.above i k l)

  key_below : (i : ℕ) → i < p → key_at text hs' ss' i ≡ key_at text hs ss i
  unfolding key_at
  key_below i l = rw (ih.below i l, name_below i l)

  key_here : key_at text hs' ss' p ≡ h ∷ name_at text ss n
  unfolding key_at
  key_here = rw (ih.here, name_here)

  key_above : (i : ℕ) → p ≤ i → i < n → key_at text hs' ss' (suc i) ≡ key_at text hs ss i
  unfolding key_at
  key_above i k l = rw (ih.above i k l, name_above i k l)

  -- the new key comes before each from its place on
  new_before : (i : ℕ) → p ≤ i → i < n → order (h ∷ name_at text ss n) (key_at text hs ss i) ≡ Less
  new_before i k l =
      order_other (key_at text hs ss i) (h ∷ name_at text ss n) (s.found.above i k l)
      (λ e. s.told.no new i l (name_equal next.index (name_at text ss n) h s.hash i (order_equal (key_at text hs ss i) (h ∷ name_at text ss n) e)))

  p≤n : p ≤ n
  p≤n = s.found.within

  ordered' : (i : ℕ) → i < suc n → (j : ℕ) → j < suc n → i < j → order (key_at text hs' ss' i) (key_at text hs' ss' j) ≡ Less
  ordered' =
      let index = next.index in
      by_place (λ i. (j : ℕ) → j < suc n → i < j → order (key_at text hs' ss' i) (key_at text hs' ss' j) ≡ Less) p n
      (λ i l. rw (key_below i l) (by_place (λ j. i < j → order (key_at text hs ss i) (key_at text hs' ss' j) ≡ Less) p n
      (λ j m less. rw (key_below j m) (index.ordered i j less (omega (arith, p≤n))))
      (λ less. rw key_here (s.found.below i l))
      (λ j k m less. rw (key_above j k m) (index.ordered i j (omega arith) m))))
      (rw key_here (by_place (λ j. p < j → order (h ∷ name_at text ss n) (key_at text hs' ss' j) ≡ Less) p n
      (λ j m less. absurd (omega arith))
      (λ less. absurd (omega arith))
      (λ j k m less. rw (key_above j k m) (new_before j k m))))
      (λ i l m. rw (key_above i l m) (by_place (λ j. suc i < j → order (key_at text hs ss i) (key_at text hs' ss' j) ≡ Less) p n
      (λ j o less. absurd (omega arith))
      (λ less. absurd (omega arith))
      (λ j k o less. rw (key_above j k o) (index.ordered i j (omega arith) o))))

  index' : Index text hs' ss' (suc n)
  index' =
      let index = next.index in
      record {
        begun = record {
          room = omega (arith, next.entry.room);
          within = by_place (λ i. get_or ss' i 0 ≤ length text) p n
              (λ i l. rw (is.below i l) (index.begun.within i (omega (arith, p≤n))))
              (rw is.here next.entry.within)
              (λ i k l. rw (is.above i k l) (index.begun.within i l));
        };
        hashed = by_place (λ i. get_or hs' i 0 ≡ hash_of (name_at text ss' i)) p n
            (λ i l. rw (ih.below i l, name_below i l) (index.hashed i (omega (arith, p≤n))))
            (rw (ih.here, name_here) s.hash)
            (λ i k l. rw (ih.above i k l, name_above i k l) (index.hashed i l));
        ordered = λ i j l m. ordered' i (omega arith) j m l;
      }

  holds' : (names : List (List ℕ)) → Holds text ss n names → Holds text ss' (suc n) (names ++ (name_at text ss n ∷ []))
  holds' names held = record {
    each = by_place (λ i. among (name_at text ss' i) (names ++ (name_at text ss n ∷ [])) ≡ true) p n
        (λ i l. rw (name_below i l) (among_before (name_at text ss i) (name_at text ss n) names (held.each i (omega (arith, p≤n)))))
        (among_here (name_at text ss' p) (name_at text ss n) names name_here)
        (λ i k l. rw (name_above i k l) (among_before (name_at text ss i) (name_at text ss n) names (held.each i l)));
    only = λ x a.
        ⊎_elim
        (λ e. (p, omega (arith, p≤n), name_here ∙ sym e))
        (λ a'.
        let w = held.only x a' in
        let inside = w.1 in
        by_cases (dec_lt w.0 p)
        (λ less. (w.0, omega arith, name_below w.0 less ∙ w.2))
        (λ more. (suc w.0, omega arith, name_above w.0 (omega arith) w.1 ∙ w.2)))
        (among_cases x (name_at text ss n) names a);
  }

  pub joined_new : Joined text ss hs' ss' n true
  joined_new = record {
    tells = λ names held. rw (← (told_among s.told names held), new);
    added = λ e. record { index = index'; holds = holds'; later = is.later };
  }

pub joined_not : {text hs ss : List ℕ} {n h p : ℕ} {t : Bool} → Next text hs ss n → Searched text hs ss n (name_at text ss n) h p t → t ≡ true →
    Joined text ss hs ss n false
joined_not next s held = record {
  tells = λ names h. rw (← (told_among s.told names h), held);
  added = λ e. absurd (false≢true e);
}
