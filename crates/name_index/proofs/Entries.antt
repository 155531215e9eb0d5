-- Entries of an index and a key: compared, searched by halves, and what is found says of the names. Assumes nothing.
use mathlib.Core.Path.{◌≡◌, refl, ap, sym, ◌∙◌}
use mathlib.Core.Bool.{Bool, true, false, false≢true}
use mathlib.Core.List.{List, ◌∷◌}
use mathlib.Core.Logic.{by_cases}
use Prim.Native.Nat.{ℕ, ◌+◌, ◌-◌, ◌<◌, ◌≤◌}
use native.Mathlib.Omega.{arith}
use native.Mathlib.Decide.{ℕ_discrete}
use borrow.Author.Tests.{eqb-false, eqb-true}
use lib.Dec.{eqb}
use lib.ListN.{get_or, take, drop}
use Rattle.lists.proofs.Tests.{by_test, fails}
use Rattle.xml.specs.Grammar.{among}
use Rattle.xml.specs.Scan.{name_length}
use Rattle.std.specs.declared.cmp.Ordering.{Ordering}
use Rattle.std.specs.declared.cmp.Ordering.TheVariants.{Less, Equal, Greater}
use Rattle.std.specs.Ordering.{ordering_index}
use Rattle.name_index.specs.Order.{order, hash_of}
use Rattle.name_index.specs.Index.{name_at, key_at, Index, Holds}
use Rattle.name_index.specs.Steps.{Entry, Found, Told, Searched}
use Rattle.name_index.proofs.NameEnds.{name_part}
use Rattle.name_index.proofs.Orders.{step_less, step_more, step_equal, order_refl, order_equal, order_trans, by_order}

-- an entry's key and another, by their hashes and else by their names
module _ (text hs ss : List ℕ) (i h : ℕ) (name : List ℕ) where
  pub key_less : get_or hs i 0 < h → Less ≡ order (key_at text hs ss i) (h ∷ name)
  unfolding order key_at
  key_less l = sym (step_less (get_or hs i 0) h (order (name_at text ss i) name) l)

  pub key_more : h < get_or hs i 0 → Greater ≡ order (key_at text hs ss i) (h ∷ name)
  unfolding order key_at
  key_more l = sym (step_more (get_or hs i 0) h (order (name_at text ss i) name) l)

  pub key_rest : (b : ℕ) (r : Ordering) → get_or hs i 0 ≡ h → b ≡ get_or ss i 0 + name_length (drop (get_or ss i 0) text) →
      r ≡ order (take (b - get_or ss i 0) (drop (get_or ss i 0) text)) name → r ≡ order (key_at text hs ss i) (h ∷ name)
  unfolding order key_at name_at
  key_rest b r e ends o = (rw (name_part text (get_or ss i 0) ends) at o) ∙ sym (step_equal (get_or hs i 0) h (order (name_at text ss i) name) e)

-- an entry of an index can be looked at
pub entry_of : {text hs ss : List ℕ} {n i : ℕ} → Index text hs ss n → i < n → Entry text ss i
entry_of {text} {hs} {ss} {n} {i} index l = record { room = omega (arith, index.begun.room); within = index.begun.within i l }

-- between low and high the key's place is looked for
pub record Finding (text hs ss : List ℕ) (n : ℕ) (key : List ℕ) (low high : ℕ) : Type 0 where
  pub rising : low ≤ high
  pub within : high ≤ n
  pub below : (i : ℕ) → i < low → order (key_at text hs ss i) key ≡ Less
  pub above : (i : ℕ) → high ≤ i → i < n → order (key_at text hs ss i) key ≡ Less → ⊥

module _ {text hs ss : List ℕ} {n : ℕ} (index : Index text hs ss n) (key : List ℕ) where
  pub finding_start : Finding text hs ss n key 0 n
  finding_start = record {
    rising = omega arith;
    within = omega arith;
    below = λ i l. absurd (omega arith);
    above = λ i l m e. omega arith;
  }

  module _ {low high : ℕ} (f : Finding text hs ss n key low high) (mid : ℕ) where
    pub finding_up : mid < high → order (key_at text hs ss mid) key ≡ Less → Finding text hs ss n key (mid + 1) high
    finding_up m e = record {
      rising = omega arith;
      within = f.within;
      below = λ i l.
          by_cases (ℕ_discrete i mid)
          (λ q. rw q e)
          (λ q. order_trans (key_at text hs ss i) (key_at text hs ss mid) key (index.ordered i mid (omega arith) (omega (arith, f.within))) e);
      above = f.above;
    }

    pub finding_down : low ≤ mid → mid < high → (order (key_at text hs ss mid) key ≡ Less → ⊥) → Finding text hs ss n key low mid
    finding_down l m ne = record {
      rising = l;
      within = omega (arith, f.within);
      below = f.below;
      above = λ i k b e.
          by_cases (ℕ_discrete mid i)
          (λ q. ne (rw q e))
          (λ q. ne (order_trans (key_at text hs ss mid) (key_at text hs ss i) key (index.ordered mid i (omega arith) b) e));
    }

  pub finding_end : {low high : ℕ} → Finding text hs ss n key low high → high ≤ low → Found text hs ss n key low
  finding_end f l = record {
    within = omega (arith, f.within, f.rising);
    below = f.below;
    above = λ i k b e. f.above i (omega arith) b e;
  }

equal_by_index : (r : Ordering) → ordering_index r ≡ 1 → r ≡ Equal
equal_by_index Less e = absurd (omega arith)
equal_by_index Equal e = refl
equal_by_index Greater e = absurd (omega arith)

module _ {text hs ss : List ℕ} {n : ℕ} (index : Index text hs ss n) (name : List ℕ) (h : ℕ) (e : h ≡ hash_of name) where
  key_equal : (i : ℕ) → i < n → name_at text ss i ≡ name → key_at text hs ss i ≡ h ∷ name
  unfolding key_at
  key_equal i l q = rw (index.hashed i l, q, e)

  pub name_equal : (i : ℕ) → key_at text hs ss i ≡ h ∷ name → name_at text ss i ≡ name
  unfolding key_at
  name_equal i q = cc

  module _ {p : ℕ} (f : Found text hs ss n (h ∷ name) p) where
    -- an entry with this name stands where it was found
    found_here : (i : ℕ) → i < n → name_at text ss i ≡ name → i ≡ p
    found_here i l q =
        let k = key_equal i l q in
        by_order i p
        (λ less. cc (order_refl (h ∷ name), (rw k at (f.below i less))))
        (λ same. same)
        (λ more. absurd (f.above p (omega arith) (omega arith) (rw k at (index.ordered p i more l))))

    pub search_none : p ≡ n → Searched text hs ss n name h p false
    search_none q = record {
      hash = e;
      found = f;
      told = record { yes = λ t. absurd (false≢true t); no = λ t i l same. let z = found_here i l same in omega arith };
    }

    pub search_told : (r : Ordering) → r ≡ order (key_at text hs ss p) (h ∷ name) → p < n → Searched text hs ss n name h p (eqb (ordering_index r) 1)
    search_told r o l = record {
      hash = e;
      found = f;
      told = record {
        yes = λ t. (p, l, name_equal p (order_equal (key_at text hs ss p) (h ∷ name) (sym o ∙ equal_by_index r (eqb-true _ _ t))));
        no = λ t i b q.
            let at_p : name_at text ss p ≡ name = rw (found_here i b q) at q in
            let same : r ≡ Equal = o ∙ (rw (key_equal p l at_p) (order_refl (h ∷ name))) in
            eqb-false _ _ t (ap ordering_index same);
      };
    }

-- a test that is passed exactly where another is
alike : (t u : Bool) → (t ≡ true → u ≡ true) → (u ≡ true → t ≡ true) → t ≡ u
alike true u f g = sym (f refl)
alike false u f g = sym (fails u (λ e. false≢true (g e)))

pub told_among : {text ss : List ℕ} {n : ℕ} {name : List ℕ} {t : Bool} → Told text ss n name t →
    (names : List (List ℕ)) → Holds text ss n names → t ≡ among name names
told_among {text} {ss} {n} {name} {t} d names held =
    alike t (among name names)
    (λ e. let w = d.yes e in rw w.2 at (held.each w.0 w.1))
    (λ e. let w = held.only name e in by_test t (λ y. y) (λ no. absurd (d.no no w.0 w.1 w.2)))
