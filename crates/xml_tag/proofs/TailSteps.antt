-- What stands after a tag's name, by what stands next in it and along a chain of attributes: what is left says what all of it does.
-- Assumes nothing.
use mathlib.Core.Path.{◌≡◌, refl, ap, sym, ◌∙◌}
use mathlib.Core.Bool.{Bool, true, false, ◌&&◌, not, cond}
use mathlib.Core.List.{List, [], ◌∷◌}
use mathlib.Core.Logic.{by_cases}
use mathlib.Core.Option.{Option, none, some}
use Prim.Native.Nat.{ℕ, zero, suc, pred, ◌+◌, ◌≤◌, ◌<◌}
use native.Mathlib.Omega.{arith}
use native.Mathlib.Decide.{dec_le}
use borrow.Author.Tests.{eqb-false}
use Rattle.std.specs.Prelude as std
use Rattle.std.specs.Prelude.{Some, None}
use lib.Dec.{eqb}
use lib.ListN.{length, drop, length-drop, drop_of_length-le}
use lib.Seq.{drop-drop}
use Rattle.lists.specs.Fronts.{starts_with}
use Rattle.lists.proofs.Tests.{by_test, either_way}
use Rattle.xml.specs.Bytes.{is_space, tag_closes, lone_closes}
use Rattle.xml.specs.Grammar.{among}
use Rattle.xml.specs.Scan.{Sized, Ending, run, attribute_at, ends_later, tail_on, tail_at}
use Rattle.xml_laws.proofs.Names.{all_new, all_new_one}
use Rattle.xml_scan.specs.Post.{name_from}
use Rattle.name_index.specs.Order.{differ}
use Rattle.xml_attributes.specs.Next.{next_attribute, next_in_tag}
use Rattle.xml_attributes.specs.Chain.{Chain, here, on}
use Rattle.xml_attributes.specs.declared.NextInTag.{NextInTag}
use Rattle.xml_attributes.specs.declared.NextInTag.TheVariants as next
use Rattle.xml_attributes.proofs.AttributeSteps.{from_place, attribute_fits}
use Rattle.xml_attributes.proofs.NextSteps.{next_by}
use Rattle.xml_tag.specs.Post.{end_found}
use Rattle.xml_tag.specs.declared.TagEnd.{TagEnd}

-- bytes that are passed
end_later : (a : ℕ) (o : Option Ending) → end_found a (ends_later o) ≡ end_found (a + 1) o
unfolding end_found ends_later
end_later a none = refl
end_later a (some e) = let q : a + suc e.used ≡ a + 1 + e.used = omega arith in rw q

tail_passed : (ns : List (List ℕ)) (m a : ℕ) (cs : List ℕ) → end_found a (tail_at ns m cs) ≡ end_found (a + m) (tail_at ns 0 (drop m cs))
unfolding tail_at end_found
tail_passed ns zero a cs = let e : a + 0 ≡ a = omega arith in rw e
tail_passed ns (suc m) a [] = refl
tail_passed ns (suc m) a (c ∷ cs) =
    let e : a + suc m ≡ a + 1 + m = omega arith in end_later a (tail_at ns m cs) ∙ rw e (tail_passed ns m (a + 1) cs)

-- the spaces that begin a text, and the text after them
abbrev gap_of : List ℕ → ℕ
gap_of cs = run is_space cs

abbrev after_gap : List ℕ → List ℕ
after_gap cs = drop (gap_of cs) cs

-- one turn
tail_turn : (ns : List (List ℕ)) (cs : List ℕ) → 1 ≤ length cs →
    tail_at ns 0 cs
    ≡ cond (starts_with tag_closes (after_gap cs)) (some (record { used = suc (gap_of cs); lone = false }))
    (cond (starts_with lone_closes (after_gap cs)) (some (record { used = suc (suc (gap_of cs)); lone = true }))
    (cond (eqb (gap_of cs) 0) none (tail_on ns (gap_of cs) (after_gap cs) (attribute_at (after_gap cs)) (λ n m. tail_at (n ∷ ns) m (drop 1 cs)))))
unfolding tail_at
tail_turn ns [] l = absurd (omega arith)
tail_turn ns (c ∷ cs) l = refl

-- nothing is left
pub tail_over : (ns : List (List ℕ)) (text : List ℕ) (i : ℕ) → length text ≤ i → end_found i (tail_at ns 0 (drop i text)) ≡ None
unfolding tail_at end_found
tail_over ns text i l = rw (drop_of_length-le text l)

-- BY WHAT STANDS NEXT: the tag's end, and what is left after an attribute whose name is new
abbrev pub ends_at : (end : ℕ) → (lone : Bool) → std.Option TagEnd
ends_at e l = Some (record { end = e; lone = l })

abbrev by_next : (names : List (List ℕ)) → (text : List ℕ) → std.Option NextInTag → std.Option TagEnd
by_next ns text (Some (next.Closer e l)) = ends_at e l
by_next ns text (Some (next.Attribute b n e)) =
    cond (among (name_from text b) ns) None (end_found e (tail_at (name_from text b ∷ ns) 0 (drop e text)))
by_next ns text None = None

module _ (ns : List (List ℕ)) (text : List ℕ) (i : ℕ) where
  -- an attribute
  one_more : (b : ℕ) (z : Sized) → i < b → b ≡ i + gap_of (drop i text) → attribute_at (drop b text) ≡ some z →
      end_found i (tail_on ns (gap_of (drop i text)) (drop b text) (some z) (λ n m. tail_at (n ∷ ns) m (drop 1 (drop i text))))
      ≡ by_next ns text (Some (next.Attribute b (b + z.name) (b + z.whole)))
  unfolding tail_on end_found name_from
  one_more b z l g s =
      let f = attribute_fits (drop b text) z s in
      let p = pred (gap_of (drop i text) + z.whole) in
      let passed : i + 1 + p ≡ b + z.whole = omega arith in
      let n = name_from text b in
      rw f.scanned
      (by_test (among n ns)
      (λ t. rw t)
      (λ t. rw t
      (end_later i _
      ∙ (tail_passed (n ∷ ns) p (i + 1) (drop 1 (drop i text)) ∙ rw (drop-drop 1 i text, drop-drop p (i + 1) text, passed)))))

  attribute_next : (b : ℕ) (o : Option Sized) → i < b → b ≡ i + gap_of (drop i text) → attribute_at (drop b text) ≡ o →
      end_found i (tail_on ns (gap_of (drop i text)) (drop b text) o (λ n m. tail_at (n ∷ ns) m (drop 1 (drop i text))))
      ≡ by_next ns text (next_attribute b o)
  unfolding tail_on end_found next_attribute
  attribute_next b none l g s = refl
  attribute_next b (some z) l g s = one_more b z l g s

  inside : (b : ℕ) → b ≡ i + gap_of (drop i text) → i < length text →
      end_found i (tail_at ns 0 (drop i text)) ≡ by_next ns text (next_in_tag i (drop i text))
  unfolding end_found
  inside b g l =
      let d = from_place text i (gap_of (drop i text)) b g in
      let k : 1 ≤ length (drop i text) = omega (arith, length-drop i text) in
      rw (tail_turn ns (drop i text) k, next_by text i b g, ← d)
      (by_test (starts_with tag_closes (drop b text))
      (λ t. rw t (let q : i + suc (gap_of (drop i text)) ≡ b + 1 = omega arith in ap (λ a. ends_at a false) q))
      (λ t.
      by_test (starts_with lone_closes (drop b text))
      (λ u. rw (t, u) (let q : i + suc (suc (gap_of (drop i text))) ≡ b + 2 = omega arith in ap (λ a. ends_at a true) q))
      (λ u.
      by_test (eqb (gap_of (drop i text)) 0)
      (λ v. rw (t, u, v))
      (λ v.
      let z = eqb-false (gap_of (drop i text)) 0 v in
      rw (t, u, v) (attribute_next b (attribute_at (drop b text)) (omega arith) g refl)))))

  pub tail_next : end_found i (tail_at ns 0 (drop i text)) ≡ by_next ns text (next_in_tag i (drop i text))
  unfolding next_in_tag run starts_with
  tail_next =
      by_cases
      (dec_le (length text) i)
      (λ l. tail_over ns text i l ∙ rw (drop_of_length-le text l))
      (λ l. inside (i + gap_of (drop i text)) refl (omega arith))

-- ALONG A CHAIN of attributes up to a place, with what is left there for any names before
turned : (x y a d : Bool) (w : std.Option TagEnd) → cond x None (cond ((not y && a) && d) w None) ≡ cond ((not x && a) && (not y && d)) w None
turned true y a d w = refl
turned false true true d w = refl
turned false true false d w = refl
turned false false a d w = refl

along : {text : List ℕ} {last from : ℕ} {row : List (List ℕ)} (w : std.Option TagEnd) → ((ns : List (List ℕ)) → end_found last (tail_at ns 0 (drop last text)) ≡ w) →
    Chain text last from row → (ns : List (List ℕ)) → end_found from (tail_at ns 0 (drop from text)) ≡ cond (all_new row ns && differ row) w None
unfolding all_new differ
along w h here ns = h ns
along {text} {last} {from} w h (on {begins = b} {end = e} {ns = rest} q c) ns =
    let n = name_from text b in
    tail_next ns text from
    ∙ rw (q, along w h c (n ∷ ns), all_new_one rest ns n) (turned (among n ns) (among n rest) (all_new rest ns) (differ rest) w)

module _ {text : List ℕ} {last from : ℕ} {row : List (List ℕ)} (c : Chain text last from row) (ns : List (List ℕ)) where
  -- it ends there: the names must be new and differ
  pub chain_closes : (e : ℕ) (l : Bool) → next_in_tag last (drop last text) ≡ Some (next.Closer e l) →
      end_found from (tail_at ns 0 (drop from text)) ≡ cond (all_new row ns && differ row) (ends_at e l) None
  chain_closes e l q = along (ends_at e l) (λ ms. tail_next ms text last ∙ rw q) c ns

  -- it is broken there, or over
  broken_anyway : ((ms : List (List ℕ)) → end_found last (tail_at ms 0 (drop last text)) ≡ None) → None ≡ end_found from (tail_at ns 0 (drop from text))
  broken_anyway h = sym (along None h c ns ∙ either_way (all_new row ns && differ row) None)

  pub chain_broken : next_in_tag last (drop last text) ≡ None → None ≡ end_found from (tail_at ns 0 (drop from text))
  chain_broken q = broken_anyway (λ ms. tail_next ms text last ∙ rw q)

  pub chain_over : length text ≤ last → None ≡ end_found from (tail_at ns 0 (drop from text))
  chain_over l = broken_anyway (λ ms. tail_over ms text last l)
