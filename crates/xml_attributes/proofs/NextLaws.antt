-- Attributes that stand next in a tag, one after the other: their places are in order and within the text, and what a chain of them
-- says of the step at a place. Assumes nothing.
use mathlib.Core.Path.{◌≡◌, refl, ap, sym, ◌∙◌}
use mathlib.Core.List.{List, [], ◌∷◌, ◌++◌}
use mathlib.Core.Option.{Option, none, some}
use Prim.Native.Nat.{ℕ, ◌+◌, ◌-◌, ◌≤◌, ◌<◌}
use native.Mathlib.Omega.{arith}
use borrow.Author.Tests.{eqb-false}
use Rattle.std.specs.Prelude.{Some}
use lib.Dec.{eqb}
use lib.ListN.{length, take, drop, length-take, length-drop}
use Rattle.lists.specs.Fronts.{starts_with}
use Rattle.lists.proofs.Tests.{by_test}
use Rattle.xml.specs.Bytes.{is_space, tag_closes, lone_closes}
use Rattle.xml.specs.Scan.{Sized, run, name_length, attribute_at}
use Rattle.xml_scan.specs.Post.{name_from}
use Rattle.xml_attributes.specs.Next.{next_attribute, next_in_tag}
use Rattle.xml_attributes.specs.Chain.{Chain, here, on}
use Rattle.xml_attributes.specs.declared.NextInTag.TheVariants as next
use Rattle.xml_attributes.proofs.AttributeSteps.{attribute_fits}
use Rattle.xml_attributes.proofs.NextSteps.{next_by}

-- AN ATTRIBUTE that stands next: spaces from place i to where it begins, and its size
record Next (text : List ℕ) (i begins name end : ℕ) : Type 0 where
  size : Sized
  begun : begins ≡ i + run is_space (drop i text)
  apart : i < begins
  stands : attribute_at (drop begins text) ≡ some size
  named : name ≡ begins + size.name
  ended : end ≡ begins + size.whole

sized_at : (a : ℕ) (o : Option Sized) (b n e : ℕ) → next_attribute a o ≡ Some (next.Attribute b n e) →
    (z : Sized) × (o ≡ some z) × (b ≡ a) × (n ≡ a + z.name) × (e ≡ a + z.whole)
unfolding next_attribute
sized_at a none b n e q = cc
sized_at a (some z) b n e q = (z, refl, cc, cc, cc)

next_made : (text : List ℕ) (i a b n e : ℕ) (z : Sized) → a ≡ i + run is_space (drop i text) → i < a → attribute_at (drop a text) ≡ some z → b ≡ a → n ≡ a + z.name → e ≡ a + z.whole →
    Next text i b n e
next_made text i a b n e z g l s p r t =
    record {
      size = z;
      begun = omega arith;
      apart = omega arith;
      stands = ap (λ k. attribute_at (drop k text)) p ∙ s;
      named = omega arith;
      ended = omega arith;
    }

next_found : (text : List ℕ) (i b n e : ℕ) → next_in_tag i (drop i text) ≡ Some (next.Attribute b n e) → Next text i b n e
next_found text i b n e q =
    let a = i + run is_space (drop i text) in
    let by = sym (next_by text i a refl) ∙ q in
    by_test (starts_with tag_closes (drop a text))
    (λ t. cc (rw t at by))
    (λ t.
    by_test (starts_with lone_closes (drop a text))
    (λ u. cc (rw (t, u) at by))
    (λ u.
    by_test (eqb (run is_space (drop i text)) 0)
    (λ v. cc (rw (t, u, v) at by))
    (λ v.
    let s = sized_at a (attribute_at (drop a text)) b n e (rw (t, u, v) at by) in
    let g = eqb-false (run is_space (drop i text)) 0 v in
    next_made text i a b n e s.0 refl (omega arith) s.1 s.2 s.3 s.4)))

-- its places in order
pub record Order (size i begins name end : ℕ) : Type 0 where
  pub gap : i < begins
  pub named : begins < name
  pub longer : name ≤ end
  pub within : end ≤ size

pub next_order : (text : List ℕ) (i b n e : ℕ) → i ≤ length text → next_in_tag i (drop i text) ≡ Some (next.Attribute b n e) → Order (length text) i b n e
next_order text i b n e l q =
    let h = next_found text i b n e q in
    let f = attribute_fits (drop b text) h.size h.stands in
    let d = length-drop b text in
    record {
      gap = h.apart;
      named = omega (arith, h.named, f.named);
      longer = omega (arith, h.named, h.ended, f.longer);
      within = omega (arith, h.ended, f.named, f.longer, f.within);
    }

-- it ends further on, wherever the text ends
pub next_later : (text : List ℕ) (i b n e : ℕ) → next_in_tag i (drop i text) ≡ Some (next.Attribute b n e) → i < e
next_later text i b n e q = let h = next_found text i b n e q in omega (arith, h.apart, h.ended)

-- its name, by where it ends
pub next_name : (text : List ℕ) (i b n e : ℕ) → next_in_tag i (drop i text) ≡ Some (next.Attribute b n e) → name_from text b ≡ take (n - b) (drop b text)
unfolding name_from
next_name text i b n e q =
    let h = next_found text i b n e q in
    let f = attribute_fits (drop b text) h.size h.stands in
    let z : name_length (drop b text) ≡ n - b = omega (arith, h.named, f.scanned) in
    rw z

-- its name has a byte
pub next_long : (text : List ℕ) (i b n e : ℕ) → next_in_tag i (drop i text) ≡ Some (next.Attribute b n e) → 1 ≤ length (take (n - b) (drop b text))
next_long text i b n e q =
    let h = next_found text i b n e q in
    let f = attribute_fits (drop b text) h.size h.stands in
    let d = length-drop b text in
    let l : n - b ≤ length (drop b text) = omega (arith, h.named, f.longer, f.within) in
    rw (length-take (n - b) (drop b text)) (omega (arith, h.named, f.named, l))

-- A CHAIN lies in order and within the text
pub chain_order : {text : List ℕ} {k i : ℕ} {ns : List (List ℕ)} → Chain text k i ns → k ≤ length text → i ≤ k
chain_order here l = omega arith
chain_order {text} {k} {i} (on {begins = b} {name = n} {end = e} q h) l =
    omega (arith, chain_order h l, next_later text i b n e q)

-- it has no more attributes than bytes
pub chain_length : {text : List ℕ} {k i : ℕ} {ns : List (List ℕ)} → Chain text k i ns → i + length ns ≤ k
chain_length here = omega arith
chain_length {text} {k} {i} (on {begins = b} {name = n} {end = e} q h) =
    omega (arith, chain_length h, next_later text i b n e q)

-- the attribute that it begins with
pub chain_next : {text : List ℕ} {k i : ℕ} {row : List (List ℕ)} → Chain text k i row → i < k →
    (b : ℕ) × (n : ℕ) × (e : ℕ) × (rest : List (List ℕ)) × (next_in_tag i (drop i text) ≡ Some (next.Attribute b n e)) × (row ≡ name_from text b ∷ rest) × Chain text k e rest
chain_next here l = absurd (omega arith)
chain_next (on {begins = b} {name = n} {end = e} {ns = rest} q h) l = (b, n, e, rest, q, refl, h)

-- the same of an attribute that is found there
pub chain_after : {text : List ℕ} {k i : ℕ} {row : List (List ℕ)} (b n e : ℕ) → next_in_tag i (drop i text) ≡ Some (next.Attribute b n e) → Chain text k i row → i < k →
    (rest : List (List ℕ)) × (row ≡ name_from text b ∷ rest) × Chain text k e rest
chain_after {text} {k} b n e q here l = absurd (omega arith)
chain_after {text} {k} b n e q (on {begins = b'} {name = n'} {end = e'} {ns = rest} q' h) l =
    let f : b' ≡ b = cc in
    let g : e' ≡ e = cc in
    (rest, ap (λ a. name_from text a ∷ rest) f, rw g at h)

-- where it ends there is none
pub chain_end : {text : List ℕ} {k : ℕ} {row : List (List ℕ)} → Chain text k k row → k ≤ length text → row ≡ []
chain_end {text} {k} h l = at_end h refl
  where
    at_end : {i : ℕ} {row : List (List ℕ)} → Chain text k i row → i ≡ k → row ≡ []
    at_end here e = refl
    at_end {i} (on {begins = b} {name = n} {end = a} q h) e =
        absurd (omega (arith, next_later text i b n a q, chain_order h l))

-- one more at its end
pub chain_last : {text : List ℕ} {k i : ℕ} {ns : List (List ℕ)} (b n e : ℕ) → Chain text k i ns → next_in_tag k (drop k text) ≡ Some (next.Attribute b n e) →
    Chain text e i (ns ++ (name_from text b ∷ []))
chain_last b n e here q = on q here
chain_last b n e (on r h) q = on r (chain_last b n e h q)
