-- Chains of attributes: two from and up to the same places are one, and before a chain's end an attribute stands next. Assumes nothing.
use mathlib.Core.Path.{◌≡◌, ap, sym, ◌∙◌}
use mathlib.Core.List.{List, [], ◌∷◌}
use Prim.Native.Nat.{ℕ, ◌≤◌, ◌<◌}
use native.Mathlib.Omega.{arith}
use Rattle.std.specs.Prelude.{Option, Some}
use lib.ListN.{length, drop}
use Rattle.xml_scan.specs.Post.{name_from}
use Rattle.xml_attributes.specs.Next.{next_in_tag}
use Rattle.xml_attributes.specs.Chain.{Chain, here, on}
use Rattle.xml_attributes.specs.declared.NextInTag.{NextInTag}
use Rattle.xml_attributes.specs.declared.NextInTag.TheVariants as next
use Rattle.xml_attributes.proofs.NextLaws.{chain_order, chain_next, chain_after, chain_end, next_later}

-- past its end nothing is left
pub chain_over : {text : List ℕ} {k i : ℕ} {row : List (List ℕ)} → Chain text k i row → k ≤ length text → k ≤ i → row ≡ []
chain_over {text} {k} {i} {row} h w l =
    let e : i ≡ k = omega (arith, chain_order h w) in
    chain_end (ap_place e h) w
  where
    ap_place : i ≡ k → Chain text k i row → Chain text k k row
    ap_place e c = rw e at c

pub chain_same : {text : List ℕ} {k i : ℕ} {ns ms : List (List ℕ)} → Chain text k i ns → Chain text k i ms → k ≤ length text → ns ≡ ms
chain_same here g w = sym (chain_end g w)
chain_same {text} {k} {i} (on {begins = b} {name = n} {end = e} q h) g w =
    let r = chain_after b n e q g (omega (arith, next_later text i b n e q, chain_order h w)) in
    ap (λ m. name_from text b ∷ m) (chain_same h r.2 w) ∙ sym r.1

-- no attribute stands next
abbrev pub Stopped : Option NextInTag → Type 0
Stopped q = (b n e : ℕ) → q ≡ Some (next.Attribute b n e) → ⊥

pub chain_goes_on : {text : List ℕ} {k i : ℕ} {row : List (List ℕ)} → Chain text k i row → i < k → Stopped (next_in_tag i (drop i text)) → ⊥
chain_goes_on h l s = let r = chain_next h l in s r.0 r.1 r.2 r.4
