-- A batch that is filled: what was noted, and what is left of a row. Assumes nothing.
use mathlib.Core.Path.{◌≡◌, refl, ap, sym, ◌∙◌}
use mathlib.Core.List.{List, [], ◌∷◌, ◌++◌, append_assoc}
use Prim.Native.Nat.{ℕ, ◌+◌, ◌≤◌, ◌<◌}
use native.Mathlib.Omega.{arith}
use Rattle.std.specs.Prelude.{Some}
use lib.ListN.{length, drop, set, length-append, length-set}
use Rattle.xml_scan.specs.Post.{name_from}
use Rattle.name_index.specs.Index.{places, Noted}
use Rattle.name_index.proofs.Noting.{noted_none, noted_more}
use Rattle.xml_attributes.specs.Next.{next_in_tag}
use Rattle.xml_attributes.specs.Chain.{Chain}
use Rattle.xml_attributes.specs.declared.NextInTag.TheVariants as next
use Rattle.xml_attributes.proofs.NextLaws.{next_order, chain_after}
use Rattle.xml_repeats.proofs.Chains.{Stopped, chain_goes_on}
use Rattle.xml_repeats.specs.Batches.{Chained, Filled}
use Rattle.xml_repeats.specs.declared.Batch.{Batch}

abbrev batch_of : (count end : ℕ) → Batch
batch_of n e = record { count = n; end = e }

-- one more is noted, by its number
noted_next : {text ss : List ℕ} {row : List (List ℕ)} (count b : ℕ) → count ≡ length row → Noted text ss row → length ss ≡ places → count < places → b ≤ length text →
    Noted text (set ss count b) (row ++ (name_from text b ∷ []))
noted_next count b e n s f i = rw e (noted_more n s (omega arith) i)

-- the loop, whatever the row is
pub record Filling (text : List ℕ) (from to : ℕ) (ss : List ℕ) (count at : ℕ) : Type 0 where
  pub room : count ≤ places
  pub order : from ≤ at
  pub further : 0 < count → from < at
  pub parts : (row : List (List ℕ)) → Chain text to from row → Filled text to row ss (batch_of count at)

pub filling_start : (text : List ℕ) (from to : ℕ) (ss : List ℕ) → Filling text from to ss 0 from
filling_start text from to ss =
    record {
      room = omega arith;
      order = omega arith;
      further = λ z. absurd (omega arith);
      parts = λ row chain. record { early = []; late = row; split = refl; counted = refl; noted = noted_none text ss; rest = chain };
    }

module _ {text : List ℕ} {from to : ℕ} {ss : List ℕ} {count at : ℕ} (h : Filling text from to ss count at) where
  -- one attribute more
  pub filling_turn : {b n e : ℕ} → next_in_tag at (drop at text) ≡ Some (next.Attribute b n e) → at < to → to ≤ length text → count < places → length (set ss count b) ≡ places →
      Filling text from to (set ss count b) (count + 1) e
  filling_turn {b} {n} {e} is l w r size =
      let o = next_order text at b n e (omega arith) is in
      let f = h.order in
      record {
        room = omega arith;
        order = omega arith;
        further = λ z. omega arith;
        parts = λ row chain.
            let p = h.parts row chain in
            let (rest, cut, later) = chain_after b n e is p.rest l in
            record {
              early = p.early ++ (name_from text b ∷ []);
              late = rest;
              split = p.split ∙ ap (λ m. p.early ++ m) cut ∙ sym (append_assoc p.early (name_from text b ∷ []) rest);
              counted = rw (p.counted, length-append p.early (name_from text b ∷ []));
              noted = noted_next count b p.counted p.noted (sym (length-set ss count b) ∙ size) r (omega arith);
              rest = later;
            };
      }

  -- a row is noted up to some place: it goes on from there
  pub filling_full : count ≡ places → Chained text from to → from < to → from < at
  filling_full e c l = h.further (omega arith)

  pub filling_over : to ≤ at → Chained text from to → from < to → from < at
  filling_over e c l = omega arith

  pub filling_broken : at < to → Stopped (next_in_tag at (drop at text)) → Chained text from to → from < to → from < at
  filling_broken l u c m = absurd (chain_goes_on (h.parts c.row c.chain).rest l u)
