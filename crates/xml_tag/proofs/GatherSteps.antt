-- The pass over a tag's attributes: attributes that were met, the filter that their names mark, and what they tell at the end of the tag.
-- Assumes nothing.
use mathlib.Core.Path.{◌≡◌, refl, ap, sym, ◌∙◌}
use mathlib.Core.Bool.{Bool, true, false, ◌||◌}
use mathlib.Core.List.{List, [], ◌∷◌, ◌++◌}
use mathlib.Core.Option.{none}
use Prim.Native.Nat.{ℕ, ◌+◌, ◌-◌, ◌≤◌}
use native.Mathlib.Omega.{arith}
use Rattle.std.specs.Prelude.{Some, None}
use lib.ListN.{length, get_or, take, drop, set, length-set, length-append}
use Rattle.lists.proofs.Tests.{by_test, or_left_false, or_right_false}
use Rattle.xml.specs.Scan.{tail_at}
use Rattle.xml_laws.proofs.Names.{all_new_none}
use Rattle.xml_scan.specs.Post.{name_from}
use Rattle.name_index.specs.Index.{places}
use Rattle.name_index.specs.Order.{differ}
use Rattle.name_index.proofs.Names.{differ_last}
use Rattle.name_index.proofs.Noting.{noted_none, noted_more}
use Rattle.xml_attributes.specs.Chain.{here}
use Rattle.xml_attributes.specs.Next.{next_in_tag}
use Rattle.xml_attributes.specs.declared.NextInTag.TheVariants as next
use Rattle.xml_attributes.proofs.NextLaws.{next_order, next_name, chain_length, chain_last}
use Rattle.xml_repeats.specs.Batches.{Chained, Met}
use Rattle.xml_tag.specs.Post.{end_found}
use Rattle.xml_tag.specs.Filter.{filter_places, filter_place}
use Rattle.xml_tag.specs.declared.Gathered.{Gathered}
use Rattle.xml_tag.specs.Gather.{Closed}
use Rattle.xml_tag.proofs.FilterMarks.{Marked, marked_none, unmarked_new, marked_more}
use Rattle.xml_tag.proofs.TailSteps.{ends_at, chain_closes, chain_broken, chain_over}
use Rattle.xml_tag.proofs.WholeTags.{end_none}

-- THE LOOP at a place after attributes
pub record Gathering (text : List ℕ) (from : ℕ) (starts : List ℕ) (filter : List Bool) (shared : Bool) (count at : ℕ) : Type 0 where
  pub met : Met text from at count starts
  pub wide : length filter ≡ filter_places
  pub marked : Marked filter met.row
  pub apart : shared ≡ false → differ met.row ≡ true

pub gathering_start : (text : List ℕ) (from : ℕ) (starts : List ℕ) (filter : List Bool) → from ≤ length text → length filter ≡ filter_places →
    Gathering text from starts filter false 0 from
unfolding differ
gathering_start text from starts filter l f =
    record {
      met = record { row = []; chain = here; within = l; counted = refl; noted = λ _. noted_none text starts };
      wide = f;
      marked = marked_none filter;
      apart = λ _. refl;
    }

module _ {text : List ℕ} {from : ℕ} {starts : List ℕ} {filter : List Bool} {shared : Bool} {count at : ℕ} (h : Gathering text from starts filter shared count at) where
  -- there are no more attributes than bytes
  pub gathering_count : count ≤ at
  gathering_count = omega (arith, h.met.counted, chain_length h.met.chain)

  -- an attribute is passed
  module _ (b n e : ℕ) (q : next_in_tag at (drop at text) ≡ Some (next.Attribute b n e)) where
    abbrev row : List (List ℕ)
    row = h.met.row ++ (name_from text b ∷ [])

    met_more : length (set starts count b) ≡ places → Met text from e (count + 1) (set starts count b)
    met_more size =
        let o = next_order text at b n e h.met.within q in
        record {
          row = row;
          chain = chain_last b n e h.met.chain q;
          within = o.within;
          counted = omega (arith, h.met.counted, length-append h.met.row (name_from text b ∷ []));
          noted = λ l. rw h.met.counted (noted_more (h.met.noted (omega arith)) (sym (length-set starts count b) ∙ size) (omega (arith, h.met.counted)) (omega (arith, o.named, o.longer, o.within)));
        }

    -- where its place was not marked and no two shared one, it is new
    apart_more : (shared || get_or filter (filter_place (name_from text b)) false) ≡ false → differ row ≡ true
    apart_more z =
        differ_last h.met.row (name_from text b)
        ∙ rw (h.apart (or_left_false shared _ z), unmarked_new filter h.met.row (name_from text b) h.marked (or_right_false shared _ z))

    pub gathering_turn : (p : ℕ) → p ≡ filter_place (take (n - b) (drop b text)) → length (set starts count b) ≡ places →
        Gathering text from (set starts count b) (set filter p true) (shared || get_or filter p false) (count + 1) e
    unfolding met_more
    gathering_turn p f size =
        let g : p ≡ filter_place (name_from text b) = f ∙ ap filter_place (sym (next_name text at b n e q)) in
        record {
          met = met_more size;
          wide = length-set filter p true ∙ h.wide;
          marked = rw g (marked_more filter h.met.row (name_from text b) h.wide h.marked);
          apart = λ z. apart_more (rw g at z);
        }

  -- the tag ends, is broken, or the text ends
  pub gathering_closes : (e : ℕ) (l : Bool) → next_in_tag at (drop at text) ≡ Some (next.Closer e l) → Closed text from starts (record { end = e; lone = l; last = at; count = count; shared = shared })
  gathering_closes e l q = record { met = h.met; closes = q; apart = h.apart }

  pub gathering_broken : next_in_tag at (drop at text) ≡ None → None ≡ end_found from (tail_at [] 0 (drop from text))
  gathering_broken q = chain_broken h.met.chain [] q

  pub gathering_over : length text ≤ at → None ≡ end_found from (tail_at [] 0 (drop from text))
  gathering_over l = chain_over h.met.chain [] l

-- A TAG WHOSE END was met: it is whole where the names differ
module _ {text : List ℕ} {from : ℕ} {ss : List ℕ} {g : Gathered} (h : Closed text from ss g) where
  pub closed_whole : differ h.met.row ≡ true → ends_at g.end g.lone ≡ end_found from (tail_at [] 0 (drop from text))
  closed_whole d = sym (chain_closes h.met.chain [] g.end g.lone h.closes ∙ rw (all_new_none h.met.row, d))

  pub closed_broken : differ h.met.row ≡ false → None ≡ end_found from (tail_at [] 0 (drop from text))
  closed_broken d = sym (chain_closes h.met.chain [] g.end g.lone h.closes ∙ rw (all_new_none h.met.row, d))

-- A TAG THAT IS KNOWN to be whole is passed by
module _ {text : List ℕ} {from at : ℕ} (h : Chained text from at) where
  pub passing_turn : (b n e : ℕ) → next_in_tag at (drop at text) ≡ Some (next.Attribute b n e) → Chained text from e
  passing_turn b n e q =
      record { row = h.row ++ (name_from text b ∷ []); chain = chain_last b n e h.chain q; within = (next_order text at b n e h.within q).within }

  pub passing_closes : (e : ℕ) (l : Bool) → next_in_tag at (drop at text) ≡ Some (next.Closer e l) → (tail_at [] 0 (drop from text) ≡ none → ⊥) →
      ends_at e l ≡ end_found from (tail_at [] 0 (drop from text))
  passing_closes e l q t =
      let all = chain_closes h.chain [] e l q in
      by_test (differ h.row)
      (λ d. sym (all ∙ rw (all_new_none h.row, d)))
      (λ d. absurd (t (end_none from (tail_at [] 0 (drop from text)) (sym (all ∙ rw (all_new_none h.row, d))))))
