-- The place and links of new tags, as the code reads and writes them. Assumes nothing.
use mathlib.Core.Path.{◌≡◌}
use mathlib.Core.Bool.{Bool, true, false}
use mathlib.Core.List.{List, [], map}
use Prim.Native.Nat.{ℕ, ◌+◌, ◌-◌, ◌≤◌, ◌<◌}
use native.Mathlib.Omega.{arith}
use lib.Dec.{eqb}
use lib.ListN.{length, set}
use Rattle.store_types.specs.Limits.{word_limit, no_tag}
use Rattle.store_types.specs.Layout.{at_count, at_first, at_next, at_prior, with_field}
use Rattle.words.specs.Places.{PlaceThere, behind, up_word, depth_word}
use Rattle.words.proofs.PlaceLaws.{place_in}
use Rattle.calls.specs.Kind.{kind_of}
use Rattle.calls.specs.Nesting.{new_facts}
use Rattle.edit_model.specs.Insert.{with_records, linked_place, linked_next, facts_at, added_row}
use Rattle.load_record.specs.declared.Row as rows
use Rattle.load_tags.specs.Tags.{RowFits}
use Rattle.load_tags.proofs.Filling.{count_row}
use Rattle.insert_link.specs.Needs.{NewRowFits}

-- WHERE A ROW OF NEW TAGS FITS, its place and the tag behind it have records or are none
module _ {ws cs : List ℕ} {n y : ℕ} (h : NewRowFits ws cs n y) where
  pub place_of_new : PlaceThere ws y
  place_of_new = place_in h.records (λ other. omega (arith, h.place other))

  -- the number of begins open there is a word
  pub depth_of_new : depth_word ws y < word_limit
  depth_of_new = omega (arith, h.deep, h.records.few)

  pub next_of_new : {x : ℕ} → x ≡ behind ws y → PlaceThere ws x
  next_of_new e = rw e (place_in h.records (λ other. omega (arith, h.next other)))

  -- the row's records are there, with the up that the code has read
  pub row_of_new : {w : rows.Row} {u d : ℕ} → w.first ≡ n → w.end ≡ n + length cs → u ≡ up_word ws y → d ≤ n → RowFits ws cs w u d
  row_of_new first end up deep =
      record {
        records = rw end h.records;
        count = omega arith;
        kinds = h.kinds;
        nesting = h.nesting;
        up = rw (first, up) h.up;
        deep = rw first deep;
      }

-- all of it, in the order of the code
pub row_added : (ws cs : List ℕ) (n y u d x end : ℕ) → end ≡ n + length cs → x ≡ behind ws y → u ≡ up_word ws y → d ≡ depth_word ws y → (vs us ts zs : List ℕ) →
    vs ≡ with_records ws n y x (new_facts u [] d n (map kind_of cs)) → us ≡ linked_place vs y n → ts ≡ linked_next us x (end - 1) → zs ≡ set ts at_count end →
    zs ≡ added_row ws n y (facts_at ws n y (map kind_of cs))
unfolding added_row
row_added ws cs n y u d x end all next up deep vs us ts zs written placed linked counted =
    rw (← up, ← deep, count_row u d n cs, ← next, ← all, ← written, ← placed, ← linked) counted

-- THE LINKS to a new tag n, from its place and from the tag behind: t says whether there is none
module _ (ws : List ℕ) (y : ℕ) {t : Bool} (e : t ≡ eqb y no_tag) (n : ℕ) where
  pub linked_front : {vs : List ℕ} → t ≡ true → vs ≡ set ws at_first n → vs ≡ linked_place ws y n
  unfolding linked_place
  linked_front p q = rw (← e, p) q

  pub linked_tag : {vs : List ℕ} → t ≡ false → vs ≡ with_field ws y at_next n → vs ≡ linked_place ws y n
  unfolding linked_place
  linked_tag p q = rw (← e, p) q

  pub linked_none : t ≡ true → ws ≡ linked_next ws y n
  unfolding linked_next
  linked_none p = rw (← e, p)

  pub linked_back : {vs : List ℕ} → t ≡ false → vs ≡ with_field ws y at_prior n → vs ≡ linked_next ws y n
  unfolding linked_next
  linked_back p q = rw (← e, p) q
