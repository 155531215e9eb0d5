-- One batch after the other: what is left differs exactly where all of it does. Assumes nothing.
use mathlib.Core.Path.{◌≡◌, ap, sym, ◌∙◌}
use mathlib.Core.Bool.{Bool, true, false, ◌&&◌}
use mathlib.Core.List.{List}
use Prim.Native.Nat.{ℕ, ◌≤◌}
use lib.ListN.{length}
use Rattle.xml_laws.proofs.Names.{all_new}
use Rattle.name_index.specs.Order.{differ}
use Rattle.name_index.specs.Index.{places, names_at, Begun, Holds, Arranged}
use Rattle.name_index.proofs.Names.{differ_append}
use Rattle.xml_attributes.specs.Chain.{Chain}
use Rattle.xml_repeats.proofs.Chains.{chain_over, chain_same}
use Rattle.xml_repeats.specs.Batches.{Chained, Met, Filled}
use Rattle.xml_repeats.specs.declared.Batch.{Batch}

pub record Batching (text : List ℕ) (from to at : ℕ) : Type 0 where
  pub within : to ≤ length text
  pub late : List (List ℕ)
  pub rest : Chain text to at late
  pub left : (row : List (List ℕ)) → Chain text to from row → differ late ≡ differ row

pub batching_start : (text : List ℕ) (from to : ℕ) → Chained text from to → Batching text from to from
batching_start text from to c =
    record { within = c.within; late = c.row; rest = c.chain; left = λ row chain. ap differ (chain_same c.chain chain c.within) }

pub batching_end : {text : List ℕ} {from to at : ℕ} → Batching text from to at → to ≤ at → (row : List (List ℕ)) → Chain text to from row → true ≡ differ row
unfolding differ
batching_end h l row chain = ap differ (sym (chain_over h.rest h.within l)) ∙ h.left row chain

pub batching_chained : {text : List ℕ} {from to at : ℕ} → Batching text from to at → Chained text at to
batching_chained h = record { row = h.late; chain = h.rest; within = h.within }

-- A BATCH in order
module _ {text : List ℕ} {from to at : ℕ} (h : Batching text from to at) {ss : List ℕ} {b : Batch} (f : Filled text to h.late ss b) where
  pub batch_begun : Begun text ss b.count
  batch_begun = rw f.counted f.noted.begun

  cut : differ h.late ≡ (differ f.early && (all_new f.late f.early && differ f.late))
  cut = ap differ f.split ∙ differ_append f.early f.late

  noted_names : names_at text ss b.count ≡ f.early
  noted_names = rw f.counted f.noted.names

  module _ {hs' ss' : List ℕ} {t : Bool} (a : Arranged text ss b.count hs' ss' t) where
    same_names : t ≡ differ f.early
    same_names = rw noted_names at a.tells

    -- two of its names are one
    pub batch_twice : t ≡ false → (row : List (List ℕ)) → Chain text to from row → false ≡ differ row
    batch_twice y row chain =
        let m : differ f.early ≡ false = sym same_names ∙ y in
        sym (cut ∙ rw m) ∙ h.left row chain

    module _ (y : t ≡ true) where
      held : Holds text ss' b.count f.early
      held = rw noted_names at (a.holds y)

      module _ {u : Bool} (told : (early late : List (List ℕ)) → Holds text ss' b.count early → Chain text to b.end late → u ≡ all_new late early) where
        both : (v : Bool) → u ≡ v → differ h.late ≡ (v && differ f.late)
        both v e =
            let m : differ f.early ≡ true = sym same_names ∙ y in
            let k : all_new f.late f.early ≡ v = sym (told f.early f.late held f.rest) ∙ e in
            cut ∙ rw (m, k)

        -- a later name is one of them
        pub batch_again : u ≡ false → (row : List (List ℕ)) → Chain text to from row → false ≡ differ row
        batch_again e row chain = sym (both false e) ∙ h.left row chain

        -- none is
        pub batch_passed : u ≡ true → Batching text from to b.end
        batch_passed e =
            record { within = h.within; late = f.late; rest = f.rest; left = λ row chain. sym (both true e) ∙ h.left row chain }

-- NOTED ALREADY
pub met_begun : {text : List ℕ} {from to count : ℕ} {ss : List ℕ} → Met text from to count ss → count ≤ places → Begun text ss count
met_begun m l = rw m.counted (m.noted l).begun

pub met_told : {text : List ℕ} {from to count : ℕ} {ss hs' ss' : List ℕ} {t : Bool} (m : Met text from to count ss) → count ≤ places → Arranged text ss count hs' ss' t →
    (row : List (List ℕ)) → Chain text to from row → t ≡ differ row
met_told m l a row chain = (rw (m.counted, (m.noted l).names) at a.tells) ∙ ap differ (chain_same m.chain chain m.within)

pub met_chained : {text : List ℕ} {from to count : ℕ} {ss : List ℕ} → Met text from to count ss → Chained text from to
met_chained m = record { row = m.row; chain = m.chain; within = m.within }
