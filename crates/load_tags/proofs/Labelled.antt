-- The label that the pass over the tags has come to is that of the tag. Assumes nothing.
use mathlib.Core.Path.{◌≡◌, refl, ap, sym, ◌∙◌}
use mathlib.Core.List.{List}
use Prim.Native.Nat.{ℕ, zero, suc, ◌+◌, ◌*◌, ◌-◌, ◌^◌, ◌≤◌, ◌<◌}
use native.Mathlib.Nat.{pow-succ'}
use native.Mathlib.Numerals.{add-one}
use native.Mathlib.Omega.{arith}
use borrow.Author.Tests.{eqb-true, eqb-false}
use lib.Dec.{eqb}
use lib.ListN.{length, get_or, set, replicate, length-set}
use lib.Seq.{get_or-set_same, get_or-set_other}
use Rattle.store_types.specs.Limits.{label_limit}
use Rattle.lists.specs.Lists.{numbers}
use Rattle.lists.proofs.Tests.{by_test}
use Rattle.lists.proofs.Numbers.{length_numbers}
use Rattle.powers.specs.Tables.{entry, table, TableFits, table_length, table_top}
use Rattle.powers.proofs.TableLaws.{noughts, table_at, table_bound}
use Rattle.shape.proofs.Sums.{cut_small}
use Rattle.tree.specs.Forest.{labels, leaves, spread}
use Rattle.tree_laws.proofs.Labels.{length_labels}
use Rattle.tree_laws.proofs.Spread.{leaves_spread_zero, leaves_spread}
use Rattle.calls_laws.proofs.Reader.{get_d_map}
use Rattle.shape.specs.Sums.{cut}
use Rattle.load_model.specs.Begins.{begun, FirstBegins}
use Rattle.load_model.proofs.Steps.{Abreast, TablesSay, abreast_first, abreast_next, begun_all, abreast_label}
use Rattle.load_nodes.specs.Gaps.{gap, GapsOf, WidthsRise, EntriesFit}
use Rattle.load_tags.specs.Tags.{labels_new, TreesFit}

module _ (r n u : ℕ) (w : List ℕ) (h : TreesFit r n u w) where
  low : u ≤ table_top
  low = omega (arith, h.widths.height)

  -- THE TABLES
  pub lows_fit : TableFits r r u
  lows_fit = record { height = omega (arith, low); grows = omega (arith, h.degree); last = h.lows }

  pub lows_small : (t : List ℕ) → t ≡ table r r u → EntriesFit t
  lows_small t e = record { each = λ k. rw e (omega (arith, h.lows, table_bound r r u lows_fit.grows k)) }

  apart : (j : ℕ) → j < u → entry w (suc j) ≡ r * entry w j + gap r w (suc j)
  unfolding gap
  apart j l = omega (arith, h.widths.grows j l)

  -- THE STATE of the pass at place i
  abbrev pub Labelling : (i j a : ℕ) → List ℕ → Type 0
  Labelling i j a bs = Abreast r u n (gap r w) i j a bs

  pub small : (i j a : ℕ) (bs : List ℕ) → Labelling i j a bs → a < label_limit
  small i j a bs g = rw g.label (cut_small _)

  module _ (gs ls : List ℕ) (of_gaps : GapsOf r u w gs) (of_lows : ls ≡ table r r u) where
    says : TablesSay r u (gap r w) gs ls
    says =
        record {
          leaves_are = λ k l. rw of_lows (table_at r r u k (omega arith) ∙ sym (pow-succ' r k));
          gaps_are = of_gaps.each;
        }

    pub labels_start : (bs : List ℕ) → FirstBegins n u ls bs → Labelling 0 0 0 bs
    labels_start bs f = abreast_first r u n (gap r w) h.degree low gs ls bs says h.least f

    pub labels_begun : (i a : ℕ) (bs : List ℕ) → i < n → Labelling i 0 a bs → (v : ℕ) (vs : List ℕ) →
        v ≡ (begun table_length 0 gs ls n i a bs).label → vs ≡ (begun table_length 0 gs ls n i a bs).begins → Labelling i u v vs
    labels_begun i a bs l g v vs e f =
        rw (e, f) (begun_all r u n (gap r w) h.degree low i l gs ls says table_length 0 a bs (omega arith) g)

  pub labels_next : (i a : ℕ) (bs : List ℕ) → Labelling i u a bs → Labelling (i + 1) 0 (cut (a + entry w 0)) bs
  labels_next i a bs g = rw h.unit (abreast_next r u n (gap r w) h.degree low i a bs g)

  -- a label for each tag
  all_leaves : leaves (spread u r (numbers 0 n)) ≡ numbers 0 n
  all_leaves = go u h.least
    where
      go : (u : ℕ) → (1 ≤ u → r ^ u ≤ n) → leaves (spread u r (numbers 0 n)) ≡ numbers 0 n
      go zero least = leaves_spread_zero r (numbers 0 n)
      go (suc u) least = leaves_spread (suc u) r (numbers 0 n) h.degree (rw length_numbers (least (omega arith)))

  pub count_labels : length (labels (spread u r (numbers 0 n)) (entry w) u 0) ≡ n
  count_labels = length_labels (spread u r (numbers 0 n)) (entry w) u 0 ∙ ap length all_leaves ∙ length_numbers 0 n

  pub label_new : (i a : ℕ) (bs : List ℕ) → i < n → Labelling i u a bs → a ≡ get_or (labels_new r w n u) i 0
  unfolding labels_new
  label_new i a bs l g =
      abreast_label r u n (gap r w) h.degree low i l (entry w) h.unit apart (numbers 0 n) (length_numbers 0 n) h.least a bs g
      ∙ sym (get_d_map cut (labels (spread u r (numbers 0 n)) (entry w) u 0) i 0 0 (rw count_labels l))
