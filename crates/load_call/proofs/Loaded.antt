-- The labels that load writes are those of the loaded book, and with them the words are those of the loaded store.
-- Assumes nothing.
use mathlib.Core.Path.{◌≡◌, refl, ap, sym, ◌∙◌}
use mathlib.Core.Bool.{true, ◌||◌, or-true}
use mathlib.Core.List.{List, map}
use Prim.Native.Nat.{ℕ, zero, suc, ◌*◌, ◌-◌, ◌^◌, ◌≤◌, ◌<◌}
use native.Mathlib.Nat.{one-mul, pow-zero, pow-succ', mul-le-mul_right}
use native.Mathlib.Omega.{arith}
use borrow.Author.Tests.{le-leb}
use lib.Dec.{leb, eqb}
use lib.ListN.{length, get_or}
use Rattle.store_types.specs.Limits.{word_limit, most_levels}
use Rattle.lists.specs.Lists.{numbers}
use Rattle.powers.specs.Tables.{entry, table, TableFits}
use Rattle.shape.specs.Sums.{cut}
use Rattle.powers.proofs.TableLaws.{table_at, table_bound}
use Rattle.shape.proofs.Fits.{Fits, lows_below, widths_fit}
use Rattle.tree.specs.Forest.{spread}
use Rattle.tree.specs.Book.{labels_of, base, load_under, loaded}
use Rattle.tree.specs.Promise.{LabelsRise}
use Rattle.tree_laws.proofs.Labels.{rising_of, rising_below, labels_rise}
use Rattle.tree_laws.proofs.Load.{Least, tags_loaded, sane_loaded, load_least}
use Rattle.calls.specs.Store.{Store, width}
use Rattle.calls.specs.Load.{load_store}
use Rattle.calls.specs.Words.{words_of}
use Rattle.calls_laws.proofs.Widths.{fits_limit, store_widths, store_powers}
use Rattle.calls_laws.proofs.Heights.{height_limit}
use Rattle.calls_laws.proofs.Steps.{LoadAccepted}
use Rattle.edit_model.specs.Image.{image_words, image_of}
use Rattle.edit_model.proofs.Image.{image_is}
use Rattle.edit_model.proofs.Applied.{labels_widths}
use Rattle.shape.proofs.Sums.{cut_all}
use Rattle.load_refuse.proofs.Height.{leaves_enough}
use Rattle.load_tags.specs.Tags.{labels_new, TreesFit}
use Rattle.load_call.proofs.Fresh.{fresh}

module _ (w s r b : ℕ) (cs : List ℕ) (a : LoadAccepted w s r cs) where
  abbrev n : ℕ
  n = length cs

  abbrev u : ℕ
  u = load_under r n

  high_enough : suc u ≤ most_levels
  high_enough = height_limit r u n a.degrees.r_least (go u (load_least r n a.degrees.r_least)) a.few
    where
      go : (u : ℕ) → Least r n u → (eqb u 0 || leb (2 * r ^ u) n) ≡ true
      go zero m = refl
      go (suc i) m = simp (le-leb (2 * r ^ suc i) n (m.least i refl), or-true)

  abbrev widths : List ℕ
  widths = table 1 (s * r - 1) (suc u)

  -- THE TREES have room
  fits : Fits s r (suc u)
  fits =
      let d = a.degrees in
      record { s_least = d.s_least; s_most = d.s_most; r_least = d.r_least; r_most = d.r_most; high = high_enough; labels = a.labels }

  pub table_fits : TableFits 1 (s * r - 1) (suc u)
  table_fits = widths_fit fits

  width_at : (h : ℕ) → h ≤ suc u → entry widths h ≡ (s * r - 1) ^ h
  width_at h l = table_at 1 (s * r - 1) (suc u) h l ∙ one-mul ((s * r - 1) ^ h)

  order : r ≤ s * r - 1
  order = omega (arith, mul-le-mul_right r a.degrees.s_least, a.degrees.r_least)

  pub trees_fit : TreesFit r n u widths
  trees_fit =
      let b = s * r - 1 in
      record {
        degree = a.degrees.r_least;
        unit = width_at 0 (omega arith) ∙ pow-zero b;
        widths = record {
          height = omega (arith, high_enough);
          entries = record { each = λ k. omega (arith, table_bound 1 b (suc u) table_fits.grows k, table_fits.last) };
          grows = λ h l. rw (width_at h (omega arith), width_at (suc h) (omega arith), pow-succ' b h) (mul-le-mul_right (b ^ h) order);
        };
        lows = rw (← pow-succ' r u) (omega (arith, lows_below fits));
        least = leaves_enough r n u (load_least r n a.degrees.r_least);
      }

  -- THE LABELS of the loaded store, of which each is a word
  abbrev own : Store
  own = load_store s r b cs

  abbrev own_labels : List ℕ
  own_labels = labels_of (width own) own.book

  below_limit : (i : ℕ) → i < length own_labels → get_or own_labels i 0 < word_limit
  unfolding load_store loaded LabelsRise
  below_limit i l =
      let rise = labels_rise (width own) own.book (store_widths own) (sane_loaded s r n a.degrees.s_least a.degrees.r_least) in
      omega (arith, rising_below 0 _ own_labels (rising_of _ own_labels rise) i l, fits_limit (width own) (suc u) a.labels)

  -- so a label holds all of it
  labels_whole : labels_new r widths n u ≡ own_labels
  unfolding labels_new load_store loaded base
  labels_whole =
      ap (map cut) (labels_widths (spread u r (numbers 0 n)) (entry widths) (width own) u 0 (λ h l. width_at h (omega arith) ∙ sym (store_powers own h)))
      ∙ cut_all own_labels below_limit

  -- THE STORE is said by a fresh image with these labels
  pub loaded_words : image_words (fresh s r (suc u) b cs (labels_new r widths n u)) ≡ words_of (load_store s r b cs)
  unfolding image_of load_store loaded
  loaded_words =
      image_is (fresh s r (suc u) b cs (labels_new r widths n u)) (load_store s r b cs) (record {
        s = refl;
        r = refl;
        levels = refl;
        number = refl;
        stamp = refl;
        tags = sym (tags_loaded s r n a.degrees.r_least);
        labels = labels_whole;
        facts = refl;
      })
