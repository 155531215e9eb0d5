-- Words while a store is being changed: like words_of (crate calls), with any labels along the row. The words of a store are
-- the image of its row, labels and facts. Assumes nothing: these are definitions.
use mathlib.Core.List.{List, ◌++◌, flat_map}
use Rattle.std.specs.Prelude.{ℕ, length, get_or}
use Rattle.store_types.specs.Limits.{no_tag}
use Rattle.store_types.specs.Layout.{header_list, record_list}
use Rattle.lists.specs.Lists.{numbers}
use Rattle.tree.specs.Row.{place}
use Rattle.tree.specs.Book.{height, labels_of}
use Rattle.calls.specs.Kind.{kind_word}
use Rattle.calls.specs.Store.{Store, Fact, fact_in, row, width, next_in, prior_in}

-- header numbers, the tags in book order, their labels in book order, and their facts by number
pub record Image : Type 0 where
  pub s : ℕ
  pub r : ℕ
  pub levels : ℕ
  pub number : ℕ
  pub stamp : ℕ
  pub tags : List ℕ
  pub labels : List ℕ
  pub facts : List Fact

unfoldable pub image_header : Image → List ℕ
image_header image =
    header_list image.s image.r image.levels (length image.facts) (get_or image.tags 0 no_tag) image.number image.stamp

unfoldable pub image_record : Image → (tag : ℕ) → List ℕ
image_record image x =
    let t = fact_in image.facts x in
    record_list (get_or image.labels (place x image.tags) 0) (next_in image.tags x) (prior_in image.tags x) t.mate t.up (kind_word t.kind t.marked) t.depth

unfoldable pub image_words : Image → List ℕ
image_words image = image_header image ++ flat_map (image_record image) (numbers 0 (length image.facts))

unfoldable pub image_of : Store → Image
image_of st =
    record {
      s = st.book.s;
      r = st.book.r;
      levels = height st.book;
      number = st.number;
      stamp = st.stamp;
      tags = row st;
      labels = labels_of (width st) st.book;
      facts = st.facts;
    }

-- an image with other labels
unfoldable pub with_labels : List ℕ → Image → Image
with_labels ls image =
    record {
      s = image.s;
      r = image.r;
      levels = image.levels;
      number = image.number;
      stamp = image.stamp;
      tags = image.tags;
      labels = ls;
      facts = image.facts;
    }
