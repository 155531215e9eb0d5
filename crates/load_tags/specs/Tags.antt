-- The records of new tags with their labels. Assumes nothing: these are definitions.
use Rattle.std.specs.Prelude.{◌≡◌, true, List, [], map, ℕ, ◌+◌, ◌*◌, ◌^◌, ◌≤◌, ◌<◌, length, get_or, drop}
use Rattle.store_types.specs.Limits.{no_tag}
use Rattle.store_types.specs.Layout.{header_words, at_next, at_prior, at_mate, at_up, at_kind, at_depth, word_at, words_for, field, label_at, Records}
use Rattle.lists.specs.Lists.{numbers}
use Rattle.powers.specs.Tables.{entry, entry_limit}
use Rattle.tree.specs.Forest.{labels, spread}
use Rattle.shape.specs.Sums.{cut}
use Rattle.calls.specs.Kind.{kind_of, kind_word}
use Rattle.calls.specs.Store.{Fact, fact_in}
use Rattle.calls.specs.Nesting.{nests, new_facts}
use Rattle.calls.specs.Load.{all_kinds}
use Rattle.words.specs.Places.{TagOrNone}
use Rattle.load_record.specs.declared.Row as rows
use Rattle.load_record.specs.Record.{next_of, prior_of}
use Rattle.load_nodes.specs.Gaps.{WidthsRise}

-- a row of n tags that are the whole book, and these two of tag x there
abbrev pub whole_row : (n : ℕ) → rows.Row
whole_row n = record { first = 0; end = n; prior = record { 0 = no_tag }; next = record { 0 = no_tag } }

unfoldable pub next_number : (x n : ℕ) → ℕ
next_number x n = next_of (whole_row n) x

unfoldable pub prior_number : (x : ℕ) → ℕ
prior_number x = prior_of (whole_row 0) x

-- THE ROW: what all tags of a book are asked of
pub record TagsFit (ws cs : List ℕ) : Type 0 where
  pub records : Records ws (length cs)
  pub kinds : all_kinds cs ≡ true
  pub nesting : nests 0 (map kind_of cs) ≡ true

-- and a row of new ones inside a begin u, or inside none, where v begins are open: no more than there are tags before the row
pub record RowFits (ws cs : List ℕ) (w : rows.Row) (u v : ℕ) : Type 0 where
  pub records : Records ws w.end
  pub count : w.first + length cs ≡ w.end
  pub kinds : all_kinds cs ≡ true
  pub nesting : nests 0 (map kind_of cs) ≡ true
  pub up : TagOrNone w.first u
  pub deep : v ≤ w.first

-- of tag x between two others, with this label and fact: all but the mate
pub record Between (ws : List ℕ) (x next prior label : ℕ) (t : Fact) : Type 0 where
  pub label_word : label_at ws x ≡ label
  pub next_word : field ws x at_next ≡ next
  pub prior_word : field ws x at_prior ≡ prior
  pub up_word : field ws x at_up ≡ t.up
  pub kind_is : field ws x at_kind ≡ kind_word t.kind t.marked
  pub depth_is : field ws x at_depth ≡ t.depth

-- and of n tags in the order of their numbers
abbrev pub Placed : (ws : List ℕ) (n x label : ℕ) (t : Fact) → Type 0
Placed ws n x l t = Between ws x (next_number x n) (prior_number x) l t

-- words outside the records of n tags are as before
pub record Around (before after : List ℕ) (n : ℕ) : Type 0 where
  pub size : length after ≡ length before
  pub header : (i : ℕ) → i < header_words → word_at after i ≡ word_at before i
  pub rest : drop (words_for header_words n) after ≡ drop (words_for header_words n) before

-- the facts of tags of these kinds
abbrev pub facts_new : (kinds : List ℕ) → List Fact
facts_new cs = new_facts no_tag [] 0 0 (map kind_of cs)

-- their records, with these labels
pub record TagsWritten (before after cs ls : List ℕ) : Type 0 where
  pub around : Around before after (length cs)
  pub places : (x : ℕ) → x < length cs → Placed after (length cs) x (get_or ls x 0) (fact_in (facts_new cs) x)
  pub mates : (x : ℕ) → x < length cs → field after x at_mate ≡ (fact_in (facts_new cs) x).mate

-- THE LABELS of n tags in complete trees of height u, which have widths by height: by what a label holds of them
unfoldable pub labels_new : (r : ℕ) → (widths : List ℕ) → (n u : ℕ) → List ℕ
labels_new r w n u = map cut (labels (spread u r (numbers 0 n)) (entry w) u 0)

-- what labels are asked of: two leaves of one node are 1 apart, the tables by height have room, and there are leaves for a tree
pub record TreesFit (r n u : ℕ) (w : List ℕ) : Type 0 where
  pub degree : 2 ≤ r
  pub unit : entry w 0 ≡ 1
  pub widths : WidthsRise r u w
  pub lows : r * r ^ u ≤ entry_limit
  pub least : 1 ≤ u → r ^ u ≤ n
