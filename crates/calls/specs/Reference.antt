-- The reference list (document 01, "The bare list"; document 02, CR 5, for sheets): fed the arguments of load, insert, the
-- insertion of a sheet and mark, and of each reply only whether the call was accepted; no word of the store.
-- Assumes nothing: these are definitions.
use Rattle.std.specs.Prelude.{cond, List, [], ◌∷◌, ℕ, zero, suc, ◌+◌, eqb, length}
use Rattle.store_types.specs.Limits.{no_tag}
use Rattle.lists.specs.Lists.{numbers}
use Rattle.tree.specs.Row.{place, insert_at}
use Rattle.tree.specs.Book.{load_under}
use Rattle.calls.specs.Insert.{insert_kinds, raised}
use Rattle.calls.specs.Changes.{Change, load, insert, sheet, mark, Told}

-- s, r, the list of tag numbers, n0, m and H
pub record Reference : Type 0 where
  pub s : ℕ
  pub r : ℕ
  pub row : List ℕ
  pub n0 : ℕ
  pub m : ℕ
  pub height : ℕ

-- N
abbrev pub total : Reference → ℕ
total a = a.n0 + a.m

-- accepted load of k kinds: 0 to k − 1, n0 is k, m is 0, H the smallest height of at least 1 with k < 2 times r^H
unfoldable pub reference_load : (s r k : ℕ) → Reference
reference_load s r k = record { s = s; r = r; row = numbers 0 k; n0 = k; m = 0; height = suc (load_under r k) }

-- right after the tag of the place, or at the front
unfoldable pub reference_position : (place : ℕ) → List ℕ → ℕ
reference_position y xs = cond (eqb y no_tag) 0 (suc (place y xs))

-- each of k tags adds 1 to the length; where that comes to s times r^H, H rises by 1
unfoldable pub raised_by : (s r k n height : ℕ) → ℕ
raised_by s r zero n h = h
raised_by s r (suc k) n h = raised_by s r k (suc n) (raised s r (suc n) h)

-- accepted insertion of k tags: they take the numbers from the list's length on, and each adds 1 to m
unfoldable pub reference_insert : (k place : ℕ) → Reference → Reference
reference_insert k y a =
    let n = length a.row in
    record {
      s = a.s;
      r = a.r;
      row = insert_at (reference_position y a.row) (numbers n k) a.row;
      n0 = a.n0;
      m = a.m + k;
      height = raised_by a.s a.r k n a.height;
    }

-- a sheet's tags are placed and counted as an element's two; an empty sheet has none, so that nothing changes (EmptyReference in
-- Promise). mark: nothing changes
unfoldable pub reference_change : Change → Reference → Reference
reference_change (load s r b cs) a = reference_load s r (length cs)
reference_change (insert c y) a = reference_insert (length (insert_kinds c)) y a
reference_change (sheet cs y) a = reference_insert (length cs) y a
reference_change (mark x) a = a

-- every refused change: nothing changes
unfoldable pub reference_told : Told → Reference → Reference
reference_told t a = cond t.1 (reference_change t.0 a) a

unfoldable pub reference_after : List Told → Reference → Reference
reference_after [] a = a
reference_after (t ∷ ts) a = reference_after ts (reference_told t a)
