-- Specimens of the tree (document 01, "Specimens", and others that tell it and its bounds from wrong ones): four tables,
-- which proofs/Specimens.antt shows to hold. Expected values are worked out from document 01, by hand or by a model of
-- the tree on explicit nodes, never by these definitions.
use Rattle.std.specs.Prelude.{Bool, ◌&&◌, List, [], ◌∷◌, ℕ, zero, suc, ◌+◌, ◌*◌, ◌-◌, leb, eqb}
use Rattle.lists.specs.Lists.{same, all_hold, numbers}
use Rattle.tree.specs.Forest.{Forest, nil, node, size, leaf_row}
use Rattle.tree.specs.Book.{Book, height, tags, loaded, labels_of, labels_in_order, power_width, inserted, split_of, moved_among, moved, book_within}
use Rattle.tree.specs.Reach.{reach_bound, account_bound}
use Rattle.tree.specs.Grown.{grown, grown_split}

abbrev powers : Book → ℕ → ℕ
powers k = power_width k.s k.r

-- HISTORIES

-- one tag goes in behind the first p tags: how many move, and the height of the split
pub record Put : Type 0 where
  pub p : ℕ
  pub moves : ℕ
  pub split : ℕ

-- n tags are loaded, with these labels; then tags go in one by one, and H and the labels are these
pub record History : Type 0 where
  pub s : ℕ
  pub r : ℕ
  pub n : ℕ
  pub load_height : ℕ
  pub load_labels : List ℕ
  pub puts : List Put
  pub end_height : ℕ
  pub end_labels : List ℕ

unfoldable pub shows : Book → (height : ℕ) → (labels : List ℕ) → Bool
shows k h ls = (eqb (height k) h && same (labels_of (powers k) k) ls) && labels_in_order (powers k) k

-- each insertion replies as said, within its reach, and the book at the end is as said; x is the next tag number
unfoldable pub puts_hold : (x : ℕ) → Book → List Put → (height : ℕ) → (labels : List ℕ) → Bool
puts_hold x k [] h ls = shows k h ls
puts_hold x k (q ∷ qs) h ls =
    ((eqb (moved (powers k) k (inserted q.p x k)) q.moves && eqb (split_of q.p k) q.split)
    && leb q.moves (reach_bound k.s k.r (height k) q.split))
    && puts_hold (suc x) (inserted q.p x k) qs h ls

unfoldable pub history_holds : History → Bool
history_holds e =
    shows (loaded e.s e.r e.n) e.load_height e.load_labels
    && puts_hold e.n (loaded e.s e.r e.n) e.puts e.end_height e.end_labels

abbrev put_at : (p moves split : ℕ) → Put
put_at p m h = record { p = p; moves = m; split = h }

-- s = r = 2, loaded only
abbrev pub twos : (n height : ℕ) → (labels : List ℕ) → History
twos n h ls = record { s = 2; r = 2; n = n; load_height = h; load_labels = ls; puts = []; end_height = h; end_labels = ls }

abbrev pub histories : List History
histories =
    -- A, B, C, D
    twos 0 1 [] ∷
    twos 3 1 (0 ∷ 1 ∷ 2 ∷ []) ∷
    twos 4 2 (0 ∷ 1 ∷ 3 ∷ 4 ∷ []) ∷
    twos 5 2 (0 ∷ 1 ∷ 3 ∷ 4 ∷ 5 ∷ []) ∷
    -- E: then a text after tag 4
    record {
      s = 2;
      r = 2;
      n = 5;
      load_height = 2;
      load_labels = 0 ∷ 1 ∷ 3 ∷ 4 ∷ 5 ∷ [];
      puts = put_at 5 1 1 ∷ [];
      end_height = 2;
      end_labels = 0 ∷ 1 ∷ 3 ∷ 4 ∷ 6 ∷ 7 ∷ [];
    } ∷
    -- F, G: the two insertions of the printed case; at G a node of height 1 and the root both come to their limit, and
    -- the root is split
    record {
      s = 2;
      r = 2;
      n = 6;
      load_height = 2;
      load_labels = 0 ∷ 1 ∷ 3 ∷ 4 ∷ 6 ∷ 7 ∷ [];
      puts = put_at 3 1 0 ∷ put_at 3 4 2 ∷ [];
      end_height = 3;
      end_labels = 0 ∷ 1 ∷ 3 ∷ 4 ∷ 9 ∷ 10 ∷ 12 ∷ 13 ∷ [];
    } ∷
    -- right siblings of a split node move
    record {
      s = 2;
      r = 2;
      n = 4;
      load_height = 2;
      load_labels = 0 ∷ 1 ∷ 3 ∷ 4 ∷ [];
      puts = put_at 1 1 0 ∷ put_at 1 4 1 ∷ [];
      end_height = 2;
      end_labels = 0 ∷ 1 ∷ 3 ∷ 4 ∷ 6 ∷ 7 ∷ [];
    } ∷
    -- THE REACH MET. With no split, f − 2 = 4 move: all under the first node of height 1
    record {
      s = 3;
      r = 2;
      n = 4;
      load_height = 2;
      load_labels = 0 ∷ 1 ∷ 5 ∷ 6 ∷ [];
      puts = put_at 0 2 0 ∷ put_at 0 3 0 ∷ put_at 0 4 0 ∷ [];
      end_height = 2;
      end_labels = 0 ∷ 1 ∷ 2 ∷ 3 ∷ 4 ∷ 5 ∷ 6 ∷ [];
    } ∷
    -- with a split at height 1, s times r^2 − 2 = 6: all under its parent, which is not the root
    record {
      s = 2;
      r = 2;
      n = 8;
      load_height = 3;
      load_labels = 0 ∷ 1 ∷ 3 ∷ 4 ∷ 9 ∷ 10 ∷ 12 ∷ 13 ∷ [];
      puts = put_at 4 0 0 ∷ put_at 0 2 0 ∷ put_at 0 6 1 ∷ [];
      end_height = 3;
      end_labels = 0 ∷ 1 ∷ 3 ∷ 4 ∷ 6 ∷ 7 ∷ 8 ∷ 9 ∷ 10 ∷ 12 ∷ 13 ∷ [];
    } ∷
    -- with a split at height 2 right under the root, s times r^3 − 2 = 14: the whole book
    record {
      s = 2;
      r = 2;
      n = 11;
      load_height = 3;
      load_labels = 0 ∷ 1 ∷ 3 ∷ 4 ∷ 9 ∷ 10 ∷ 12 ∷ 13 ∷ 15 ∷ 16 ∷ 17 ∷ [];
      puts = put_at 0 2 0 ∷ put_at 0 5 1 ∷ put_at 0 2 0 ∷ put_at 0 14 2 ∷ [];
      end_height = 3;
      end_labels = 0 ∷ 1 ∷ 3 ∷ 4 ∷ 9 ∷ 10 ∷ 12 ∷ 13 ∷ 18 ∷ 19 ∷ 21 ∷ 22 ∷ 24 ∷ 25 ∷ 26 ∷ [];
    } ∷
    -- with a split of the root at height 2, s times r^2 − 1 = 7: the whole book
    record {
      s = 2;
      r = 2;
      n = 7;
      load_height = 2;
      load_labels = 0 ∷ 1 ∷ 3 ∷ 4 ∷ 6 ∷ 7 ∷ 8 ∷ [];
      puts = put_at 0 7 2 ∷ [];
      end_height = 3;
      end_labels = 0 ∷ 1 ∷ 3 ∷ 4 ∷ 9 ∷ 10 ∷ 12 ∷ 13 ∷ [];
    } ∷
    []

-- BOOKS GIVEN OUTRIGHT, which no load need lead to: each is within its limits, and where a tag goes in behind the first
-- p, these old tags move
pub record Given : Type 0 where
  pub book : Book
  pub p : ℕ
  pub moves : List ℕ

unfoldable pub given_holds : Given → Bool
given_holds e =
    let k = e.book in
    book_within k && same (moved_among (powers k) (tags k) k (inserted e.p (size k.root) k)) e.moves

unfoldable pub nodes : (children : List Forest) → Forest
nodes [] = nil
nodes (g ∷ gs) = node g (nodes gs)

-- a node's leaves from one tag number on
abbrev run : (from count : ℕ) → Forest
run x n = leaf_row (numbers x n)

abbrev pub givens : List Given
givens =
    -- the tags that move left of the new one need not stand together: 2 and 3 do, then 8 to 11, and 4 to 7 stay, since
    -- the node over 0 to 3 is as thin as it may be and yet not complete
    record {
      book =
          record {
            s = 3;
            r = 2;
            under = 2;
            root =
                nodes (
                nodes (run 0 4 ∷ []) ∷
                nodes (run 4 2 ∷ run 6 2 ∷ []) ∷
                nodes (run 8 2 ∷ run 10 2 ∷ run 12 3 ∷ []) ∷
                nodes (run 15 2 ∷ run 17 2 ∷ run 19 2 ∷ run 21 2 ∷ []) ∷ []);
          };
      p = 12;
      moves = 2 ∷ 3 ∷ 8 ∷ 9 ∷ 10 ∷ 11 ∷ 12 ∷ 13 ∷ 14 ∷ 15 ∷ 16 ∷ 17 ∷ 18 ∷ 19 ∷ 20 ∷ 21 ∷ 22 ∷ [];
    } ∷
    []

-- ALL AT THE FRONT: n tags are loaded, then m go in one by one at the front; H at the end, and how many move together
pub record FrontHistory : Type 0 where
  pub s : ℕ
  pub r : ℕ
  pub n : ℕ
  pub m : ℕ
  pub end_height : ℕ
  pub total : ℕ

-- t have moved so far, and x is the next tag number
unfoldable pub fronts_move : (count x t : ℕ) → Book → (height total : ℕ) → Bool
fronts_move zero x t k h all = eqb (height k) h && eqb t all
fronts_move (suc c) x t k h all = fronts_move c (suc x) (t + moved (powers k) k (inserted 0 x k)) (inserted 0 x k) h all

unfoldable pub front_holds : FrontHistory → Bool
front_holds e =
    fronts_move e.m e.n 0 (loaded e.s e.r e.n) e.end_height e.total
    && leb ((e.s - 1) * e.total) (account_bound e.s e.r e.n e.m e.end_height)

abbrev pub fronts : List FrontHistory
fronts =
    -- one insertion splits the root and moves all: what is loaded must pay too
    record { s = 2; r = 2; n = 31; m = 1; end_height = 5; total = 31 } ∷
    -- an insertion's share grows with the height
    record { s = 2; r = 2; n = 4; m = 44; end_height = 5; total = 300 } ∷ []

-- A ROW AT ONE PLACE: n tags are loaded, then k go in at once behind the first p (document 02, CR 5): how many move, the greatest
-- height of a split, and H and the labels afterwards
pub record RowHistory : Type 0 where
  pub s : ℕ
  pub r : ℕ
  pub n : ℕ
  pub p : ℕ
  pub k : ℕ
  pub moves : ℕ
  pub split : ℕ
  pub end_height : ℕ
  pub end_labels : List ℕ

unfoldable pub row_holds : RowHistory → Bool
row_holds e =
    let b = loaded e.s e.r e.n in
    let after = grown e.p (numbers e.n e.k) b in
    (eqb (moved (powers b) b after) e.moves && eqb (grown_split e.k e.p b) e.split) && shows after e.end_height e.end_labels

abbrev pub rows : List RowHistory
rows =
    -- the second tag splits the place's node, and the third goes into the last of its trees
    record {
      s = 2;
      r = 2;
      n = 8;
      p = 4;
      k = 3;
      moves = 0;
      split = 1;
      end_height = 3;
      end_labels = 0 ∷ 1 ∷ 3 ∷ 4 ∷ 6 ∷ 7 ∷ 8 ∷ 9 ∷ 10 ∷ 12 ∷ 13 ∷ [];
    } ∷
    -- the fourth splits the node over it, and the four tags behind that move by its second tree
    record {
      s = 2;
      r = 2;
      n = 8;
      p = 4;
      k = 5;
      moves = 4;
      split = 2;
      end_height = 3;
      end_labels = 0 ∷ 1 ∷ 3 ∷ 4 ∷ 9 ∷ 10 ∷ 12 ∷ 13 ∷ 14 ∷ 18 ∷ 19 ∷ 21 ∷ 22 ∷ [];
    } ∷
    -- the last two stand before an old tag, in the last of three trees, and the tags behind these move by two
    record {
      s = 3;
      r = 2;
      n = 9;
      p = 5;
      k = 6;
      moves = 4;
      split = 1;
      end_height = 3;
      end_labels = 0 ∷ 1 ∷ 5 ∷ 6 ∷ 25 ∷ 26 ∷ 30 ∷ 31 ∷ 35 ∷ 36 ∷ 37 ∷ 38 ∷ 40 ∷ 41 ∷ 42 ∷ [];
    } ∷
    -- the root is split three times, the second and the third time at one height: three complete trees of 8
    record {
      s = 2;
      r = 2;
      n = 4;
      p = 1;
      k = 20;
      moves = 3;
      split = 3;
      end_height = 4;
      end_labels =
          0 ∷ 1 ∷ 3 ∷ 4 ∷ 9 ∷ 10 ∷ 12 ∷ 13 ∷
          27 ∷ 28 ∷ 30 ∷ 31 ∷ 36 ∷ 37 ∷ 39 ∷ 40 ∷
          54 ∷ 55 ∷ 57 ∷ 58 ∷ 63 ∷ 64 ∷ 66 ∷ 67 ∷ [];
    } ∷
    []

unfoldable pub tables_hold : Bool
tables_hold =
    all_hold history_holds histories
    && (all_hold given_holds givens && (all_hold front_holds fronts && all_hold row_holds rows))
