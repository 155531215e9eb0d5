-- How many begins are open along a row of new tags (document 02, CR 7): at each tag as many as around the row and the row's own,
-- an end has one of the row's open, and they are no more than the tags before it. Assumes nothing.
use mathlib.Core.Path.{◌≡◌, refl, ap}
use mathlib.Core.Bool.{true, false≢true}
use mathlib.Core.List.{List, ◌∷◌, map}
use Prim.Native.Nat.{ℕ, zero, suc, ◌+◌, ◌-◌, ◌≤◌, ◌<◌}
use native.Mathlib.Nat.{sub_self}
use native.Mathlib.Numerals.{sub-one}
use native.Mathlib.Omega.{arith}
use lib.ListN.{length, get_or, drop}
use lib.Seq.{drop-cons}
use Rattle.calls.specs.Kind.{Kind, begin, end, text, kind_of, is_begin, is_end, own_depth, opens_after, depth_after}
use Rattle.calls.specs.Nesting.{nests}
use Rattle.calls_laws.proofs.Depths.{after_most}
use Rattle.load_record.specs.declared.Row as rows

-- ONE KIND of a row that nests where j begins of its own are open
record NestsOn (k : Kind) (j : ℕ) (ks : List Kind) : Type 0 where
  some : k ≡ end → 1 ≤ j
  rest : nests (depth_after k j) ks ≡ true
  around : (v : ℕ) → depth_after k (j + v) ≡ depth_after k j + v

nests_on : (k : Kind) (j : ℕ) (ks : List Kind) → nests j (k ∷ ks) ≡ true → NestsOn k j ks
unfolding nests depth_after opens_after own_depth is_begin is_end
nests_on begin j ks h = record { some = λ e. absurd (false≢true (ap is_end e)); rest = h; around = λ v. omega arith }
nests_on end zero ks h = absurd (false≢true h)
nests_on end (suc j) ks h = record { some = λ e. omega arith; rest = rw sub-one h; around = λ v. omega arith }
nests_on text j ks h = record { some = λ e. absurd (false≢true (ap is_end e)); rest = h; around = λ v. refl }

-- AT TAG x of a row before which v begins are open: d are, and so many of the row's own
pub record Opens (cs : List ℕ) (w : rows.Row) (v x d : ℕ) : Type 0 where
  own : ℕ
  pub sum : d ≡ own + v
  pub few : own + w.first ≤ x
  left : nests own (map kind_of (drop (x - w.first) cs)) ≡ true

pub opens_start : (cs : List ℕ) (w : rows.Row) (v : ℕ) → nests 0 (map kind_of cs) ≡ true → Opens cs w v w.first v
opens_start cs w v h = record { own = 0; sum = omega arith; few = omega arith; left = rw sub_self h }

module _ (cs : List ℕ) (w : rows.Row) (v x d : ℕ) (past : w.first ≤ x) (inside : x - w.first < length cs) (c : ℕ) (is : c ≡ get_or cs (x - w.first) 0)
    (o : Opens cs w v x d) where
  one : NestsOn (kind_of c) o.own (map kind_of (drop (suc (x - w.first)) cs))
  one = nests_on (kind_of c) o.own _ (rw is (rw (drop-cons cs (x - w.first) 0 inside) at o.left))

  pub end_opened : c ≡ 2 → 1 ≤ d
  unfolding kind_of
  end_opened e = omega (arith, o.sum, one.some (rw e))

  pub opens_next : Opens cs w v (x + 1) (depth_after (kind_of c) d)
  opens_next =
      let next : x + 1 - w.first ≡ suc (x - w.first) = omega arith in
      record {
        own = depth_after (kind_of c) o.own;
        sum = rw o.sum (one.around v);
        few = omega (arith, o.few, after_most (kind_of c) o.own);
        left = rw next one.rest;
      }

-- no more than the tags before x, where that holds of the row's first
pub opens_few : {cs : List ℕ} {w : rows.Row} {v x d : ℕ} → v ≤ w.first → Opens cs w v x d → d ≤ x
opens_few deep o = omega (arith, o.sum, o.few)
