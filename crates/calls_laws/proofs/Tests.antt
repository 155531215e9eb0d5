-- What a passed test of a sound store says, field by field. Assumes nothing.
use mathlib.Core.Path.{◌≡◌, refl}
use mathlib.Core.Bool.{Bool, true, false, ◌&&◌, ◌||◌, cond}
use Prim.Native.Nat.{ℕ, suc, ◌+◌, ◌*◌, ◌^◌, ◌≤◌, ◌<◌}
use native.Mathlib.Omega.{arith}
use borrow.Author.Tests.{ltb-true, leb-true, eqb-true, le-leb, eq-eqb}
use lib.Dec.{ltb, leb, eqb}
use lib.ListN.{length}
use Rattle.store_types.specs.Limits.{no_tag, most_tags}
use Rattle.lists.proofs.Tests.{and_left, and_right, and_both}
use Rattle.tree.specs.Row.{all_below}
use Rattle.tree.specs.Forest.{size, within_limits}
use Rattle.tree.specs.Book.{height, root_within, book_within}
use Rattle.tree.specs.Promise.{Sane}
use Rattle.calls.specs.Store.{Store, count, row, height_fits, marked_count}
use Rattle.calls.specs.Nesting.{nested, depths_right}
use Rattle.calls.specs.Sound.{degrees_fit, tree_sound, row_sound, stamp_sound, sound}

-- a call that is not refused passes each test
pub passes : (t : Bool) (k rest : ℕ) → cond t (suc k) rest ≡ 0 → (t ≡ false) × (rest ≡ 0)
passes true k rest e = absurd (omega arith)
passes false k rest e = (refl, e)

pub record Degrees (s r : ℕ) : Type 0 where
  pub s_least : 2 ≤ s
  pub s_most : s ≤ 16
  pub r_least : 2 ≤ r
  pub r_most : r ≤ 16

pub degrees_of : (s r : ℕ) → degrees_fit s r ≡ true → Degrees s r
unfolding degrees_fit
degrees_of s r e =
    let fs = and_left (leb 2 s && leb s 16) (leb 2 r && leb r 16) e in
    let fr = and_right (leb 2 s && leb s 16) (leb 2 r && leb r 16) e in
    record {
      s_least = leb-true _ _ (and_left (leb 2 s) (leb s 16) fs);
      s_most = leb-true _ _ (and_right (leb 2 s) (leb s 16) fs);
      r_least = leb-true _ _ (and_left (leb 2 r) (leb r 16) fr);
      r_most = leb-true _ _ (and_right (leb 2 r) (leb r 16) fr);
    }

pub degrees_test : (s r : ℕ) → Degrees s r → degrees_fit s r ≡ true
unfolding degrees_fit
degrees_test s r d =
    and_both (and_both (le-leb _ _ d.s_least) (le-leb _ _ d.s_most)) (and_both (le-leb _ _ d.r_least) (le-leb _ _ d.r_most))

-- document 01's "Sound means", as facts, with what is known of depths (document 02, CR 7) left open: laws of rows and nesting do not ask
pub record SoundWith (known : Type 0) (st : Store) : Type 0 where
  pub degrees : Degrees st.book.s st.book.r
  pub labels_fit : height_fits st (height st.book) ≡ true
  pub within : book_within st.book ≡ true
  pub few : count st ≤ most_tags
  pub as_many : length (row st) ≡ count st
  pub each : all_below (count st) (row st) ≡ true
  pub nesting : nested st.facts no_tag (row st) ≡ true
  pub depths : known
  pub stamp_fits : st.stamp ≤ count st + marked_count st.facts

-- of a sound store that they are right
abbrev pub Sound : Store → Type 0
Sound st = SoundWith (depths_right st.facts 0 (row st) ≡ true) st

pub sane : {st : Store} → Sound st → Sane st.book
sane h = record { s_least = h.degrees.s_least; r_least = h.degrees.r_least; within = h.within }

-- its root's limits, as those of n
pub root_limits : {st : Store} → Sound st →
    (count st < st.book.s * st.book.r ^ height st.book)
    × ((eqb st.book.under 0 || leb (2 * st.book.r ^ st.book.under) (count st)) ≡ true)
unfolding book_within root_within
root_limits {st} h =
    let k = st.book in
    let below = ltb (size k.root) (k.s * k.r ^ height k) in
    let least = eqb k.under 0 || leb (2 * k.r ^ k.under) (size k.root) in
    let root = and_left (below && least) (within_limits k.root k.s k.r k.under) h.within in
    (rw h.as_many at (ltb-true (size k.root) (k.s * k.r ^ height k) (and_left below least root)), rw h.as_many at (and_right below least root))

pub facts_of : (st : Store) → sound st ≡ true → Sound st
unfolding sound tree_sound row_sound stamp_sound
facts_of st e =
    let nesting = nested st.facts no_tag (row st) in
    let depths = depths_right st.facts 0 (row st) in
    let front = and_left (tree_sound st && row_sound st) ((nesting && depths) && stamp_sound st) e in
    let back = and_right (tree_sound st && row_sound st) ((nesting && depths) && stamp_sound st) e in
    let passes = and_left (nesting && depths) (stamp_sound st) back in
    let tree = and_left (tree_sound st) (row_sound st) front in
    let tags = and_right (tree_sound st) (row_sound st) front in
    let limits = and_right (degrees_fit st.book.s st.book.r) (height_fits st (height st.book) && book_within st.book) tree in
    let numbers = and_right (leb (count st) most_tags) (eqb (length (row st)) (count st) && all_below (count st) (row st)) tags in
    record {
      degrees =
          degrees_of _ _ (and_left (degrees_fit st.book.s st.book.r) (height_fits st (height st.book) && book_within st.book) tree);
      labels_fit = and_left (height_fits st (height st.book)) (book_within st.book) limits;
      within = and_right (height_fits st (height st.book)) (book_within st.book) limits;
      few = leb-true _ _ (and_left (leb (count st) most_tags) (eqb (length (row st)) (count st) && all_below (count st) (row st)) tags);
      as_many = eqb-true _ _ (and_left (eqb (length (row st)) (count st)) (all_below (count st) (row st)) numbers);
      each = and_right (eqb (length (row st)) (count st)) (all_below (count st) (row st)) numbers;
      nesting = and_left nesting depths passes;
      depths = and_right nesting depths passes;
      stamp_fits = leb-true _ _ (and_right (nesting && depths) (stamp_sound st) back);
    }

pub sound_of : (st : Store) → Sound st → sound st ≡ true
unfolding sound tree_sound row_sound stamp_sound
sound_of st h =
    and_both
    (and_both (and_both (degrees_test _ _ h.degrees) (and_both h.labels_fit h.within))
    (and_both (le-leb _ _ h.few) (and_both (eq-eqb _ _ h.as_many) h.each)))
    (and_both (and_both h.nesting h.depths) (le-leb _ _ h.stamp_fits))
