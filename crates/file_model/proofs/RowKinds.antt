-- The kinds of rows and the begins that are open before them: the tests of a kind's word are those of the kind, no more are open than
-- rows stand before, and in a sound store one is before an end. Assumes nothing.
use mathlib.Core.Path.{◌≡◌, refl, ap, sym, ◌∙◌}
use mathlib.Core.Bool.{Bool, true, false}
use mathlib.Core.List.{List, [], ◌∷◌, map}
use Prim.Native.Nat.{ℕ, zero, suc, ◌%◌, ◌≤◌, ◌<◌}
use native.Mathlib.Nat.{not-suc-le-zero, le_of_suc-le-suc}
use native.Mathlib.Omega.{arith}
use borrow.Author.Tests.{eq-eqb}
use lib.Dec.{leb, eqb}
use lib.ListN.{length, get_or}
use Rattle.store_types.specs.Limits.{no_tag}
use Rattle.store_types.specs.Layout.{at_kind}
use Rattle.tree.specs.Row.{member}
use Rattle.tree_laws.proofs.Rows.{member_first, member_later}
use Rattle.calls.specs.Kind.{Kind, begin, end, text, code, kind_word, word_kind, is_begin, is_end, depth_after}
use Rattle.calls.specs.Store.{Store, fact, count, row}
use Rattle.calls.specs.Sound.{sound}
use Rattle.calls.specs.Words.{tag_record}
use Rattle.calls.specs.File.{tag_row, row_kind}
use Rattle.calls_laws.proofs.Tests.{facts_of}
use Rattle.calls_laws.proofs.Nesting.{Pass, pass_of}
use Rattle.calls_laws.proofs.Sections.{row_below}
use Rattle.calls_laws.proofs.Depths.{after_most}
use Rattle.calls_laws.proofs.Reader.{get_d_map, kind_back}
use Rattle.walk_model.proofs.Found.{word_back}
use Rattle.walk_model.proofs.Depths.{Opens, opens_step}
use Rattle.file_model.specs.Judge.{row_word, opens_before}
use Rattle.file_model.proofs.Rows.{opens_later}

-- AN END, A BEGIN by their words
kind_tests : (k : Kind) (m : Bool) → (eqb (kind_word k m % 16) 2 ≡ is_end k) × (eqb (kind_word k m % 16) 1 ≡ is_begin k)
unfolding kind_word code is_end is_begin
kind_tests begin true = (refl, refl)
kind_tests begin false = (refl, refl)
kind_tests end true = (refl, refl)
kind_tests end false = (refl, refl)
kind_tests text true = (refl, refl)
kind_tests text false = (refl, refl)

pub word_tests : (c : ℕ) → c < 32 → 1 ≤ c % 16 → c % 16 ≤ 3 → (eqb (c % 16) 2 ≡ is_end (word_kind c)) × (eqb (c % 16) 1 ≡ is_begin (word_kind c))
word_tests c small low high = rw (word_back c small low high) at (kind_tests (word_kind c) (leb 16 c))

word_fits : (k : Kind) (m : Bool) → (kind_word k m < 32) × (1 ≤ kind_word k m % 16) × (kind_word k m % 16 ≤ 3)
unfolding kind_word code
word_fits begin true = (omega arith, omega arith, omega arith)
word_fits begin false = (omega arith, omega arith, omega arith)
word_fits end true = (omega arith, omega arith, omega arith)
word_fits end false = (omega arith, omega arith, omega arith)
word_fits text true = (omega arith, omega arith, omega arith)
word_fits text false = (omega arith, omega arith, omega arith)

-- NO MORE BEGINS ARE OPEN before a row than rows stand before it
pub opens_few : (rows : List (List ℕ)) (i : ℕ) → opens_before 0 rows i ≤ i
unfolding opens_before
opens_few rows zero = omega arith
opens_few rows (suc i) = omega (arith, after_most (row_kind (get_or rows i [])) (opens_before 0 rows i), opens_few rows i)

-- THE ROWS OF A STORE: before an end one is open
module _ (st : Store) where
  ends_open : (xs : List ℕ) (d o i : ℕ) → ((x : ℕ) → member x xs ≡ true → x ≡ no_tag → ⊥) → Opens st.facts d o → Pass st.facts no_tag o xs no_tag → i < length xs →
      is_end (fact st (get_or xs i no_tag)).kind ≡ true → 1 ≤ opens_before d (map (tag_row st) xs) i
  unfolding opens_before tag_row tag_record
  ends_open [] d o i tags c p l e = absurd (not-suc-le-zero l)
  ends_open (x ∷ xs) d o zero tags c (m, s, p) l e = (opens_step st.facts d o x m (tags x (member_first x xs)) s c).0 e
  ends_open (x ∷ xs) d o (suc i) tags c (m, s, p) l e =
      let step = opens_step st.facts d o x m (tags x (member_first x xs)) s c in
      rw (opens_later d (tag_row st x) (map (tag_row st) xs) i, (kind_back (fact st x).kind (fact st x).marked).0)
      (ends_open xs (depth_after (fact st x).kind d) m i (λ y k. tags y (member_later y x xs k)) step.1 p (le_of_suc-le-suc l) e)

-- what the rows of a sound store say of their kinds
pub record KindRow (rows : List (List ℕ)) (i : ℕ) : Type 0 where
  pub small : row_word rows i (suc at_kind) < 32
  pub low : 1 ≤ row_word rows i (suc at_kind) % 16
  pub high : row_word rows i (suc at_kind) % 16 ≤ 3
  pub opened : row_word rows i (suc at_kind) % 16 ≡ 2 → 1 ≤ opens_before 0 rows i

pub kind_row : (st : Store) → sound st ≡ true → (i : ℕ) → i < count st → KindRow (map (tag_row st) (row st)) i
unfolding tag_row tag_record
kind_row st e i l =
    let h = facts_of st e in
    let x = get_or (row st) i no_tag in
    let inside : i < length (row st) = omega (arith, h.as_many) in
    let word : row_word (map (tag_row st) (row st)) i (suc at_kind) ≡ kind_word (fact st x).kind (fact st x).marked =
    ap (λ (ws : List ℕ). get_or ws (suc at_kind) 0) (get_d_map (tag_row st) (row st) i no_tag [] inside) in
    let fits = word_fits (fact st x).kind (fact st x).marked in
    let tags : (y : ℕ) → member y (row st) ≡ true → y ≡ no_tag → ⊥ = λ y m none. omega (arith, row_below h y m, h.few) in
    record {
      small = rw word fits.0;
      low = rw word fits.1;
      high = rw word fits.2;
      opened = λ ends. ends_open st (row st) 0 no_tag i tags refl (pass_of st.facts no_tag (row st) h.nesting) inside
          (sym (kind_tests (fact st x).kind (fact st x).marked).0 ∙ eq-eqb _ 2 (rw word at ends));
    }
