-- Runs: the scanner's count of bytes that pass a test, and its length of a name, are what the grammar says. Each scanner has
-- its two laws: what is written so, with bytes behind it that cannot continue it, is found; and what is found is written so.
-- Assumes nothing.
use mathlib.Core.Path.{◌≡◌, refl, ap, ◌∙◌}
use mathlib.Core.Bool.{Bool, true, false, not, true≢false, false≢true}
use mathlib.Core.List.{List, [], ◌∷◌, ◌++◌}
use Prim.Native.Nat.{ℕ, suc}
use borrow.Author.Tests.{not-true}
use lib.Dec.{eqb, eqb-suc-zero}
use lib.ListN.{length, drop}
use lib.Seq.{drop-append_seam}
use Rattle.lists.specs.Lists.{all_hold}
use Rattle.lists.proofs.Tests.{by_test, and_left, and_right, and_both}
use Rattle.xml.specs.Bytes.{is_space, is_name_start, is_name_char}
use Rattle.xml.specs.Grammar.{is_name}
use Rattle.xml.specs.Scan.{run, name_length}
use Rattle.xml_laws.proofs.Strings.{start_not_space}

-- bytes that cannot continue a run: none, or the first fails the test
unfoldable pub stops : (test : ℕ → Bool) → List ℕ → Bool
stops f [] = true
stops f (c ∷ cs) = not (f c)

-- a run stops at bytes that pass another test, none of which passes its own, or at what stands behind them
pub stops_behind : (f g : ℕ → Bool) (cs more : List ℕ) → ((c : ℕ) → g c ≡ true → f c ≡ false) → all_hold g cs ≡ true → stops f more ≡ true → stops f (cs ++ more) ≡ true
unfolding stops all_hold
stops_behind f g [] more apart h s = s
stops_behind f g (c ∷ cs) more apart h s = rw (apart c (and_left (g c) _ h))

-- RUNS. A clause of `run` for each answer of the test
pub run_on : (f : ℕ → Bool) (c : ℕ) (cs : List ℕ) → f c ≡ true → run f (c ∷ cs) ≡ suc (run f cs)
unfolding run
run_on f c cs e = rw e

pub run_over : (f : ℕ → Bool) (cs : List ℕ) → stops f cs ≡ true → run f cs ≡ 0
unfolding run stops
run_over f [] s = refl
run_over f (c ∷ cs) s = rw (not-true (f c) s)

pub run_found : (f : ℕ → Bool) (cs more : List ℕ) → all_hold f cs ≡ true → stops f more ≡ true → run f (cs ++ more) ≡ length cs
unfolding all_hold
run_found f [] more h s = run_over f more s
run_found f (c ∷ cs) more h s =
    run_on f c (cs ++ more) (and_left (f c) _ h) ∙ ap suc (run_found f cs more (and_right (f c) _ h) s)

-- a text as a front of so many bytes, of which all pass a test, and a rest that cannot continue it
pub record RunThere (f : ℕ → Bool) (cs : List ℕ) : Type 0 where
  pub front : List ℕ
  pub more : List ℕ
  pub holds : all_hold f front ≡ true
  pub ends : stops f more ≡ true
  pub written : front ++ more ≡ cs
  pub size : length front ≡ run f cs

pub run_written : (f : ℕ → Bool) (cs : List ℕ) → RunThere f cs
unfolding run all_hold stops
run_written f [] = record { front = []; more = []; holds = refl; ends = refl; written = refl; size = refl }
run_written f (c ∷ cs) =
    let on : RunThere f cs = run_written f cs in
    by_test
    (f c)
    (λ e. record {
      front = c ∷ on.front;
      more = on.more;
      holds = and_both e on.holds;
      ends = on.ends;
      written = ap (λ (l : List ℕ). c ∷ l) on.written;
      size = rw e (ap suc on.size);
    })
    (λ e. record { front = []; more = c ∷ cs; holds = refl; ends = rw e; written = refl; size = rw e })

-- what a run leaves
pub run_left : {f : ℕ → Bool} {cs : List ℕ} (r : RunThere f cs) → drop (run f cs) cs ≡ r.more
run_left r = rw (← r.size, ← r.written) (drop-append_seam r.front r.more)

-- NAMES
pub name_found : (cs more : List ℕ) → is_name cs ≡ true → stops is_name_char more ≡ true → name_length (cs ++ more) ≡ length cs
unfolding is_name name_length
name_found [] more h s = absurd (false≢true h)
name_found (c ∷ cs) more h s =
    rw (and_left (is_name_start c) _ h, run_found is_name_char cs more (and_right (is_name_start c) _ h) s)

pub record NameThere (cs : List ℕ) : Type 0 where
  pub name : List ℕ
  pub more : List ℕ
  pub right : is_name name ≡ true
  pub ends : stops is_name_char more ≡ true
  pub written : name ++ more ≡ cs
  pub size : length name ≡ name_length cs

pub name_written : (cs : List ℕ) → eqb (name_length cs) 0 ≡ false → NameThere cs
unfolding is_name name_length
name_written [] e = absurd (true≢false e)
name_written (c ∷ cs) e =
    let on : RunThere is_name_char cs = run_written is_name_char cs in
    by_test
    (is_name_start c)
    (λ s. record {
      name = c ∷ on.front;
      more = on.more;
      right = and_both s on.holds;
      ends = on.ends;
      written = ap (λ (l : List ℕ). c ∷ l) on.written;
      size = rw s (ap suc on.size);
    })
    (λ s. absurd (true≢false (rw s at e)))

-- what a name leaves
pub name_left : {cs : List ℕ} (n : NameThere cs) → drop (name_length cs) cs ≡ n.more
name_left n = rw (← n.size, ← n.written) (drop-append_seam n.name n.more)

-- a name is not empty, and begins with no space
pub name_not_empty : (cs : List ℕ) → is_name cs ≡ true → eqb (length cs) 0 ≡ false
unfolding is_name
name_not_empty [] h = absurd (false≢true h)
name_not_empty (c ∷ cs) h = eqb-suc-zero (length cs)

pub name_stops_spaces : (cs more : List ℕ) → is_name cs ≡ true → stops is_space (cs ++ more) ≡ true
unfolding is_name stops
name_stops_spaces [] more h = absurd (false≢true h)
name_stops_spaces (c ∷ cs) more h = rw (start_not_space c (and_left (is_name_start c) _ h))
