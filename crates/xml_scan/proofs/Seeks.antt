-- Scans up to something: what is found from each place on is what is found from where the scan began. Assumes nothing.
use mathlib.Core.Path.{◌≡◌, refl, sym, ◌∙◌}
use mathlib.Core.Bool.{Bool, true}
use mathlib.Core.List.{List}
use mathlib.Core.Option.{Option, none, some}
use Prim.Native.Nat.{ℕ, zero, suc, ◌+◌, ◌≤◌, ◌<◌}
use native.Mathlib.Omega.{arith}
use Rattle.std.specs.Prelude.{Some, None}
use lib.ListN.{length, get_or, drop}
use Rattle.xml.specs.Scan.{run, later}
use Rattle.xml_scan.specs.Post.{found}
use Rattle.xml_scan.proofs.RunSteps.{run_within, run_first, run_rest}

-- A SCAN that gives its answer on the text from a place on: at place i, where it began at from
pub record Seeking (scan : List ℕ → Option ℕ) (text : List ℕ) (from i : ℕ) : Type 0 where
  pub within : i ≤ length text
  pub rest : found i (scan (drop i text)) ≡ found from (scan (drop from text))

pub seeking_start : (scan : List ℕ → Option ℕ) (text : List ℕ) (from : ℕ) → from ≤ length text → Seeking scan text from from
seeking_start f text from l = record { within = l; rest = refl }

-- what is found a byte later
pub found_later : (i : ℕ) (o : Option ℕ) → found i (later o) ≡ found (i + 1) o
unfolding found later
found_later i none = refl
found_later i (some n) = let e : i + suc n ≡ i + 1 + n = omega arith in rw e

-- what was found, taken apart
pub found_none : (a : ℕ) (o : Option ℕ) → None ≡ found a o → o ≡ none
unfolding found
found_none a none e = refl
found_none a (some n) e = cc

pub found_some : (a i : ℕ) (o : Option ℕ) → Some i ≡ found a o → (n : ℕ) × (o ≡ some n) × (i ≡ a + n)
unfolding found
found_some a i none e = cc
found_some a i (some n) e = (n, refl, cc)

module _ {scan : List ℕ → Option ℕ} {text : List ℕ} {from i : ℕ} (h : Seeking scan text from i) where
  -- the answer is here
  pub seeking_at : scan (drop i text) ≡ some 0 → Some i ≡ found from (scan (drop from text))
  unfolding found
  seeking_at e = let z : i + 0 ≡ i = omega arith in sym (rw (e, z)) ∙ h.rest

  pub seeking_none : scan (drop i text) ≡ none → None ≡ found from (scan (drop from text))
  unfolding found
  seeking_none e = rw e at h.rest

  -- it is a byte further on
  pub seeking_on : i < length text → scan (drop i text) ≡ later (scan (drop (i + 1) text)) → Seeking scan text from (i + 1)
  seeking_on l e = record { within = omega arith; rest = sym (found_later i _) ∙ (rw e at h.rest) }

-- IT IS BEHIND A RUN of bytes, where it is behind each byte that passes the run's test
module _ {scan : List ℕ → Option ℕ} {text : List ℕ} {from : ℕ} (test : ℕ → Bool)
    (on : (i : ℕ) → i < length text → test (get_or text i 0) ≡ true → scan (drop i text) ≡ later (scan (drop (i + 1) text))) where
  seeking_bytes : (n i : ℕ) → Seeking scan text from i → run test (drop i text) ≡ n → Seeking scan text from (i + n)
  seeking_bytes zero i h e = let z : i + 0 ≡ i = omega arith in rw z h
  seeking_bytes (suc n) i h e =
      let z : i + suc n ≡ i + 1 + n = omega arith in
      let l = run_within test text i n e in
      rw z (seeking_bytes n (i + 1) (seeking_on h l (on i l (run_first test text i n e))) (run_rest test text i n e))

  pub seeking_run : (i : ℕ) → Seeking scan text from i → Seeking scan text from (i + run test (drop i text))
  seeking_run i h = seeking_bytes (run test (drop i text)) i h refl
