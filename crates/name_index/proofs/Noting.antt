-- Places that are noted one after the other: none, and one more. Assumes nothing.
use mathlib.Core.Path.{◌≡◌, refl, ◌∙◌}
use mathlib.Core.List.{List, [], ◌∷◌, ◌++◌, map-append}
use mathlib.Core.Logic.{by_cases}
use Prim.Native.Nat.{ℕ, suc, ◌≤◌, ◌<◌}
use native.Mathlib.Omega.{arith}
use native.Mathlib.Decide.{ℕ_discrete}
use native.Mathlib.Numerals.{add-one}
use lib.ListN.{length, get_or, set, take, length-append}
use lib.Seq.{get_or-set_same, get_or-set_other, take-suc-set}
use Rattle.xml_scan.specs.Post.{name_from}
use Rattle.name_index.specs.Index.{places, names_at, Noted}

pub noted_none : (text ss : List ℕ) → Noted text ss []
unfolding names_at
noted_none text ss = record { begun = record { room = omega arith; within = λ i l. absurd (omega arith) }; names = refl }

module _ {text ss : List ℕ} {row : List (List ℕ)} {b : ℕ} (noted : Noted text ss row) (size : length ss ≡ places) (free : length row < places)
    (inside : b ≤ length text) where
  within_more : (i : ℕ) → i < suc (length row) → get_or (set ss (length row) b) i 0 ≤ length text
  within_more i l =
      by_cases
      (ℕ_discrete i (length row))
      (λ q. rw (q, get_or-set_same ss (length row) b 0 (omega arith)) inside)
      (λ q. rw (get_or-set_other ss (length row) i b 0 q) (noted.begun.within i (omega arith)))

  names_more : names_at text (set ss (length row) b) (suc (length row)) ≡ row ++ (name_from text b ∷ [])
  unfolding names_at
  names_more =
      rw (take-suc-set ss (length row) b (omega arith), map-append (name_from text) (take (length row) ss) (b ∷ []), noted.names)

  one_more : length (row ++ (name_from text b ∷ [])) ≡ suc (length row)
  one_more = length-append row (name_from text b ∷ []) ∙ add-one (length row)

  pub noted_more : Noted text (set ss (length row) b) (row ++ (name_from text b ∷ []))
  noted_more = record { begun = record { room = rw one_more (omega arith); within = rw one_more within_more }; names = rw one_more names_more }
