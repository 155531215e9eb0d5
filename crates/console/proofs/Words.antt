-- What a line's words say, by the tests that the code makes. Assumes nothing.
use mathlib.Core.Path.{◌≡◌, refl, ap, sym, ◌∙◌}
use mathlib.Core.Bool.{Bool, true, false, cond}
use mathlib.Core.List.{List, [], ◌∷◌}
use Rattle.std.specs.Prelude.{Option, Some, None}
use Prim.Native.Nat.{ℕ, ◌≤◌, ◌<◌}
use borrow.Author.Tests.{lt-ltb, le-ltb}
use lib.Dec.{eqb}
use lib.Pointwise.{pointwise}
use lib.ListN.{length, take}
use Rattle.store_types.specs.Limits.{no_tag}
use Rattle.lists.specs.Lists.{same}
use Rattle.console_fields.specs.Field.{number_of}
use Rattle.console_fields.proofs.Scans.{pointwise_same}
use Rattle.console.specs.Line.{Parsed, fields, parsed, line_limit, load_word, number_or_front, insert_of, mark_of, command_of, unknown, plain, list_word, element_word, text_word, mark_word, front_word}
use Rattle.console.specs.Post.{Gives}
use Rattle.console.specs.declared.Command.{Command}
use Rattle.console.specs.declared.Command.TheVariants.{Insert, Mark, List as ListAll}

-- A COMMAND with its kinds, and one that has none
pub gives_kinds : {p : Parsed} {c : Option Command} {xs ks : List ℕ} → p ≡ record { command = c; kinds = xs } → take (length xs) ks ≡ xs → Gives p c ks
gives_kinds e w = record { command = sym (ap (λ q. q.command) e); written = rw e w }

pub gives_plain : {p : Parsed} {c : Option Command} {ks : List ℕ} → p ≡ record { command = c; kinds = [] } → Gives p c ks
gives_plain e = gives_kinds e refl

-- WORDS as the code compares them
pub word_told : (w v : List ℕ) → pointwise eqb w v ≡ same w v
word_told w v = pointwise_same w v

pub word_is : (w : List ℕ) {t : Bool} {v word : List ℕ} → t ≡ pointwise eqb w v → v ≡ word → same w word ≡ t
word_is w {v = v} e f = rw (← f) (sym (e ∙ pointwise_same w v))

-- PLACES
pub place_front : (cs : List ℕ) → same cs front_word ≡ true → number_or_front cs ≡ Some no_tag
unfolding number_or_front
place_front cs e = rw e

pub place_number : (cs : List ℕ) → same cs front_word ≡ false → number_or_front cs ≡ number_of cs
unfolding number_or_front
place_number cs e = rw e

pub ruleset place_cases = (word_told, place_front, place_number)

-- ONE FIELD
pub one_list : (w : List ℕ) → same w list_word ≡ true → command_of (w ∷ []) ≡ plain ListAll
unfolding command_of
one_list w e = rw e

pub one_other : (w : List ℕ) → same w list_word ≡ false → command_of (w ∷ []) ≡ unknown
unfolding command_of
one_other w e = rw e

pub ruleset one_cases = (word_told, one_list, one_other)

pub one_kinds : (w : List ℕ) → (command_of (w ∷ [])).kinds ≡ []
unfolding command_of
one_kinds w = go (same w list_word)
  where
    go : (t : Bool) → (cond t (plain ListAll) unknown).kinds ≡ []
    go true = refl
    go false = refl

-- TWO FIELDS
pub two_none : (w a : List ℕ) → number_or_front a ≡ None → command_of (w ∷ a ∷ []) ≡ unknown
unfolding command_of insert_of mark_of
two_none w a e = rw e (go (same w element_word) (same w text_word) (same w mark_word))
  where
    go : (t u v : Bool) → cond t unknown (cond u unknown (cond v unknown unknown)) ≡ unknown
    go true u v = refl
    go false true v = refl
    go false false true = refl
    go false false false = refl

module _ (w a : List ℕ) (y : ℕ) (p : number_or_front a ≡ Some y) where
  pub two_element : same w element_word ≡ true → command_of (w ∷ a ∷ []) ≡ plain (Insert 1 (record { 0 = y }))
  unfolding command_of insert_of
  two_element e = rw (p, e)

  pub two_text : same w element_word ≡ false → same w text_word ≡ true → command_of (w ∷ a ∷ []) ≡ plain (Insert 3 (record { 0 = y }))
  unfolding command_of insert_of
  two_text e f = rw (p, e, f)

  pub two_mark : same w element_word ≡ false → same w text_word ≡ false → same w mark_word ≡ true → command_of (w ∷ a ∷ []) ≡ plain (Mark (record { 0 = y }))
  unfolding command_of mark_of
  two_mark e f g = rw (p, e, f, g)

pub two_other : (w a : List ℕ) → same w element_word ≡ false → same w text_word ≡ false → same w mark_word ≡ false → command_of (w ∷ a ∷ []) ≡ unknown
unfolding command_of
two_other w a e f g = rw (e, f, g)

pub ruleset two_cases = (word_told, two_none, two_element, two_text, two_mark, two_other)

insert_kinds : (k : ℕ) (o : Option ℕ) → (insert_of k o).kinds ≡ []
unfolding insert_of
insert_kinds k None = refl
insert_kinds k (Some y) = refl

mark_kinds : (o : Option ℕ) → (mark_of o).kinds ≡ []
unfolding mark_of
mark_kinds None = refl
mark_kinds (Some y) = refl

pub two_kinds : (w a : List ℕ) → (command_of (w ∷ a ∷ [])).kinds ≡ []
unfolding command_of
two_kinds w a = go (same w element_word) (same w text_word) (same w mark_word) (number_or_front a)
  where
    go : (t u v : Bool) (o : Option ℕ) → (cond t (insert_of 1 o) (cond u (insert_of 3 o) (cond v (mark_of o) unknown))).kinds ≡ []
    go true u v o = insert_kinds 1 o
    go false true v o = insert_kinds 3 o
    go false false true o = mark_kinds o
    go false false false o = refl

-- LINES
-- more fields than two say something only of a load
pub not_load : (w a : List ℕ) (fs : List (List ℕ)) (b : List ℕ) (gs : List (List ℕ)) → same w load_word ≡ false → fs ≡ b ∷ gs → command_of (w ∷ a ∷ fs) ≡ unknown
unfolding command_of
not_load w a fs b gs n e = rw e (go gs)
  where
    go : (gs : List (List ℕ)) → command_of (w ∷ a ∷ b ∷ gs) ≡ unknown
    go [] = refl
    go (c ∷ []) = rw n
    go (c ∷ d ∷ []) = rw n
    go (c ∷ d ∷ e ∷ gs) = refl

pub parsed_long : (cs : List ℕ) → line_limit < length cs → parsed cs ≡ unknown
unfolding parsed
parsed_long cs l = rw (lt-ltb line_limit (length cs) l)

pub parsed_short : (cs : List ℕ) → length cs ≤ line_limit → parsed cs ≡ command_of (fields cs)
unfolding parsed
parsed_short cs l = rw (le-ltb line_limit (length cs) l)
