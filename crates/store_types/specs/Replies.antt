-- Replies by numbers, in which all definitions and promises speak (documents 01 and 02): an answer, or the number of a refusal.
-- Assumes nothing: these are definitions.
use Rattle.std.specs.Prelude.{List, [], ◌∷◌, ℕ, Result, Ok, Err}
use Rattle.store_types.specs.declared.Inserted.{Inserted}
use Rattle.store_types.specs.declared.Loaded.{Loaded}
use Rattle.store_types.specs.declared.TagId.{TagId}
use Rattle.store_types.specs.declared.refusal.Refusal.{Refusal}
use Rattle.store_types.specs.declared.refusal.Refusal.TheVariants.{TooFewWords, NotSound, Degree, Kind, Nesting, TooManyTags, OutOfLabels, NoSuchTag, TagMarked, NotASection, ListTooShort, NotASheet, TooDeep, NotRead, NotAFile, TooFewBytes, OutOfRange, NotAllowed, GrantsFull}

unfoldable pub number_of : Refusal → ℕ
number_of TooFewWords = 1
number_of NotSound = 2
number_of Degree = 3
number_of Kind = 4
number_of Nesting = 5
number_of TooManyTags = 6
number_of OutOfLabels = 7
number_of NoSuchTag = 8
number_of TagMarked = 9
number_of NotASection = 10
number_of ListTooShort = 11
number_of NotASheet = 12
number_of TooDeep = 13
number_of NotRead = 14
number_of NotAFile = 15
number_of TooFewBytes = 16
number_of OutOfRange = 17
number_of NotAllowed = 18
number_of GrantsFull = 19

-- a reply with its refusal's number
unfoldable pub numbered : {A : Type 0} → Result A Refusal → Result A ℕ
numbered (Ok a) = Ok a
numbered (Err r) = Err (number_of r)

-- the number of the refusal in a reply, 0 where there is none
unfoldable pub refusal_in : {A : Type 0} → Result A Refusal → ℕ
refusal_in (Ok a) = 0
refusal_in (Err r) = number_of r

-- what an accepted load and an accepted insertion answer
abbrev pub load_made : (tags height : ℕ) → Loaded
load_made n h = record { tags = n; height = h }

abbrev pub insert_made : (first : TagId) → (moved split : ℕ) → Inserted
insert_made x m h = record { first = x; moved = m; split = h }

-- THE NUMBERS OF A REPLY, as the documents give them: 0 (ok) and its values, or the refusal alone. Here of a reply of one number
unfoldable pub count_numbers : Result ℕ ℕ → List ℕ
count_numbers (Ok n) = 0 ∷ n ∷ []
count_numbers (Err k) = k ∷ []
