use Rattle.std.proofs.Common.{◌≡◌, ◌+◌, refl}
use Rattle.store_types.specs.Replies.{number_of}
use Rattle.store_types.specs.declared.refusal.Refusal.{Refusal}
use Rattle.store_types.specs.declared.refusal.Refusal.TheVariants.{TooFewWords, NotSound, Degree, Kind, Nesting, TooManyTags, OutOfLabels, NoSuchTag, TagMarked, NotASection, ListTooShort, NotASheet, TooDeep, NotRead, NotAFile, TooFewBytes, OutOfRange, NotAllowed, GrantsFull}
use Rattle.store_types.specs.contracts.refusal.Refusal.{the_type}
use Rattle.store_types.proofs.refusal.Refusal.number.Goals as goal

by_place : (r : Refusal) → denote.Enum.Declared.tag_of the_type r + 1 ≡ number_of r
unfolding number_of
by_place TooFewWords = refl
by_place NotSound = refl
by_place Degree = refl
by_place Kind = refl
by_place Nesting = refl
by_place TooManyTags = refl
by_place OutOfLabels = refl
by_place NoSuchTag = refl
by_place TagMarked = refl
by_place NotASection = refl
by_place ListTooShort = refl
by_place NotASheet = refl
by_place TooDeep = refl
by_place NotRead = refl
by_place NotAFile = refl
by_place TooFewBytes = refl
by_place OutOfRange = refl
by_place NotAllowed = refl
by_place GrantsFull = refl

pub returns : goal.returns
returns c = by_place c.args.self
