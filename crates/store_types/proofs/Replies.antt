-- A refusal has a number of its own, which is not 0. So an equation with numbers says which refusal a reply has.
use mathlib.Core.Bool.{true≢false}
use Rattle.std.proofs.Common.{◌≡◌, Bool, false, ℕ, refl, sym, ◌∙◌, ap, List, [], ◌∷◌, get_or}
use Rattle.std.specs.Prelude.{Result, Ok, Err, eqb, pred}
use Rattle.store_types.specs.declared.Loaded.{Loaded}
use Rattle.store_types.specs.declared.Inserted.{Inserted}
use Rattle.store_types.specs.declared.TagId.{TagId}
use Rattle.store_types.specs.Replies.{load_made, insert_made, number_of, numbered, refusal_in}
use Rattle.store_types.specs.declared.refusal.Refusal.{Refusal}
use Rattle.store_types.specs.declared.refusal.Refusal.TheVariants.{TooFewWords, NotSound, Degree, Kind, Nesting, TooManyTags, OutOfLabels, NoSuchTag, TagMarked, NotASection, ListTooShort, NotASheet, TooDeep, NotRead, NotAFile, TooFewBytes, OutOfRange, NotAllowed, GrantsFull}

-- the refusal that has a number
of_number : ℕ → Refusal
of_number k =
    get_or
    (TooFewWords ∷ NotSound ∷ Degree ∷ Kind ∷ Nesting ∷ TooManyTags ∷ OutOfLabels ∷ NoSuchTag ∷ TagMarked ∷ NotASection ∷ ListTooShort ∷ NotASheet ∷ TooDeep ∷ NotRead ∷ NotAFile ∷ TooFewBytes ∷ OutOfRange ∷ NotAllowed ∷ [])
    (pred k) GrantsFull

back : (r : Refusal) → of_number (number_of r) ≡ r
unfolding number_of of_number
back TooFewWords = refl
back NotSound = refl
back Degree = refl
back Kind = refl
back Nesting = refl
back TooManyTags = refl
back OutOfLabels = refl
back NoSuchTag = refl
back TagMarked = refl
back NotASection = refl
back ListTooShort = refl
back NotASheet = refl
back TooDeep = refl
back NotRead = refl
back NotAFile = refl
back TooFewBytes = refl
back OutOfRange = refl
back NotAllowed = refl
back GrantsFull = refl

pub one_number : (r q : Refusal) → number_of r ≡ number_of q → r ≡ q
one_number r q e = sym (back r) ∙ (ap of_number e ∙ back q)

counted : (r : Refusal) → eqb (number_of r) 0 ≡ false
unfolding number_of
counted TooFewWords = refl
counted NotSound = refl
counted Degree = refl
counted Kind = refl
counted Nesting = refl
counted TooManyTags = refl
counted OutOfLabels = refl
counted NoSuchTag = refl
counted TagMarked = refl
counted NotASection = refl
counted ListTooShort = refl
counted NotASheet = refl
counted TooDeep = refl
counted NotRead = refl
counted NotAFile = refl
counted TooFewBytes = refl
counted OutOfRange = refl
counted NotAllowed = refl
counted GrantsFull = refl

pub some_number : (r : Refusal) → number_of r ≡ 0 → ⊥
some_number r e = let z : eqb 0 0 ≡ false = rw e at (counted r) in absurd (true≢false z)

-- and so a reply is the one that its numbers say
pub one_reply : {A : Type 0} (p q : Result A Refusal) → numbered p ≡ numbered q → p ≡ q
unfolding numbered
one_reply (Ok a) (Ok b) e = cc
one_reply (Ok a) (Err q) e = cc
one_reply (Err r) (Ok b) e = cc
one_reply (Err r) (Err q) e = let same : number_of r ≡ number_of q = cc in rw (one_number r q same)

-- equal answers have equal parts
pub same_load : {n h m k : ℕ} → load_made n h ≡ load_made m k → (n ≡ m) × (h ≡ k)
same_load e = (ap (λ (l : Loaded). l.tags) e, ap (λ (l : Loaded). l.height) e)

pub same_insert : {x y : TagId} {m h m' h' : ℕ} → insert_made x m h ≡ insert_made y m' h' → (x ≡ y) × (m ≡ m') × (h ≡ h')
same_insert e = (ap (λ (i : Inserted). i.first) e, ap (λ (i : Inserted). i.moved) e, ap (λ (i : Inserted). i.split) e)
