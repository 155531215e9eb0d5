-- Rights for contractors (document 02, CR 6): grants in a lent list, of which a count says how many in front are live; granting and
-- revoking; and a party's call, which shows a held pair and is allowed by a grant. Assumes nothing: these are definitions.
use Rattle.std.specs.Prelude.{Bool, true, false, ◌&&◌, ◌||◌, not, cond, List, [], ◌∷◌, ℕ, suc, ◌/◌, ◌%◌, leb, eqb, length, take, set, Result, Ok, Err}
use Rattle.lists.specs.Lists.{first, how_many, some_holds, those}
use Rattle.lists.specs.Fronts.{in_front, replied}
use Rattle.store_types.specs.Limits.{most_party, read_right, write_right, insert_right, all_rights}
use Rattle.store_types.specs.declared.Act.{Act}
use Rattle.store_types.specs.declared.Answer.TheVariants.{Yes, No, Stale}
use Rattle.store_types.specs.declared.Grant.{Grant}
use Rattle.calls.specs.Kind.{is_begin}
use Rattle.calls.specs.Store.{Store, fact, count as issued}
use Rattle.calls.specs.Replies.{refusal_over, insert_reply, insert_words, question_reply}
use Rattle.store_types.specs.declared.PartyAnswer.TheVariants as heard
use Rattle.store_types.specs.declared.Loaded.{Loaded}
use Rattle.store_types.specs.declared.Inserted.{Inserted}
use Rattle.store_types.specs.declared.PartyAnswer.{PartyAnswer}
use Rattle.store_types.specs.declared.Answer.{Answer}

-- whether a grant is a party's on a section; and whether it gives one right there, which is 1, 2 or 4 of the rights added up: they are
-- odd when divided by it
unfoldable pub names : (party section : ℕ) → Grant → Bool
names p x g = eqb g.party p && eqb g.section x

unfoldable pub gives : (party section right : ℕ) → Grant → Bool
gives p x q g = names p x g && eqb ((g.rights / q) % 2) 1

-- whether a live grant does
unfoldable pub held : (party section right count : ℕ) → List Grant → Bool
held p x q c gs = some_holds (gives p x q) (take c gs)

-- the live grants but those of a party on a section
unfoldable pub others : (party section count : ℕ) → List Grant → List Grant
others p x c gs = those (λ g. not (names p x g)) (take c gs)

-- 17, before the store is read: a party out of range, rights that do not fit the call, a count above the lent list's length
unfoldable pub range_refusal : (rights_fit : Bool) → (party count room : ℕ) → ℕ
range_refusal t p c room = cond ((leb 1 p && leb p most_party) && (t && leb c room)) 0 17

-- GRANT: then 1, 2, 8, 9, 10 (an end, and a text too), and 19 where the list is full
unfoldable pub grant_tests : (section count room : ℕ) → Store → List (Bool × ℕ)
grant_tests x c room st =
    (leb (issued st) x, 8)
    ∷ ((fact st x).marked, 9)
    ∷ (not (is_begin (fact st x).kind), 10)
    ∷ (leb room c, 19)
    ∷ []

unfoldable pub grant_refused : (party section rights count room : ℕ) → (words : List ℕ) → ℕ
grant_refused p x q c room ws =
    replied (λ k. k) (range_refusal (leb 1 q && leb q all_rights) p c room) (refusal_over ws (λ st. first (grant_tests x c room st) 0))

-- the record goes to the place behind the live ones, and the new count is replied; the store is not written
unfoldable pub grant_reply : (party section rights count : ℕ) → List Grant → (words : List ℕ) → Result ℕ ℕ
grant_reply p x q c gs ws = replied Err (grant_refused p x q c (length gs) ws) (Ok (suc c))

unfoldable pub grant_count : (party section rights count : ℕ) → List Grant → (words : List ℕ) → ℕ
grant_count p x q c gs ws = replied (λ _. c) (grant_refused p x q c (length gs) ws) (suc c)

unfoldable pub grant_list : (party section rights count : ℕ) → List Grant → (words : List ℕ) → List Grant
grant_list p x q c gs ws =
    replied (λ _. gs) (grant_refused p x q c (length gs) ws) (set gs c (record { party = p; section = x; rights = q }))

-- REVOKE meets 17 alone, and looks at no store: the others move up in order, and records from the new count on stay
unfoldable pub revoke_refused : (party count room : ℕ) → ℕ
revoke_refused p c room = range_refusal true p c room

unfoldable pub revoke_reply : (party section count : ℕ) → List Grant → Result ℕ ℕ
revoke_reply p x c gs = replied Err (revoke_refused p c (length gs)) (Ok (how_many (names p x) (take c gs)))

unfoldable pub revoke_count : (party section count : ℕ) → List Grant → ℕ
revoke_count p x c gs = replied (λ _. c) (revoke_refused p c (length gs)) (length (others p x c gs))

unfoldable pub revoke_list : (party section count : ℕ) → List Grant → List Grant
revoke_list p x c gs = replied (λ _. gs) (revoke_refused p c (length gs)) (in_front (others p x c gs) gs)

-- what an accepted load, or the reading of a file, sets to 0: the count of grants, and the total of moved numbers
unfoldable pub emptied_by : Result Loaded ℕ → (total : ℕ) → ℕ
emptied_by (Ok l) t = 0
emptied_by (Err k) t = t

-- A PARTY'S CALL, where `granted` says whether a live grant gives it the right on the pair's section. It is allowed where the
-- question says yes; an insertion also right behind the section's begin, where it says no
unfoldable pub is_allowed : (granted : Bool) → Act → Result Answer ℕ → Bool
is_allowed t a (Err k) = false
is_allowed t a (Ok Yes) = t
is_allowed t a (Ok No) = t && (eqb a.right insert_right && eqb a.tag.0 a.pair.tag.0)
is_allowed t a (Ok Stale) = false

-- what is not allowed gets the question's refusal, stale, or 18: never a no
unfoldable pub turned_away : Result Answer ℕ → Result PartyAnswer ℕ
turned_away (Err k) = Err k
turned_away (Ok Yes) = Err 18
turned_away (Ok No) = Err 18
turned_away (Ok Stale) = Ok heard.Stale

-- what is allowed: with the right to insert the insertion behind the tag, as it replies; else yes
unfoldable pub inserted_reply : Result Inserted ℕ → Result PartyAnswer ℕ
inserted_reply (Ok i) = Ok (heard.Inserted i)
inserted_reply (Err k) = Err k

unfoldable pub allowed_reply : Act → (words : List ℕ) → Result PartyAnswer ℕ
allowed_reply a ws = cond (eqb a.right insert_right) (inserted_reply (insert_reply a.kind a.tag.0 ws)) (Ok heard.Yes)

unfoldable pub allowed_words : Act → (words : List ℕ) → List ℕ
allowed_words a ws = cond (eqb a.right insert_right) (insert_words a.kind a.tag.0 ws) ws

unfoldable pub act_reply : (granted : Bool) → Act → (words : List ℕ) → Result PartyAnswer ℕ
act_reply t a ws =
    let q = question_reply a.pair a.tag.0 ws in cond (is_allowed t a q) (allowed_reply a ws) (turned_away q)

unfoldable pub act_words : (granted : Bool) → Act → (words : List ℕ) → List ℕ
act_words t a ws = cond (is_allowed t a (question_reply a.pair a.tag.0 ws)) (allowed_words a ws) ws

-- the whole call; 17 also where the right is none of the three
unfoldable pub is_right : ℕ → Bool
is_right q = eqb q read_right || (eqb q write_right || eqb q insert_right)

unfoldable pub party_refused : (party : ℕ) → Act → (count room : ℕ) → ℕ
party_refused p a c room = range_refusal (is_right a.right) p c room

unfoldable pub party_reply : (party : ℕ) → Act → (count : ℕ) → List Grant → (words : List ℕ) → Result PartyAnswer ℕ
party_reply p a c gs ws =
    replied Err (party_refused p a c (length gs)) (act_reply (held p a.pair.tag.0 a.right c gs) a ws)

unfoldable pub party_words : (party : ℕ) → Act → (count : ℕ) → List Grant → (words : List ℕ) → List ℕ
party_words p a c gs ws =
    replied (λ _. ws) (party_refused p a c (length gs)) (act_words (held p a.pair.tag.0 a.right c gs) a ws)

-- THE NUMBERS OF A REPLY: 0 (ok) and its values, or the refusal alone; a party's begins with 1 yes, 2 stale, 3 inserted
unfoldable pub party_numbers : Result PartyAnswer ℕ → List ℕ
party_numbers (Ok heard.Yes) = 0 ∷ 1 ∷ []
party_numbers (Ok heard.Stale) = 0 ∷ 2 ∷ []
party_numbers (Ok (heard.Inserted i)) = 0 ∷ 3 ∷ i.first.0 ∷ i.moved ∷ i.split ∷ []
party_numbers (Err k) = k ∷ []
