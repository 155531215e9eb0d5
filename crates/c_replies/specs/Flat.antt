-- A reply as a C struct: the papers' numbers of the reply in their order, the refusal (0 where the call is accepted)
-- first, and 0 in every field after them; and a held pair from its four words. Assumes nothing: these are definitions.
use Rattle.std.specs.Prelude.{cond, List, ℕ, ◌-◌, eqb, get_or, Result}
use Rattle.store_types.specs.Replies.{count_numbers}
use Rattle.store_types.specs.declared.Act.{Act}
use Rattle.store_types.specs.declared.HeldPair.{HeldPair}
use Rattle.store_types.specs.declared.Answer.{Answer}
use Rattle.store_types.specs.declared.PartyAnswer.{PartyAnswer}
use Rattle.store_types.specs.declared.Loaded.{Loaded as loaded}
use Rattle.store_types.specs.declared.Inserted.{Inserted as inserted}
use Rattle.calls.specs.Replies.{load_numbers, insert_numbers, hold_numbers, question_numbers}
use Rattle.calls.specs.Rights.{party_numbers}
use Rattle.c_replies.specs.declared.Loaded.{Loaded}
use Rattle.c_replies.specs.declared.Inserted.{Inserted}
use Rattle.c_replies.specs.declared.Held.{Held}
use Rattle.c_replies.specs.declared.Answered.{Answered}
use Rattle.c_replies.specs.declared.Counted.{Counted}
use Rattle.c_replies.specs.declared.CountedPlaces.{CountedPlaces}
use Rattle.c_replies.specs.declared.Party.{Party}

-- number i of a reply, from 0; 0 where it has no more
abbrev pub nth : ℕ → List ℕ → ℕ
nth i ns = get_or ns i 0

unfoldable pub c_loaded : Result loaded ℕ → Loaded
c_loaded q = let ns = load_numbers q in record { refusal = nth 0 ns; tags = nth 1 ns; height = nth 2 ns }

unfoldable pub c_inserted : Result inserted ℕ → Inserted
c_inserted q =
    let ns = insert_numbers q in
    record { refusal = nth 0 ns; first = nth 1 ns; moved = nth 2 ns; split = nth 3 ns }

unfoldable pub c_held : Result HeldPair ℕ → Held
c_held q =
    let ns = hold_numbers q in
    record { refusal = nth 0 ns; book = nth 1 ns; tag = nth 2 ns; start = nth 3 ns; end = nth 4 ns }

unfoldable pub c_answered : Result Answer ℕ → Answered
c_answered q = let ns = question_numbers q in record { refusal = nth 0 ns; answer = nth 1 ns }

unfoldable pub c_counted : Result ℕ ℕ → Counted
c_counted q = let ns = count_numbers q in record { refusal = nth 0 ns; count = nth 1 ns }

unfoldable pub c_places : Result ℕ ℕ → CountedPlaces
c_places q = let ns = count_numbers q in record { refusal = nth 0 ns; places = nth 1 ns }

unfoldable pub c_party : Result PartyAnswer ℕ → Party
c_party q =
    let ns = party_numbers q in
    record { refusal = nth 0 ns; answer = nth 1 ns; first = nth 2 ns; moved = nth 3 ns; split = nth 4 ns }

-- the pair that a caller shows
abbrev pub pair_of : (book tag start end : ℕ) → HeldPair
pair_of b x l m = record { book = b; tag = record { 0 = x }; start = record { 0 = l }; end = record { 0 = m } }

-- what a party asks for
abbrev pub act_of : (book tag start end d right kind : ℕ) → Act
act_of b x l m d q k = record { pair = pair_of b x l m; tag = record { 0 = d }; right = q; kind = k }

-- where a granted record goes: the place in front of the new count, and none of a list of that length where there is no new count
unfoldable pub place_for : CountedPlaces → (room : ℕ) → ℕ
place_for g room = cond (eqb g.places 0) room (g.places - 1)
