-- What a history of calls tells beside what it leaves: the changes that the reference list is fed, with whether each was accepted, and
-- the total of moved numbers (document 01, "The bare list"; document 02, CR 4 to 6). Assumes nothing: these are definitions.
use Rattle.std.specs.Prelude.{◌≡◌, Bool, true, false, cond, List, [], ◌∷◌, ◌++◌, ℕ, ◌+◌, Result, Ok, Err}
use Rattle.calls.specs.Rights.{emptied_by}
use Rattle.calls.specs.Changes.{load, insert, Told}
use Rattle.system.specs.System.{System, Call, changes, reads, keeps, acts, restores, load_with_grants, restore_with_grants, Reply, loaded, inserted, marked, found, kept, acted, accepted, reply, step}
use Rattle.store_types.specs.declared.PartyAnswer.TheVariants as heard
use Rattle.store_types.specs.Replies.{insert_made}
use Rattle.store_types.specs.declared.Inserted.{Inserted}
use Rattle.store_types.specs.declared.PartyAnswer.{PartyAnswer}

-- whether a party's call inserted
unfoldable pub party_inserted : Result PartyAnswer ℕ → Bool
party_inserted (Ok heard.Yes) = false
party_inserted (Ok heard.Stale) = false
party_inserted (Ok (heard.Inserted i)) = true
party_inserted (Err k) = false

unfoldable pub acted_in : Reply → Bool
acted_in (loaded q) = false
acted_in (inserted q) = false
acted_in (marked q) = false
acted_in (found q ls) = false
acted_in (kept q) = false
acted_in (acted q) = party_inserted q

-- FED: a change, and of its reply only whether it was accepted; a party's call where it inserted
unfoldable pub told_of : Call → Reply → List Told
told_of (changes c) q = (c, accepted q) ∷ []
told_of (reads r) q = []
told_of (keeps k) q = []
told_of (acts p a) q = cond (acted_in q) ((insert a.kind a.tag.0, true) ∷ []) []
told_of (restores bs) q = []
told_of (load_with_grants s r b cs) q = (load s r b cs, accepted q) ∷ []
told_of (restore_with_grants bs) q = []

unfoldable pub told : List Call → System → List Told
told [] y = []
told (c ∷ cs) y = told_of c (reply c y) ++ told cs (step c y)

-- T: the moved numbers that accepted insertions, of sheets and by parties too, replied since the last accepted load
unfoldable pub total_after_insert : Result Inserted ℕ → (total : ℕ) → ℕ
total_after_insert (Ok i) t = t + i.moved
total_after_insert (Err k) t = t

unfoldable pub total_after_act : Result PartyAnswer ℕ → (total : ℕ) → ℕ
total_after_act (Ok heard.Yes) t = t
total_after_act (Ok heard.Stale) t = t
total_after_act (Ok (heard.Inserted i)) t = t + i.moved
total_after_act (Err k) t = t

unfoldable pub total_after : Reply → (total : ℕ) → ℕ
total_after (loaded q) t = emptied_by q t
total_after (inserted q) t = total_after_insert q t
total_after (marked q) t = t
total_after (found q ls) t = t
total_after (kept q) t = t
total_after (acted q) t = total_after_act q t

unfoldable pub total_moved : (total : ℕ) → List Reply → ℕ
total_moved t [] = t
total_moved t (q ∷ qs) = total_moved (total_after q t) qs

-- NO FILE READ is accepted in a history: what it would put in place of the book no list of changes tells
unfoldable pub is_restored : Call → Reply → Bool
is_restored (changes c) q = false
is_restored (reads r) q = false
is_restored (keeps k) q = false
is_restored (acts p a) q = false
is_restored (restores bs) q = accepted q
is_restored (load_with_grants s r b cs) q = false
is_restored (restore_with_grants bs) q = accepted q

unfoldable pub NoneRestored : List Call → System → Type 0
NoneRestored [] y = Unit {0}
NoneRestored (c ∷ cs) y = (is_restored c (reply c y) ≡ false) × NoneRestored cs (step c y)
