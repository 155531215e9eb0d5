-- What is promised of rights (document 02, CR 6). Each statement is a type; docs/THEOREMS.md names its proof. Assumes nothing.
use Rattle.std.specs.Prelude.{◌≡◌, Bool, true, false, not, List, [], ◌∷◌, ◌++◌, ◌↔◌, ◌⊎◌, ℕ, ◌+◌, ◌≤◌, ◌<◌, eqb, length, Result, Ok, Err}
use Rattle.lists.specs.Lists.{first, some_holds, those}
use Rattle.store_types.specs.Limits.{insert_right}
use Rattle.store_types.specs.declared.Act.{Act}
use Rattle.store_types.specs.declared.Grant.{Grant}
use Rattle.tree.specs.Book.{height}
use Rattle.calls.specs.Store.{Store, fact, count, height_fits}
use Rattle.calls.specs.Insert.{insert_kinds, labels_end, room_tests}
use Rattle.calls.specs.Words.{Says}
use Rattle.calls.specs.Rights.{names, gives, party_refused, party_reply, party_words}
use Rattle.calls.specs.Promise.{Encloses, Current, Asked}
use Rattle.system.specs.System.{System, live, grant, revoke, Call, keeps, acts, load_with_grants, restore_with_grants, granted, revoked, kept, accepted, reply, step}
use Rattle.system.specs.Histories.{Entry, with_extras, without, afterwards, replies, shared_replies, AllPowerless}
use Rattle.store_types.specs.declared.PartyAnswer.TheVariants as heard
use Rattle.store_types.specs.Replies.{insert_made}
use Rattle.store_types.specs.declared.PartyAnswer.{PartyAnswer}

-- TWO HISTORIES. A call of a party of which no live grant speaks
pub record Powerless (c : Call) (y : System) : Type 0 where
  pub party : ℕ
  pub asks_for : Act
  pub call_is : c ≡ acts party asks_for
  pub no_grant : some_holds (λ g. eqb g.party party) (live y) ≡ false

-- with any number of such calls, by any number of parties, the system ends the same, and so are the replies to all other calls
pub record Alike (es : List (Entry Call)) (y : System) : Type 0 where
  pub systems : afterwards step (with_extras es) y ≡ afterwards step (without es) y
  pub same_replies : shared_replies step reply es y ≡ replies step reply (without es) y

unfoldable pub Isolation : Type 0
Isolation = (y : System) (es : List (Entry Call)) → AllPowerless step Powerless es y → Alike es y

-- A PARTY'S CALL is allowed: it replies yes or an insertion. A stale pair is no refusal, and not allowed
unfoldable pub was_allowed : Result PartyAnswer ℕ → Bool
was_allowed (Ok heard.Yes) = true
was_allowed (Ok (heard.Inserted i)) = true
was_allowed (Ok heard.Stale) = false
was_allowed (Err k) = false

-- a live grant that gives a party a right on a section
pub record Given (p x q c : ℕ) (gs : List Grant) : Type 0 where
  pub before : List Grant
  pub grant : Grant
  pub behind : List Grant
  pub stands : gs ≡ before ++ (grant ∷ behind)
  pub lives : length before < c
  pub right : gives p x q grant ≡ true

-- neither 4 nor 6 nor 7 of an insertion is met
pub record Insertable (kind lent : ℕ) (st : Store) : Type 0 where
  pub fits : (kind ≡ 1) ⊎ (kind ≡ 3)
  pub room :
      let k = length (insert_kinds kind) in
      first (room_tests lent k (labels_end (height_fits st) st.book.s st.book.r k (count st) (height st.book)) st) 0 ≡ 0

-- if and only if 17 is not met, the words say a store, the pair may be asked and is current, the tag is unmarked, such a grant is
-- live, and the section encloses the tag; or the right is to insert and the tag is its begin. And with that right the tags fit
pub record Allowed (p : ℕ) (a : Act) (c : ℕ) (gs : List Grant) (ws : List ℕ) : Type 0 where
  pub in_range : party_refused p a c (length gs) ≡ 0
  pub store : Store
  pub says : Says ws store
  pub asked : Asked a.pair a.tag.0 store
  pub current : Current a.pair store
  pub unmarked : (fact store a.tag.0).marked ≡ false
  pub given : Given p a.pair.tag.0 a.right c gs
  pub inside : Encloses store a.pair.tag.0 a.tag.0 ⊎ ((a.right ≡ insert_right) × (a.tag.0 ≡ a.pair.tag.0))
  pub insertable : a.right ≡ insert_right → Insertable a.kind (length ws) store

unfoldable pub AllowedExactly : Type 0
AllowedExactly =
    (p : ℕ) (a : Act) (c : ℕ) (gs : List Grant) (ws : List ℕ) → (was_allowed (party_reply p a c gs ws) ≡ true) ↔ Allowed p a c gs ws

-- AN INSERTION by a party: the new tags, which are those from the first on, stand strictly inside the section
pub record PutInside (x section : ℕ) (ws : List ℕ) : Type 0 where
  pub store : Store
  pub says : Says ws store
  pub new : x < count store
  pub enclosed : (d : ℕ) → x ≤ d → d < count store → Encloses store section d

unfoldable pub InsideOnly : Type 0
InsideOnly =
    (p : ℕ) (a : Act) (c x m h : ℕ) (gs : List Grant) (ws : List ℕ) → party_reply p a c gs ws ≡ Ok (heard.Inserted (insert_made (record { 0 = x }) m h)) →
    PutInside x a.pair.tag.0 (party_words p a c gs ws)

-- GRANTS BEGIN AND END. An accepted grant goes after the live ones
unfoldable pub GrantedAdds : Type 0
GrantedAdds =
    (p x q n : ℕ) (y : System) → reply (keeps (grant p x q)) y ≡ kept (granted (Ok n)) →
    (live (step (keeps (grant p x q)) y) ≡ live y ++ (record { party = p; section = x; rights = q } ∷ [])) × (length (live (step (keeps (grant p x q)) y)) ≡ n)

-- after an accepted revoke no live grant of that party on that section is left, and all others are, in order; n were taken out
pub record Ended (p x n : ℕ) (y : System) : Type 0 where
  pub none_left : some_holds (names p x) (live (step (keeps (revoke p x)) y)) ≡ false
  pub others_stay : live (step (keeps (revoke p x)) y) ≡ those (λ g. not (names p x g)) (live y)
  pub taken_out : length (live y) ≡ n + length (live (step (keeps (revoke p x)) y))

unfoldable pub RevokedEnds : Type 0
RevokedEnds = (p x n : ℕ) (y : System) → reply (keeps (revoke p x)) y ≡ kept (revoked (Ok n)) → Ended p x n y

-- after an accepted load or file read to which the count is lent none is
unfoldable pub EndsAll : Call → Type 0
EndsAll c = (y : System) → accepted (reply c y) ≡ true → live (step c y) ≡ []

unfoldable pub LoadsEnd : Type 0
LoadsEnd = (s r b : ℕ) (ks bs : List ℕ) → EndsAll (load_with_grants s r b ks) × EndsAll (restore_with_grants bs)
