-- Grants begin and end: an accepted grant goes behind the live ones, an accepted revoke leaves the others in order, an accepted load
-- or file read leaves none. Assumes nothing.
use mathlib.Core.Path.{◌≡◌, refl, sym, ap, ◌∙◌}
use mathlib.Core.Bool.{true, not}
use mathlib.Core.List.{[], ◌∷◌, head_d}
use Prim.Native.Nat.{ℕ, suc, ◌+◌}
use native.Mathlib.Omega.{arith}
use borrow.Author.Tests.{eqb-true}
use lib.Dec.{eqb}
use lib.ListN.{length, take, drop, length-append}
use lib.Seq.{length-take-le, take-suc-set, take-append_seam}
use Rattle.lists.proofs.Replied.{replied_answer}
use Rattle.lists.specs.Lists.{how_many, those}
use Rattle.lists.proofs.Those.{none_among, those_many}
use Rattle.lists.specs.Fronts.{in_front, replied}
use Rattle.lists.proofs.Replied.{first_number}
use Rattle.store_types.specs.declared.Grant.{Grant}
use Rattle.calls.specs.Replies.{load_reply, read_reply, load_numbers}
use Rattle.calls.specs.Rights.{emptied_by, names, others, grant_refused, grant_reply, grant_count, grant_list, revoke_refused, revoke_reply, revoke_count, revoke_list}
use Rattle.calls_laws.proofs.Grants.{has_place}
use Rattle.system.specs.System.{live, grant, revoke, keeps, numbers_of, refusal_in, accepted, keeping, kept_grants, kept_count, reply, ended_by, step}
use Rattle.rights.specs.Promise.{GrantedAdds, RevokedEnds, EndsAll, LoadsEnd}
use Rattle.std.specs.Prelude.{Ok, Err}
use Rattle.store_types.specs.Replies.{load_made}

-- GRANT
pub granted_adds : GrantedAdds
unfolding GrantedAdds reply step keeping kept_grants kept_count grant_reply grant_list grant_count replied
granted_adds p x q n y e =
    let c = y.count in
    let gs = y.grants in
    let k = grant_refused p x q c (length gs) y.words in
    let (z, many) = replied_answer k (suc c) n cc in
    let room = has_place p x q c (length gs) y.words z in
    let new : Grant = record { party = p; section = x; rights = q } in
    let behind = take-suc-set gs c new room in
    rw z (behind, ap length behind ∙ omega (arith, length-append (take c gs) (new ∷ []), length-take-le c gs (omega (arith, room)), many))

-- REVOKE
pub revoked_ends : RevokedEnds
unfolding RevokedEnds reply step keeping kept_grants kept_count revoke_reply revoke_list revoke_count replied in_front others
revoked_ends p x n y e =
    let c = y.count in
    let gs = y.grants in
    let k = revoke_refused p c (length gs) in
    let (z, many) = replied_answer k (how_many (names p x) (take c gs)) n cc in
    let kept = those (λ g. not (names p x g)) (take c gs) in
    let left : live (step (keeps (revoke p x)) y) ≡ kept = rw z (take-append_seam kept (drop (length kept) gs)) in
    record {
      none_left = rw left (none_among (names p x) (take c gs));
      others_stay = left;
      taken_out = rw left (those_many (names p x) (take c gs) ∙ ap (λ m. m + length kept) many);
    }

-- LOAD AND THE READING OF A FILE, by their refusal
emptied : (k n h c : ℕ) → k ≡ 0 → emptied_by (replied Err k (Ok (load_made n h))) c ≡ 0
unfolding emptied_by replied
emptied k n h c z = rw z

told_zero : (k n h : ℕ) → eqb (head_d (load_numbers (replied Err k (Ok (load_made n h)))) 0) 0 ≡ true → k ≡ 0
unfolding load_numbers head_d
told_zero k n h e = sym (first_number Err load_numbers k (Ok (load_made n h)) (λ i. refl) refl) ∙ eqb-true _ 0 e

pub loads_end : LoadsEnd
unfolding LoadsEnd EndsAll reply step ended_by accepted numbers_of refusal_in load_reply read_reply
loads_end s r b ks bs = (
  λ y e. rw (emptied _ _ _ y.count (told_zero _ _ _ e)),
  λ y e. rw (emptied _ _ _ y.count (told_zero _ _ _ e)),
)
