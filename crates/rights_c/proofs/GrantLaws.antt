-- What the three entries on a lent list of grants say, from what is ensured by those that they call. Where a call is refused no
-- grant is looked at, and no place of the list is written. Assumes nothing.
use mathlib.Core.Path.{◌≡◌, refl, sym, ap, subst, ◌∙◌}
use mathlib.Core.Bool.{Bool, true, false}
use mathlib.Core.List.{List}
use Prim.Native.Nat.{ℕ, zero, suc, ◌+◌, ◌-◌, ◌≤◌}
use native.Mathlib.Omega.{arith}
use lib.Dec.{eqb}
use lib.ListN.{length, set, take}
use lib.Seq.{length-take-le, set_out}
use borrow.Author.Tests.{ne_eqb}
use Rattle.store_types.specs.Replies.{count_numbers}
use Rattle.lists.specs.Lists.{how_many, those}
use Rattle.lists.proofs.Those.{those_many}
use Rattle.lists.specs.Fronts.{replied, in_front}
use Rattle.store_types.specs.declared.Act.{Act}
use Rattle.store_types.specs.declared.Grant.{Grant}
use Rattle.calls.specs.Rights.{names, held, others, is_right, range_refusal, grant_refused, grant_reply, grant_count, grant_list, revoke_refused, revoke_reply, revoke_count, revoke_list, act_reply, act_words, party_refused, party_reply, party_words}
use Rattle.calls_laws.proofs.Grants.{count_fits}
use Rattle.c_replies.specs.Flat.{c_places, c_party, place_for}
use Rattle.c_replies.specs.declared.CountedPlaces.{CountedPlaces}
use Rattle.c_replies.specs.declared.Party.{Party}
use Rattle.std.specs.Prelude.{Result, Ok, Err}

-- how many grants are looked at: none where the call is refused
abbrev pub looked : (refusal count : ℕ) → ℕ
looked k c = replied (λ _. 0) k c

module _ {A : Type 0} where
  by_refusal : (f : ℕ → A) (a : A) {k m : ℕ} → k ≡ m → replied f k a ≡ replied f m a
  by_refusal f a e = ap (λ k. replied f k a) e

  -- what counts where the call is accepted alone may be of the grants that were looked at
  as_looked : (f : ℕ → A) (k c : ℕ) (g : ℕ → A) → replied f k (g (looked k c)) ≡ replied f k (g c)
  unfolding replied
  as_looked f zero c g = refl
  as_looked f (suc k) c g = refl

-- k is the refusal, as one function says it and others are told it
looked_by : (c : ℕ) {k m n : ℕ} → k ≡ m → n ≡ looked k c → n ≡ looked m c
looked_by c e looks = looks ∙ ap (λ k. looked k c) e

-- GRANT: the record goes to the place behind the live ones, or nowhere
placed : (k c : ℕ) (gs : List Grant) (g : Grant) → set gs (place_for (c_places (replied Err k (Ok (suc c)))) (length gs)) g ≡ replied (λ _. gs) k (set gs c g)
unfolding replied place_for c_places count_numbers
placed zero c gs g = let none : eqb (suc c) 0 ≡ false = ne_eqb (suc c) 0 (λ e. omega (arith, e)) in rw none (ap (λ i. set gs i g) (omega arith))
placed (suc k) c gs g = set_out gs (length gs) g (omega arith)

pub granted : (p x q c : ℕ) (gs : List Grant) (ws : List ℕ) {r : CountedPlaces} {i n : ℕ} {zs : List Grant} → (r ≡ c_places (replied Err (grant_refused p x q c (length gs) ws) (Ok (suc c)))) × (n ≡ replied (λ _. c) (grant_refused p x q c (length gs) ws) (suc c)) → i ≡ place_for r (length gs) → zs ≡ set gs i (record { party = p; section = x; rights = q }) →
    (r ≡ c_places (grant_reply p x q c gs ws)) × ((zs ≡ grant_list p x q c gs ws) × (n ≡ grant_count p x q c gs ws))
unfolding grant_reply grant_list grant_count
granted p x q c gs ws {r} e at_i now_zs =
    let g : Grant = record { party = p; section = x; rights = q } in
    (e.0, (now_zs ∙ ap (λ i. set gs i g) (at_i ∙ ap (λ q. place_for q (length gs)) e.0) ∙ placed (grant_refused p x q c (length gs) ws) c gs g, e.1))

-- 17 covers a count above the lent list's length
looked_fits : (t : Bool) (p c room : ℕ) → looked (range_refusal t p c room) c ≤ room
unfolding replied
looked_fits t p c room = go (range_refusal t p c room) refl
  where
    go : (k : ℕ) → range_refusal t p c room ≡ k → looked k c ≤ room
    go zero e = count_fits t p c room e
    go (suc k) e = omega arith

pub looked_most : (k c : ℕ) → looked k c ≤ c
unfolding replied
looked_most zero c = omega arith
looked_most (suc k) c = omega arith

-- REVOKE: none of the others is lost
others_counted : (p x n : ℕ) (gs : List Grant) → n ≤ length gs → how_many (names p x) (take n gs) + length (others p x n gs) ≡ n
unfolding others
others_counted p x n gs fits = sym (those_many (names p x) (take n gs)) ∙ length-take-le n gs fits

kept_most : (p x k c : ℕ) (gs : List Grant) → looked k c ≤ length gs → length (others p x (looked k c) gs) ≤ c
kept_most p x k c gs fits = omega (arith, others_counted p x (looked k c) gs fits, looked_most k c)

-- what is asked of the list's length and of the count
pub looks_fit : (t : Bool) (p c : ℕ) (gs : List Grant) {k n : ℕ} → k ≡ range_refusal t p c (length gs) → n ≡ looked k c → n ≤ length gs
looks_fit t p c gs e looks = subst (λ n. n ≤ length gs) (sym (looked_by c e looks)) (looked_fits t p c (length gs))

pub kept_fits : (p x c : ℕ) (gs : List Grant) {k n kept : ℕ} → k ≡ revoke_refused p c (length gs) → n ≡ looked k c → kept ≡ length (others p x n gs) → kept ≤ c
unfolding revoke_refused
kept_fits p x c gs {k = k} e looks stay =
    subst (λ m. m ≤ c) (sym (stay ∙ ap (λ n. length (others p x n gs)) looks)) (kept_most p x k c gs (looks_fit true p c gs e refl))

fewer : (p x k c : ℕ) (gs : List Grant) → looked k c ≤ length gs → ◌≡◌ {A = Result ℕ ℕ} (replied Err k (Ok (c - length (others p x (looked k c) gs)))) (replied Err k (Ok (how_many (names p x) (take c gs))))
unfolding replied
fewer p x zero c gs fits = let e : c - length (others p x c gs) ≡ how_many (names p x) (take c gs) = omega (arith, others_counted p x c gs fits) in rw e
fewer p x (suc k) c gs fits = refl

closed : (p x k c : ℕ) (gs : List Grant) → in_front (others p x (looked k c) gs) gs ≡ replied (λ _. gs) k (in_front (others p x c gs) gs)
unfolding replied others those in_front
closed p x zero c gs = refl
closed p x (suc k) c gs = refl

pub revoked : (p x c : ℕ) (gs : List Grant) {r : CountedPlaces} {k n kept m : ℕ} {zs : List Grant} → k ≡ revoke_refused p c (length gs) → n ≡ looked k c
    → (kept ≡ length (others p x n gs)) × (zs ≡ in_front (others p x n gs) gs)
    → (r ≡ c_places (replied Err k (Ok (c - kept)))) × (m ≡ replied (λ _. c) k kept)
    → (r ≡ c_places (revoke_reply p x c gs)) × ((zs ≡ revoke_list p x c gs) × (m ≡ revoke_count p x c gs))
unfolding revoke_refused revoke_reply revoke_list revoke_count
revoked p x c gs {k = k} refused looks shut e =
    let stay = shut.0 ∙ ap (λ n. length (others p x n gs)) looks in (
      e.0
          ∙ ap (λ m. c_places (replied Err k (Ok (c - m)))) stay
          ∙ ap c_places (fewer p x k c gs (looks_fit true p c gs refused refl) ∙ by_refusal Err _ refused),
      (
        shut.1 ∙ ap (λ n. in_front (others p x n gs) gs) looks ∙ closed p x k c gs ∙ by_refusal (λ _. gs) _ refused,
        e.1 ∙ ap (replied (λ _. c) k) stay ∙ as_looked (λ _. c) k c (λ n. length (others p x n gs)) ∙ by_refusal (λ _. c) _ refused,
      ),
    )

-- A PARTY'S CALL
pub acted : (p : ℕ) (a : Act) (c : ℕ) (gs : List Grant) (ws : List ℕ) {r : Party} {k n : ℕ} {t : Bool} {zs : List ℕ} → k ≡ range_refusal (is_right a.right) p c (length gs) → n ≡ looked k c → t ≡ held p a.pair.tag.0 a.right n gs
    → (r ≡ c_party (replied Err k (act_reply t a ws))) × (zs ≡ replied (λ _. ws) k (act_words t a ws))
    → (r ≡ c_party (party_reply p a c gs ws)) × (zs ≡ party_words p a c gs ws)
unfolding party_refused party_reply party_words
acted p a c gs ws {k = k} refused looks found e =
    let asked : ℕ → Bool = λ n. held p a.pair.tag.0 a.right n gs in
    let given = found ∙ ap asked looks in (
      e.0
          ∙ ap (λ t. c_party (replied Err k (act_reply t a ws))) given
          ∙ ap c_party (as_looked Err k c (λ n. act_reply (asked n) a ws) ∙ by_refusal Err _ refused),
      e.1
          ∙ ap (λ t. replied (λ _. ws) k (act_words t a ws)) given
          ∙ as_looked (λ _. ws) k c (λ n. act_words (asked n) a ws)
          ∙ by_refusal (λ _. ws) _ refused,
    )

-- what the entries ask of the list's length and of the count
pub ruleset fitting = (looks_fit, kept_fits)
