-- The reply and the words of an insertion, refused and accepted, from its refusal and its edit. Assumes nothing.
use mathlib.Core.Path.{◌≡◌, refl, ap, sym, ◌∙◌}
use mathlib.Core.List.{List, [], ◌∷◌, map}
use Prim.Native.Nat.{ℕ, suc, ◌+◌, ◌≤◌}
use native.Mathlib.Numerals.{add-one}
use native.Mathlib.Omega.{arith}
use borrow.Author.Tests.{ne_eqb}
use lib.ListN.{length, set, drop}
use lib.Seq.{get_or-set_same}
use Rattle.store_types.specs.Layout.{at_count, at_stamp, header_words, word_at}
use Rattle.lists.specs.Lists.{first}
use Rattle.lists.specs.Fronts.{in_front, replied, written}
use Rattle.lists.proofs.Replied.{replied_refused, written_refused}
use Rattle.calls.specs.Kind.{Kind, kind_of}
use Rattle.calls.specs.Store.{Store}
use Rattle.calls.specs.Insert.{insert_refusal, insert_store, insert_sheet_refusal, insert_sheet_store}
use Rattle.calls.specs.Words.{words_of, Says}
use Rattle.calls.specs.Promise.{EmptySheet, SinglesAreSheets}
use Rattle.calls.specs.Replies.{said, refusal_over, insert_refused, insert_reply, insert_words, insert_sheet_refused, insert_sheet_reply, insert_sheet_words}
use Rattle.calls_laws.proofs.Fields.{header_says}
use Rattle.calls_laws.proofs.Marks.{marked_few}
use Rattle.calls_laws.proofs.WordSteps.{header_said}
use Rattle.calls_laws.proofs.Sheets.{empty_sheet, singles_are_sheets}
use Rattle.edit_model.specs.Insert.{row_edit, stamped}
use Rattle.edit_model.proofs.Row.{EditRight, row_right}
use Rattle.store_refuse.proofs.Laws.{sound_said, words_first, refused_said, accepted_says}
use Rattle.insert_change.specs.Needs.{Edits, Accepted}
use Rattle.insert_change.proofs.Accepted.{says, some_kinds, accepted, records_said}
use Rattle.words.proofs.Fields.{header_long}
use Rattle.insert_refuse.proofs.Headers.{header_room}
use Rattle.store_types.proofs.Replies.{some_number}
use Rattle.std.specs.Prelude.{Ok, Err}
use Rattle.store_types.specs.Replies.{insert_made}

-- REFUSED: k is the refusal
module _ (ws cs : List ℕ) (y : ℕ) where
  pub refused_reply : {k : ℕ} → k ≡ insert_sheet_refused cs y ws → (k ≡ 0 → ⊥) → Err k ≡ insert_sheet_reply cs y ws
  unfolding insert_sheet_reply
  refused_reply {k} e n = rw (← e) (replied_refused Err k _ n)

  pub refused_words : (insert_sheet_refused cs y ws ≡ 0 → ⊥) → ws ≡ insert_sheet_words cs y ws
  unfolding insert_sheet_words
  refused_words n = written_refused (insert_sheet_refused cs y ws) _ ws n

  -- the words alone refuse
  pub unsaid_reply : {k : ℕ} → k ≡ refusal_over ws (λ st. 0) → (k ≡ 0 → ⊥) → Err k ≡ insert_sheet_reply cs y ws
  unfolding insert_sheet_refused
  unsaid_reply {k} e n = refused_reply (words_first ws (insert_sheet_refusal (length ws) cs y) k e n) n

  pub unsaid_words : (refusal_over ws (λ st. 0) ≡ 0 → ⊥) → ws ≡ insert_sheet_words cs y ws
  unfolding insert_sheet_refused
  unsaid_words n = refused_words (λ z. n (words_first ws (insert_sheet_refusal (length ws) cs y) _ refl n ∙ z))

-- words that are not refused say a store
says_sheet : (ws cs : List ℕ) (y : ℕ) → insert_sheet_refused cs y ws ≡ 0 → Says ws (said ws)
unfolding insert_sheet_refused
says_sheet ws cs y z = accepted_says ws _ z

-- ACCEPTED WITHOUT TAGS
pub empty_reply : (ws cs : List ℕ) (y : ℕ) {n : ℕ} → insert_sheet_refused cs y ws ≡ 0 → length cs ≡ 0 → n ≡ word_at ws at_count →
    Ok (insert_made (record { 0 = n }) 0 0) ≡ insert_sheet_reply cs y ws
unfolding EmptySheet
empty_reply ws [] y z none counted =
    let issued = (header_said ws (said ws) (says_sheet ws [] y z)).issued in rw (counted, issued) (sym ((empty_sheet y ws).reply z))
empty_reply ws (c ∷ cs) y z none counted = absurd (omega arith)

pub empty_words : (ws cs : List ℕ) (y : ℕ) → length cs ≡ 0 → ws ≡ insert_sheet_words cs y ws
unfolding EmptySheet
empty_words ws [] y none = sym (empty_sheet y ws).words
empty_words ws (c ∷ cs) y none = absurd (omega arith)

-- ACCEPTED WITH TAGS
store_with : (ks : List Kind) (y : ℕ) (st : Store) → 1 ≤ length ks → insert_sheet_store ks y st ≡ insert_store ks y st
unfolding insert_sheet_store
store_with [] y st some = absurd (omega arith)
store_with (k ∷ ks) y st some = refl

module _ {ws cs : List ℕ} {y : ℕ} (a : Accepted ws cs y) where
  right : EditRight (map kind_of cs) y ws (said ws) (row_edit (map kind_of cs) y ws)
  right = row_right ws (said ws) (says a) (map kind_of cs) y (some_kinds a) (accepted a)

  -- vs are the words that its edit leaves
  module _ {vs : List ℕ} {m s : ℕ} (e : Edits vs m s (row_edit (map kind_of cs) y ws)) where
    stamped_are : stamped vs ≡ in_front (words_of (insert_store (map kind_of cs) y (said ws))) ws
    stamped_are = rw e.words_are right.words_are

    -- the stamp is raised by one, and fits
    pub stamp_fits : header_words ≤ length vs → word_at vs at_stamp ≤ 400000
    unfolding stamped in_front insert_store Says
    stamp_fits long =
        let su = insert_store (map kind_of cs) y (said ws) in
        let own = sound_said ws (says a) in
        let there = get_or-set_same vs at_stamp (suc (word_at vs at_stamp)) 0 (omega arith) in
        let said_there = ap (λ (us : List ℕ). word_at us at_stamp) stamped_are ∙ (header_says su (drop (length (words_of su)) ws)).stamp in
        omega (arith, there, said_there, own.stamp_fits, own.few, marked_few (said ws).facts)

    -- n, the stamp and the words with the stamp raised, as they are read and left
    pub accepted_all : {n k : ℕ} {us : List ℕ} → n ≡ word_at ws at_count → k ≡ word_at vs at_stamp → us ≡ set vs at_stamp (k + 1) →
        (Ok (insert_made (record { 0 = n }) m s) ≡ insert_sheet_reply cs y ws) × (us ≡ insert_sheet_words cs y ws)
    unfolding insert_sheet_reply insert_sheet_words written replied stamped
    accepted_all counted stamp raised = (
      rw (a.refusal, counted, (header_said ws (said ws) (says a)).issued, e.moved_is, e.split_is, right.moved_is, right.split_is),
      raised ∙ rw (a.refusal, stamp, add-one, store_with (map kind_of cs) y (said ws) (some_kinds a)) stamped_are,
    )

-- BY THE KIND: an element and a text are sheets, and any other kind is refused
module _ (ws : List ℕ) (y : ℕ) where
  pub element_reply : insert_sheet_reply (1 ∷ 2 ∷ []) y ws ≡ insert_reply 1 y ws
  unfolding SinglesAreSheets
  element_reply = sym (singles_are_sheets y ws).1.reply

  pub element_words : insert_sheet_words (1 ∷ 2 ∷ []) y ws ≡ insert_words 1 y ws
  unfolding SinglesAreSheets
  element_words = sym (singles_are_sheets y ws).1.words

  pub text_reply : insert_sheet_reply (3 ∷ []) y ws ≡ insert_reply 3 y ws
  unfolding SinglesAreSheets
  text_reply = sym (singles_are_sheets y ws).0.reply

  pub text_words : insert_sheet_words (3 ∷ []) y ws ≡ insert_words 3 y ws
  unfolding SinglesAreSheets
  text_words = sym (singles_are_sheets y ws).0.words

  module _ (c : ℕ) where
    refused_kind : {k : ℕ} → k ≡ insert_refused c y ws → (k ≡ 0 → ⊥) → Err k ≡ insert_reply c y ws
    unfolding insert_reply
    refused_kind {k} e n = rw (← e) (replied_refused Err k _ n)

    kept_kind : (insert_refused c y ws ≡ 0 → ⊥) → ws ≡ insert_words c y ws
    unfolding insert_words
    kept_kind n = written_refused (insert_refused c y ws) _ ws n

    other_refused : Says ws (said ws) → (c ≡ 1 → ⊥) → (c ≡ 3 → ⊥) → 4 ≡ insert_refused c y ws
    unfolding insert_refused insert_refusal first
    other_refused said_there one three = sym (refused_said ws (insert_refusal (length ws) c y) said_there ∙ rw (ne_eqb c 1 one, ne_eqb c 3 three))

    pub other_reply : Says ws (said ws) → (c ≡ 1 → ⊥) → (c ≡ 3 → ⊥) → Err 4 ≡ insert_reply c y ws
    other_reply said_there one three = refused_kind (other_refused said_there one three) (λ z. omega arith)

    pub other_words : Says ws (said ws) → (c ≡ 1 → ⊥) → (c ≡ 3 → ⊥) → ws ≡ insert_words c y ws
    other_words said_there one three = kept_kind (λ z. omega (arith, other_refused said_there one three))

    pub unsaid_kind_reply : {k : ℕ} → k ≡ refusal_over ws (λ st. 0) → (k ≡ 0 → ⊥) → Err k ≡ insert_reply c y ws
    unfolding insert_refused
    unsaid_kind_reply {k} e n = refused_kind (words_first ws (insert_refusal (length ws) c y) k e n) n

    pub unsaid_kind_words : (refusal_over ws (λ st. 0) ≡ 0 → ⊥) → ws ≡ insert_words c y ws
    unfolding insert_refused
    unsaid_kind_words n = kept_kind (λ z. n (words_first ws (insert_refusal (length ws) c y) _ refl n ∙ z))

-- what each function asks for and leaves
pub ruleset with_tags = (stamp_fits, records_said, header_long)

pub ruleset of_a_sheet = (refused_reply, refused_words, empty_reply, empty_words, header_room, some_number)

pub ruleset by_kind = (element_reply, element_words, text_reply, text_words, other_reply, other_words)

pub ruleset on_words = (unsaid_reply, unsaid_words, unsaid_kind_reply, unsaid_kind_words, accepted_says, some_number)
