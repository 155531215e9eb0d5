-- The pass of kinds over a store's words is the pass `nested` over its facts. Assumes nothing.
use mathlib.Core.Path.{◌≡◌, refl, sym, ◌∙◌}
use mathlib.Core.Bool.{Bool, true, false, ◌&&◌, ◌||◌, not, beq, and_assoc, or_comm, or-true}
use mathlib.Core.List.{List, [], ◌∷◌}
use Prim.Native.Nat.{ℕ, ◌-◌, ◌≤◌, ◌<◌}
use native.Mathlib.Omega.{arith}
use borrow.Author.Tests.{eqb-true, ne_eqb, eq-eqb, lt-ltb}
use lib.Dec.{ltb, eqb}
use Rattle.store_types.specs.Limits.{no_tag, most_tags}
use Rattle.lists.proofs.Tests.{by_test}
use Rattle.store_types.specs.Layout.{at_mate, at_up, at_kind, field}
use Rattle.tree.specs.Row.{member}
use Rattle.tree_laws.proofs.Rows.{member_first, member_later}
use Rattle.calls.specs.Kind.{Kind, begin, end, text, code, kind_word}
use Rattle.calls.specs.Store.{Store, fact, count}
use Rattle.calls.specs.Nesting.{fits, opened, nested}
use Rattle.calls_laws.proofs.Nesting.{Chain, bottom, above, chain_step, Step, begins, ends, stands, step_of, no_tag_fact}
use Rattle.calls_laws.proofs.Fields.{TagSays}
use Rattle.calls_laws.proofs.Reader.{kind_back}
use Rattle.walk_model.specs.Walk.{marked_word, inner_fits, end_fits, kind_fits, open_after}
use Rattle.walk_model.proofs.Passes.{kinds_pass}

-- a test that follows from another is no test beside it
no_more : (a b c : Bool) → (a ≡ true → c ≡ true) → ((a && b) && c) ≡ (a && b)
no_more true true c h = h refl
no_more true false c h = refl
no_more false b c h = refl

-- an end's word is one more than that of a begin with the same mark
end_word : (m q : Bool) → eqb (kind_word end m - 1) (kind_word begin q) ≡ beq m q
unfolding kind_word code
end_word true true = refl
end_word true false = refl
end_word false true = refl
end_word false false = refl

-- BY KIND: the test of a tag whose word is that of kind k, and the begin that is open behind it
abbrev part : List ℕ → (n o x c : ℕ) → Kind → Bool
part ws n o x c begin = inner_fits ws o x c
part ws n o x c end = end_fits ws n o x c
part ws n o x c text = eqb (field ws x at_mate) x && inner_fits ws o x c

abbrev behind : List ℕ → (o x : ℕ) → Kind → ℕ
behind ws o x begin = x
behind ws o x end = field ws x at_up
behind ws o x text = o

by_kind : (ws : List ℕ) (n o x : ℕ) (k : Kind) (m : Bool) →
    (kind_fits ws n o x (kind_word k m) ≡ part ws n o x (kind_word k m) k) × (open_after ws o x (kind_word k m) ≡ behind ws o x k)
unfolding kind_fits open_after kind_word code
by_kind ws n o x begin true = (refl, refl)
by_kind ws n o x begin false = (refl, refl)
by_kind ws n o x end true = (refl, refl)
by_kind ws n o x end false = (refl, refl)
by_kind ws n o x text true = (refl, refl)
by_kind ws n o x text false = (refl, refl)

module _ (ws : List ℕ) (st : Store) (few : count st ≤ most_tags) (says : (x : ℕ) → x < count st → TagSays ws st x) where
  -- begins that are open, each a tag
  abbrev Open : ℕ → Type 0
  Open = Chain st.facts (λ x. x < count st) no_tag

  is_tag : (x : ℕ) → x < count st → eqb x no_tag ≡ false
  is_tag x l = ne_eqb x no_tag (λ e. omega arith)

  marked_same : (o : ℕ) → Open o → marked_word ws o ≡ (fact st o).marked
  unfolding marked_word
  marked_same o (bottom e) = rw (e, no_tag_fact st.facts (omega arith))
  marked_same o (above b mark l c) = rw (is_tag o l, (says o l).kind_is) (kind_back (fact st o).kind (fact st o).marked).1

  open_fits : (o : ℕ) → Open o → (eqb o no_tag || ltb o (count st)) ≡ true
  open_fits o (bottom e) = rw (eq-eqb o no_tag e)
  open_fits o (above b mark l c) = rw (lt-ltb o (count st) l) (or-true (eqb o no_tag))

  -- ONE TAG x, where o is open: a begin or text, an end, and any
  inner_same : (o x : ℕ) → Open o → x < count st → (k : Kind) →
      inner_fits ws o x (kind_word k (fact st x).marked) ≡ (eqb (fact st x).up o && (not (fact st o).marked || (fact st x).marked))
  unfolding inner_fits
  inner_same o x c l k =
      rw ((says x l).up_word, marked_same o c, (kind_back k (fact st x).marked).1, or_comm (fact st x).marked (not (fact st o).marked))

  end_same : (o x : ℕ) → Open o → x < count st → end_fits ws (count st) o x (kind_word end (fact st x).marked) ≡ fits st.facts o x end
  unfolding end_fits fits
  end_same o x (bottom e) l = rw e
  end_same o x (above b mark k up) l =
      let around : eqb (fact st x).up (fact st o).up ≡ true → (eqb (fact st x).up no_tag || ltb (fact st x).up (count st)) ≡ true =
      λ e. rw (eqb-true (fact st x).up (fact st o).up e) (open_fits (fact st o).up up) in
      rw (
        (says x l).mate_word,
        (says o k).mate_word,
        (says x l).up_word,
        (says o k).up_word,
        (says o k).kind_is,
        b,
        end_word (fact st x).marked (fact st o).marked,
        no_more (eqb (fact st x).up (fact st o).up) (beq (fact st x).marked (fact st o).marked) _ around,
      )

  part_same : (o x : ℕ) → Open o → x < count st → (k : Kind) → part ws (count st) o x (kind_word k (fact st x).marked) k ≡ fits st.facts o x k
  unfolding fits
  part_same o x c l begin = inner_same o x c l begin
  part_same o x c l end = end_same o x c l
  part_same o x c l text =
      rw ((says x l).mate_word, inner_same o x c l text)
      (sym (and_assoc (eqb (fact st x).mate x) (eqb (fact st x).up o) (not (fact st o).marked || (fact st x).marked)))

  kind_same : (o x : ℕ) → Open o → x < count st → kind_fits ws (count st) o x (field ws x at_kind) ≡ fits st.facts o x (fact st x).kind
  kind_same o x c l =
      rw (says x l).kind_is ((by_kind ws (count st) o x (fact st x).kind (fact st x).marked).0 ∙ part_same o x c l (fact st x).kind)

  -- the begin that is open behind it
  behind_same : (o x m : ℕ) → x < count st → Step st.facts no_tag o x m → open_after ws o x (field ws x at_kind) ≡ m
  behind_same o x m l s = rw (says x l).kind_is ((by_kind ws (count st) o x (fact st x).kind (fact st x).marked).1 ∙ go s)
    where
      go : Step st.facts no_tag o x m → behind ws o x (fact st x).kind ≡ m
      go (begins h) = rw (h.kind, h.next)
      go (ends shut h) = rw (h.kind, (says x l).up_word, h.up, h.next)
      go (stands h) = rw (h.kind, h.next)

  -- THE PASS along a row of tags
  kinds_from : (xs : List ℕ) (o : ℕ) → ((x : ℕ) → member x xs ≡ true → x < count st) → Open o →
      kinds_pass ws (count st) o xs ≡ nested st.facts o xs
  unfolding nested
  kinds_from [] o below c = refl
  kinds_from (x ∷ xs) o below c =
      let l = below x (member_first x xs) in
      let k = (fact st x).kind in
      by_test (fits st.facts o x k)
      (λ e. let step = step_of st.facts o x k refl e in
      rw (kind_same o x c l, e, behind_same o x _ l step)
      (kinds_from xs (opened st.facts o x k) (λ y m. below y (member_later y x xs m)) (chain_step l step c)))
      (λ e. rw (kind_same o x c l, e))

  pub kinds_same : (xs : List ℕ) → ((x : ℕ) → member x xs ≡ true → x < count st) → kinds_pass ws (count st) no_tag xs ≡ nested st.facts no_tag xs
  kinds_same xs below = kinds_from xs no_tag below (bottom refl)
