-- One tag's record written (specs/Tags.antt): its words, and what stays as it was. Assumes nothing.
use mathlib.Core.Path.{◌≡◌, refl, ap, sym, ◌∙◌}
use mathlib.Core.Bool.{cond}
use mathlib.Core.List.{List, [], ◌∷◌}
use Prim.Native.Nat.{ℕ, ◌≤◌, ◌<◌}
use native.Mathlib.Omega.{arith}
use borrow.Author.Tests.{eq-eqb, ne_eqb, eqb-true, eqb-false}
use lib.Dec.{eqb}
use lib.ListN.{length}
use Rattle.store_types.specs.Layout.{header_words, label_words, at_next, at_prior, at_mate, at_up, at_kind, at_depth, tag_words, words_for, field, label_at, with_field, with_label}
use Rattle.lists.proofs.Tests.{by_test}
use Rattle.words.proofs.Fields.{record_room, field_same, field_other_tag, field_other_word, label_same, label_other_tag, field_past_label, label_past_field, length_with_field, length_with_label, front_with_field, front_with_label, rest_with_field, rest_with_label}
use Rattle.words.proofs.Records.{RecordHolds, record_by}
use Rattle.calls.specs.Kind.{kind_of, own_depth}
use Rattle.load_record.specs.declared.Row as rows
use Rattle.load_record.specs.Record.{next_of, prior_of, place_written, new_mate, new_up, links_written, tag_written, open_behind, Beside}

-- OUTSIDE THE RECORDS nothing changes
pub beside_none : (ws : List ℕ) (w : rows.Row) → Beside ws ws w
beside_none ws w = record { size = refl; front = λ i l. refl; rest = refl }

pub beside_both : (ws vs us : List ℕ) (w : rows.Row) → Beside ws vs w → Beside vs us w → Beside ws us w
beside_both ws vs us w a b =
    record { size = b.size ∙ a.size; front = λ i l. b.front i l ∙ a.front i l; rest = b.rest ∙ a.rest }

beside_one : (ws : List ℕ) (x k v : ℕ) (w : rows.Row) → w.first ≤ x → x < w.end → k < tag_words → Beside ws (with_field ws x k v) w
beside_one ws x k v w past below small =
    record {
      size = length_with_field ws x k v;
      front = λ i l. front_with_field ws x k v w.first i past l;
      rest = rest_with_field ws x k v w.end below small;
    }

beside_label : (ws : List ℕ) (x a : ℕ) (w : rows.Row) → w.first ≤ x → x < w.end → Beside ws (with_label ws x a) w
beside_label ws x a w past below =
    record {
      size = length_with_label ws x a;
      front = λ i l. front_with_label ws x a w.first i past l;
      rest = rest_with_label ws x a w.end below;
    }

-- FIELDS OF ONE RECORD written one after the other: each a place and a value
puts : (x : ℕ) → List (ℕ × ℕ) → List ℕ → List ℕ
puts x [] ws = ws
puts x ((k, v) ∷ ps) ws = puts x ps (with_field ws x k v)

abbrev Places : List (ℕ × ℕ) → Type 0
Places [] = Unit
Places ((k, v) ∷ ps) = (label_words ≤ k) × (k < tag_words) × Places ps

-- the last value written at place j, or what was there
abbrev last_put : (j : ℕ) → List (ℕ × ℕ) → ℕ → ℕ
last_put j [] d = d
last_put j ((k, v) ∷ ps) d = last_put j ps (cond (eqb j k) v d)

module _ (w : rows.Row) (x : ℕ) (past : w.first ≤ x) (below : x < w.end) where
  put_own : (ws : List ℕ) (k v j : ℕ) → words_for header_words w.end ≤ length ws → k < tag_words → j < tag_words →
      field (with_field ws x k v) x j ≡ cond (eqb j k) v (field ws x j)
  put_own ws k v j long f g =
      by_test (eqb j k)
      (λ e. rw e (rw (eqb-true j k e) (field_same ws x k v (record_room w.end x ws long below) f)))
      (λ e. rw e (field_other_word ws x x k j v f g (eqb-false j k e)))

  puts_own : (ps : List (ℕ × ℕ)) (ws : List ℕ) → Places ps → words_for header_words w.end ≤ length ws → (j : ℕ) → j < tag_words →
      field (puts x ps ws) x j ≡ last_put j ps (field ws x j)
  unfolding puts
  puts_own [] ws all long j f = refl
  puts_own ((k, v) ∷ ps) ws all long j f =
      puts_own ps (with_field ws x k v) all.2 (rw length_with_field long) j f ∙ ap (last_put j ps) (put_own ws k v j long all.1 f)

  puts_other : (ps : List (ℕ × ℕ)) (ws : List ℕ) → Places ps → (y j : ℕ) → j < tag_words → (y ≡ x → ⊥) → field (puts x ps ws) y j ≡ field ws y j
  unfolding puts
  puts_other [] ws all y j f other = refl
  puts_other ((k, v) ∷ ps) ws all y j f other =
      puts_other ps (with_field ws x k v) all.2 y j f other ∙ field_other_tag ws x y k j v all.1 f other

  puts_label : (ps : List (ℕ × ℕ)) (ws : List ℕ) → Places ps → (y : ℕ) → label_at (puts x ps ws) y ≡ label_at ws y
  unfolding puts
  puts_label [] ws all y = refl
  puts_label ((k, v) ∷ ps) ws all y = puts_label ps (with_field ws x k v) all.2 y ∙ label_past_field ws x y k v all.0 all.1

  puts_beside : (ps : List (ℕ × ℕ)) (ws : List ℕ) → Places ps → Beside ws (puts x ps ws) w
  unfolding puts
  puts_beside [] ws all = beside_none ws w
  puts_beside ((k, v) ∷ ps) ws all =
      beside_both ws (with_field ws x k v) _ w (beside_one ws x k v w past below all.1) (puts_beside ps (with_field ws x k v) all.2)

-- TAG x of kind number c with label a behind the tags before it; `begun` gets its mate too
pub record OneMore (w : rows.Row) (x c a mate up depth begun : ℕ) (ws vs : List ℕ) : Type 0 where
  pub beside : Beside ws vs w
  pub here : RecordHolds vs x a (next_of w x) (prior_of w x) mate up c depth
  pub kept : (y j : ℕ) → label_words ≤ j → j < tag_words → (y ≡ x → ⊥) → (y ≡ begun → j ≡ at_mate → ⊥) → field vs y j ≡ field ws y j
  pub label_kept : (y : ℕ) → (y ≡ x → ⊥) → label_at vs y ≡ label_at ws y

module _ (ws : List ℕ) (w : rows.Row) (x c a o d : ℕ) (past : w.first ≤ x) (below : x < w.end) (long : words_for header_words w.end ≤ length ws) where
  -- its depth, its label, and what every tag's record has, with this mate
  abbrev deep : ℕ
  deep = own_depth (kind_of c) d

  abbrev labelled : List ℕ
  labelled = with_label ws x a

  labelled_long : words_for header_words w.end ≤ length labelled
  labelled_long = rw length_with_label long

  own_label : label_at labelled x ≡ a
  own_label = label_same ws x a (record_room w.end x ws long below)

  abbrev common : (mate : ℕ) → (rest : List (ℕ × ℕ)) → List (ℕ × ℕ)
  common m ps = (at_kind, c) ∷ (at_next, next_of w x) ∷ (at_prior, prior_of w x) ∷ (at_depth, deep) ∷ (at_mate, m) ∷ ps

  -- a begin or text is its own mate so far, and stands under o
  pub inner_more : (c ≡ 2 → ⊥) → OneMore w x c a x o deep x ws (tag_written w x c a o d ws)
  unfolding tag_written links_written place_written new_mate new_up puts
  inner_more inner =
      let ps = common x ((at_mate, x) ∷ (at_up, o) ∷ []) in
      let all : Places ps = omega arith in
      let own = puts_own w x past below ps labelled all labelled_long in
      rw (ne_eqb c 2 inner) (record {
        beside = beside_both ws labelled _ w (beside_label ws x a w past below) (puts_beside w x past below ps labelled all);
        here = record_by _ own (puts_label w x past below ps labelled all x ∙ own_label);
        kept = λ y j large f other back. puts_other w x past below ps labelled all y j f other ∙ field_past_label ws x y a j large f;
        label_kept = λ y other. puts_label w x past below ps labelled all y ∙ label_other_tag ws x y a other;
      })

  -- where the tag stands, nothing is written of another tag
  pub up_kept : (x ≡ o → ⊥) → field (place_written w x c a ws) o at_up ≡ field ws o at_up
  unfolding place_written puts
  up_kept apart =
      puts_other w x past below ((at_kind, c) ∷ (at_next, next_of w x) ∷ (at_prior, prior_of w x) ∷ []) labelled (omega arith) o at_up (omega arith) (λ e. apart (sym e))
      ∙ field_past_label ws x o a at_up (omega arith) (omega arith)

  -- an end and its begin o are each other's mates, under what o stands under
  module _ (is_end : c ≡ 2) (new : w.first ≤ o) (begun : o < w.end) (apart : x ≡ o → ⊥) where
    abbrev front : List (ℕ × ℕ)
    front = common o []

    abbrev first : List ℕ
    first = puts x front labelled

    abbrev second : List ℕ
    second = with_field first o at_mate x

    all_front : Places front
    all_front = omega arith

    written : tag_written w x c a o d ws ≡ with_field second x at_up (field ws o at_up)
    unfolding tag_written links_written place_written new_mate new_up puts
    written = rw (eq-eqb c 2 is_end) (ap (λ (up : ℕ). with_field second x at_up up) (up_kept apart))

    first_long : words_for header_words w.end ≤ length first
    first_long = rw (puts_beside w x past below front labelled all_front).size labelled_long

    pub end_more : OneMore w x c a o (field ws o at_up) deep o ws (tag_written w x c a o d ws)
    end_more =
        let up = field ws o at_up in
        rw written (record {
          beside = beside_both ws labelled _ w (beside_label ws x a w past below) (
              beside_both labelled first _ w (puts_beside w x past below front labelled all_front) (
              beside_both first second _ w (beside_one first o at_mate x w new begun (omega arith)) (beside_one second x at_up up w past below (omega arith))));
          here = record_by _ own (labels_stay x ∙ own_label);
          kept = λ y j large f other back.
              field_other_tag second x y at_up j up (omega arith) f other
              ∙ by_test (eqb y o)
              (λ e. field_other_word first o y at_mate j x (omega arith) f (back (eqb-true y o e)))
              (λ e. field_other_tag first o y at_mate j x (omega arith) f (eqb-false y o e))
              ∙ puts_other w x past below front labelled all_front y j f other ∙ field_past_label ws x y a j large f;
          label_kept = λ y other. labels_stay y ∙ label_other_tag ws x y a other;
        })
      where
        own : (j : ℕ) → j < tag_words → field (with_field second x at_up (field ws o at_up)) x j ≡ cond (eqb j at_up) (field ws o at_up) (last_put j front (field labelled x j))
        own j f =
            put_own w x past below second at_up (field ws o at_up) j (rw length_with_field first_long) (omega arith) f
            ∙ ap (cond (eqb j at_up) (field ws o at_up))
            (field_other_tag first o x at_mate j x (omega arith) f apart ∙ puts_own w x past below front labelled all_front labelled_long j f)

        labels_stay : (y : ℕ) → label_at (with_field second x at_up (field ws o at_up)) y ≡ label_at labelled y
        labels_stay y =
            label_past_field second x y at_up (field ws o at_up) (omega arith) (omega arith)
            ∙ label_past_field first o y at_mate x (omega arith) (omega arith) ∙ puts_label w x past below front labelled all_front y

    pub end_mates : field (tag_written w x c a o d ws) o at_mate ≡ x
    end_mates =
        rw written (field_other_tag second x o at_up at_mate (field ws o at_up) (omega arith) (omega arith) (λ e. apart (sym e))
        ∙ field_same first o at_mate x (record_room w.end o first first_long begun) (omega arith))

    pub end_opens : open_behind w x c a o ws ≡ field ws o at_up
    unfolding open_behind new_up
    end_opens = rw is_end (rw is_end at (up_kept apart))

-- the innermost open begin behind a begin is itself, behind a text what it was
pub begin_opens : (w : rows.Row) (x c a o : ℕ) (ws : List ℕ) → c ≡ 1 → open_behind w x c a o ws ≡ x
unfolding open_behind new_up
begin_opens w x c a o ws e = rw e

pub text_opens : (w : rows.Row) (x c a o : ℕ) (ws : List ℕ) → c ≡ 3 → open_behind w x c a o ws ≡ o
unfolding open_behind new_up
text_opens w x c a o ws e = rw e
