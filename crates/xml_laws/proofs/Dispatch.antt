-- What the next construct is, by the strings that begin the rest of a text, and what one step comes to: the laws by which the
-- code's branches are proved. Assumes nothing.
use mathlib.Core.Path.{◌≡◌, refl, sym, ◌∙◌, ap}
use mathlib.Core.Bool.{Bool, true, false, true≢false}
use mathlib.Core.List.{List, [], ◌∷◌, ◌++◌}
use Prim.Native.Nat.{ℕ, suc, pred}
use lib.ListN.{length, drop}
use Rattle.lists.specs.Lists.{first}
use Rattle.lists.specs.Fronts.{starts_with}
use Rattle.lists.proofs.Fronts.{rest_of, starts_no_longer}
use Rattle.xml.specs.Bytes.{is_name_start, less_than, ampersand, two_hyphens, comment_opens, cdata_opens, cdata_closes, end_opens, declaration_opens, instruction_opens, doctype_opens}
use Rattle.xml.specs.Grammar.{Place, at_place, refused_opener, not_a_sheet, not_read}
use Rattle.xml.specs.Scan.{name_length, reference_length, body_length, tag_at}
use Rattle.xml.specs.Reader.{Step, next, markup_step, comment_step, cdata_step, end_step, tag_step, reference_step, used, past, of_text, gives, Reading, refused, preceded, reading, read_from}
use Rattle.xml.specs.Reader as reader
use Rattle.xml_laws.specs.Steps.{is_stuck}
use Rattle.xml_laws.proofs.Readings.{stepped}

-- ONE STEP, of whatever begins the rest
went : (r : Bool) (s : Step) (q : Reading) → is_stuck s ≡ false → reading r s q ≡ preceded (gives r s) q
unfolding reading is_stuck
went r (reader.Step.stuck k) q e = absurd (true≢false e)
went r (reader.Step.one_byte c) q e = refl
went r (reader.Step.piece u) q e = refl
went r (reader.Step.aside u) q e = refl
went r (reader.Step.opening n u) q e = refl
went r (reader.Step.whole u) q e = refl
went r (reader.Step.closing u) q e = refl

pub step_read : (p : Place) (r : Bool) (cs : List ℕ) (s : Step) (u : ℕ) → next p cs ≡ s → is_stuck s ≡ false → used s ≡ suc u →
    read_from p r 0 cs ≡ preceded (gives r s) (read_from (past s p) (of_text s) 0 (drop (used s) cs))
unfolding next is_stuck
step_read p r [] s u e f h = absurd (true≢false (ap is_stuck e ∙ f))
step_read p r (c ∷ cs) s u e f h =
    stepped p r c cs
    ∙ ap (λ (t : Step). reading r t (read_from (past t p) (of_text t) 0 (drop (pred (used t)) cs))) e
    ∙ went r s _ f
    ∙ rw h

pub step_refused : (p : Place) (r : Bool) (c : ℕ) (cs : List ℕ) (n : ℕ) → next p (c ∷ cs) ≡ reader.Step.stuck n → read_from p r 0 (c ∷ cs) ≡ refused n
unfolding reading
step_refused p r c cs n e =
    stepped p r c cs ∙ ap (λ (t : Step). reading r t (read_from (past t p) (of_text t) 0 (drop (pred (used t)) cs))) e

-- REFERENCES
pub next_reference : (p : Place) (cs : List ℕ) → next p (ampersand ∷ cs) ≡ reference_step (reference_length (ampersand ∷ cs))
unfolding next
next_reference p cs = refl

-- MARKUP, by what begins it
pub next_markup : (p : Place) (cs : List ℕ) → next p (less_than ∷ cs) ≡ markup_step p (less_than ∷ cs)
unfolding next
next_markup p cs = refl

markup_comment : (p : Place) (cs : List ℕ) → starts_with comment_opens cs ≡ true →
    markup_step p cs ≡ comment_step (drop (length comment_opens) cs) (body_length two_hyphens (drop (length comment_opens) cs))
unfolding markup_step first
markup_comment p cs e = rw e

markup_cdata : (p : Place) (cs : List ℕ) → starts_with comment_opens cs ≡ false → starts_with cdata_opens cs ≡ true →
    markup_step p cs ≡ cdata_step (body_length cdata_closes (drop (length cdata_opens) cs))
unfolding markup_step first
markup_cdata p cs e f = rw (e, f)

-- what begins with a string that begins with <
pub next_opened : (p : Place) (xs cs : List ℕ) → starts_with (less_than ∷ xs) cs ≡ true → next p cs ≡ markup_step p cs
next_opened p xs cs e =
    let split = rest_of (less_than ∷ xs) cs e in
    ap (next p) split ∙ next_markup p _ ∙ ap (markup_step p) (sym split)

pub next_comment : (p : Place) (cs : List ℕ) → starts_with comment_opens cs ≡ true →
    next p cs ≡ comment_step (drop (length comment_opens) cs) (body_length two_hyphens (drop (length comment_opens) cs))
next_comment p cs e = next_opened p _ cs e ∙ markup_comment p cs e

no_comment : (cs : List ℕ) → starts_with cdata_opens cs ≡ true → starts_with comment_opens cs ≡ false
unfolding starts_with
no_comment cs e = rw (rest_of cdata_opens cs e)

pub next_cdata : (p : Place) (cs : List ℕ) → starts_with cdata_opens cs ≡ true → next p cs ≡ cdata_step (body_length cdata_closes (drop (length cdata_opens) cs))
next_cdata p cs e = next_opened p _ cs e ∙ markup_cdata p cs (no_comment cs e) e

-- neither a comment nor a CDATA section nor an end tag
module _ (p : Place) (cs : List ℕ) (e : starts_with comment_opens cs ≡ false) (f : starts_with cdata_opens cs ≡ false) (g : starts_with end_opens cs ≡ false) where
  pub markup_refused : refused_opener cs ≡ true → markup_step p cs ≡ reader.Step.stuck not_read
  unfolding markup_step first
  markup_refused h = rw (e, f, g, h)

  pub markup_tag : refused_opener cs ≡ false → markup_step p cs ≡ tag_step (length p.opened) cs (tag_at cs)
  unfolding markup_step first
  markup_tag h = rw (e, f, g, h)

-- AN ELEMENT begins where < stands with no ! and no ? behind it
pub next_tag : (p : Place) (cs : List ℕ) → starts_with declaration_opens (less_than ∷ cs) ≡ false → starts_with instruction_opens (less_than ∷ cs) ≡ false →
    starts_with end_opens (less_than ∷ cs) ≡ false → next p (less_than ∷ cs) ≡ tag_step (length p.opened) (less_than ∷ cs) (tag_at (less_than ∷ cs))
unfolding refused_opener
next_tag p cs d i g =
    let all = less_than ∷ cs in
    next_markup p cs
    ∙ markup_tag p all (starts_no_longer declaration_opens (45 ∷ 45 ∷ []) all d) (starts_no_longer declaration_opens (91 ∷ 67 ∷ 68 ∷ 65 ∷ 84 ∷ 65 ∷ 91 ∷ []) all d) g
    (rw (i, starts_no_longer declaration_opens (68 ∷ 79 ∷ 67 ∷ 84 ∷ 89 ∷ 80 ∷ 69 ∷ []) all d))

-- ! begins no name
no_name : (d : ℕ) (rest : List ℕ) → tag_step d (declaration_opens ++ rest) (tag_at (declaration_opens ++ rest)) ≡ reader.Step.stuck not_a_sheet
unfolding tag_at name_length tag_step is_name_start
no_name d rest = refl

no_end : (cs : List ℕ) → starts_with declaration_opens cs ≡ true → starts_with end_opens cs ≡ false
unfolding starts_with
no_end cs d = rw (rest_of declaration_opens cs d)

no_instruction : (cs : List ℕ) → starts_with declaration_opens cs ≡ true → starts_with instruction_opens cs ≡ false
unfolding starts_with
no_instruction cs d = rw (rest_of declaration_opens cs d)

-- so a declaration that is none of these is no construct
pub declaration_broken : (p : Place) (cs : List ℕ) → starts_with declaration_opens cs ≡ true → starts_with comment_opens cs ≡ false → starts_with cdata_opens cs ≡ false →
    starts_with doctype_opens cs ≡ false → markup_step p cs ≡ reader.Step.stuck not_a_sheet
unfolding refused_opener
declaration_broken p cs d e f h =
    markup_tag p cs e f (no_end cs d) (rw (no_instruction cs d, h))
    ∙ ap (λ l. tag_step (length p.opened) l (tag_at l)) (rest_of declaration_opens cs d)
    ∙ no_name (length p.opened) (drop (length declaration_opens) cs)

-- END TAGS
pub next_end : (n : List ℕ) (os : List (List ℕ)) (cs : List ℕ) → starts_with end_opens cs ≡ true → next (at_place (n ∷ os)) cs ≡ end_step (n ∷ []) cs
unfolding next markup_step first starts_with end_step
next_end n os cs e = rw (rest_of end_opens cs e)

-- with no element open it closes nothing
pub next_unopened : (cs : List ℕ) → starts_with end_opens cs ≡ true → next (at_place []) cs ≡ reader.Step.stuck not_a_sheet
unfolding next markup_step first starts_with end_step
next_unopened cs e = rw (rest_of end_opens cs e)
