-- End tags: the opener, the open name, spaces and >, one after the other. Assumes nothing.
use mathlib.Core.Path.{◌≡◌, refl, sym, ◌∙◌, ap}
use mathlib.Core.Bool.{Bool, true, false, ◌&&◌, not, cond}
use mathlib.Core.List.{List, [], ◌∷◌, ◌++◌}
use Prim.Native.Nat.{ℕ, suc, ◌+◌, ◌≤◌, ◌<◌}
use native.Mathlib.Omega.{arith}
use borrow.Author.Tests.{not-false}
use Rattle.std.specs.Prelude.{Some, None, Ok, Err}
use lib.ListN.{length, drop, set, length-drop, length-set}
use lib.Seq.{drop-drop, drop-cons, drop-length}
use Rattle.lists.specs.Fronts.{starts_with}
use Rattle.lists.proofs.Fronts.{starts_both}
use Rattle.xml.specs.Bytes.{is_space, end_opens, tag_closes}
use Rattle.xml.specs.Grammar.{at_place, tail_of, not_a_sheet}
use Rattle.xml.specs.Scan.{run}
use Rattle.xml.specs.Reader.{Step, next, end_step, gives, past, of_text, used, refused, preceded, at_end, read_from}
use Rattle.xml.specs.Reader as reader
use Rattle.xml_laws.specs.Steps.{is_stuck}
use Rattle.xml_laws.proofs.Bounds.{stands_within}
use Rattle.xml_laws.proofs.Dispatch.{step_read, step_refused, next_end}
use Rattle.xml_laws.proofs.Within.{step_within}
use Rattle.xml_pieces.specs.declared.Cursor.{Cursor}
use Rattle.store_types.specs.declared.refusal.Refusal.TheVariants.{NotASheet}
use Rattle.store_types.specs.Replies.{number_of}
use Rattle.xml_pieces.specs.Pieces.{goes_on, closing_found}
use Rattle.xml_pieces.specs.Outcome.{in_text, finish, outcome, cursor_at, InText, Reached, Closes}
use Rattle.xml_pieces.proofs.PieceLaws.{dropped, some_used}
use Rattle.xml_pieces.proofs.Outcomes.{finish_kind}

-- whether content goes on, at the end of the text and before it
pub over : (bs : List ℕ) (i : ℕ) → i ≡ length bs → goes_on (drop i bs) ≡ false
unfolding goes_on
over bs i e = rw (e, drop-length bs)

pub goes_on_is : (bs : List ℕ) (i : ℕ) → i < length bs → goes_on (drop i bs) ≡ not (starts_with end_opens (drop i bs))
unfolding goes_on
goes_on_is bs i h = rw (drop-cons bs i 0 h)

-- THE END TAG of a name at a place, test by test
module _ (bs n : List ℕ) (i : ℕ) where
  abbrev spaced : ℕ
  spaced = i + 2 + length n

  abbrev closed : ℕ
  closed = spaced + run is_space (drop spaced bs)

  -- the reader's step, by whether the name stands there and the spaces behind it
  abbrev by_spaces : Bool → ℕ → Step
  by_spaces t g =
      cond (t && starts_with tag_closes (drop (length (end_opens ++ n) + g) (drop i bs))) (reader.Step.closing (suc (length (end_opens ++ n) + g))) (reader.Step.stuck not_a_sheet)

  whole : Bool
  whole = starts_with end_opens (drop i bs) && starts_with n (drop (i + 2) bs)

  abbrev named : ℕ
  named = length (end_opens ++ n)

  end_is : end_step (n ∷ []) (drop i bs) ≡ cond (whole && starts_with tag_closes (drop closed bs)) (reader.Step.closing (suc (named + run is_space (drop spaced bs)))) (reader.Step.stuck not_a_sheet)
  unfolding end_step whole
  end_is =
      let both = starts_both end_opens n (drop i bs) ∙ ap (λ (l : List ℕ). starts_with end_opens (drop i bs) && starts_with n l) (drop-drop 2 i bs) in
      let e : drop named (drop i bs) ≡ drop spaced bs = dropped bs named i spaced (omega arith) in
      let f : drop (named + run is_space (drop spaced bs)) (drop i bs) ≡ drop closed bs = dropped bs (named + run is_space (drop spaced bs)) i closed (omega arith) in
      ap (λ (l : List ℕ). by_spaces (starts_with (end_opens ++ n) (drop i bs)) (run is_space l)) e
      ∙ ap (λ (t : Bool). by_spaces t (run is_space (drop spaced bs))) both
      ∙ ap (λ (l : List ℕ). cond (whole && starts_with tag_closes l) (reader.Step.closing (suc (named + run is_space (drop spaced bs)))) (reader.Step.stuck not_a_sheet)) f

  module _ (opens : starts_with end_opens (drop i bs) ≡ true) where
    module _ (same : starts_with n (drop (i + 2) bs) ≡ true) where
      pub end_room : i ≤ length bs → spaced ≤ length bs
      end_room l = stands_within n bs (i + 2) (stands_within end_opens bs i l opens) same

      pub end_closed : starts_with tag_closes (drop closed bs) ≡ true → Some (closed + 1) ≡ closing_found i (end_step (n ∷ []) (drop i bs))
      unfolding whole closing_found
      end_closed e =
          let z : closed + 1 ≡ i + suc (named + run is_space (drop spaced bs)) = omega arith in
          rw (end_is, opens, same, e, z)

      pub end_unclosed : starts_with tag_closes (drop closed bs) ≡ false → None ≡ closing_found i (end_step (n ∷ []) (drop i bs))
      unfolding whole closing_found
      end_unclosed e = rw (end_is, opens, same, e)

    pub end_other : starts_with n (drop (i + 2) bs) ≡ false → None ≡ closing_found i (end_step (n ∷ []) (drop i bs))
    unfolding whole closing_found
    end_other e = rw (end_is, opens, e)

  pub end_none : starts_with end_opens (drop i bs) ≡ false → None ≡ closing_found i (end_step (n ∷ []) (drop i bs))
  unfolding whole closing_found
  end_none e = rw (end_is, e)

-- BEHIND THE CONTENT of an element, with the element open: its end tag goes on, anything else is refused
data Told (s : Step) : Type 0 where
  closes : (u : ℕ) → s ≡ reader.Step.closing u → Told s
  breaks : s ≡ reader.Step.stuck not_a_sheet → Told s

picked : (t : Bool) (u : ℕ) → Told (cond t (reader.Step.closing u) (reader.Step.stuck not_a_sheet))
picked true u = closes u refl
picked false u = breaks refl

end_told : (n cs : List ℕ) → Told (end_step (n ∷ []) cs)
unfolding end_step
end_told n cs =
    let e = length (end_opens ++ n) in
    let g = run is_space (drop e cs) in
    picked (starts_with (end_opens ++ n) cs && starts_with tag_closes (drop (e + g) cs)) (suc (e + g))

nothing_ends : (n : List ℕ) → end_step (n ∷ []) [] ≡ reader.Step.stuck not_a_sheet
unfolding end_step starts_with
nothing_ends n = refl

goes_end : (c : ℕ) (cs : List ℕ) → goes_on (c ∷ cs) ≡ false → starts_with end_opens (c ∷ cs) ≡ true
unfolding goes_on
goes_end c cs g = not-false _ g

ended_refused : (n : List ℕ) (os : List (List ℕ)) (r : Bool) (cs : List ℕ) → goes_on cs ≡ false → end_step (n ∷ []) cs ≡ reader.Step.stuck not_a_sheet →
    read_from (at_place (n ∷ os)) r 0 cs ≡ refused not_a_sheet
unfolding read_from at_end
ended_refused n os r [] g e = refl
ended_refused n os r (c ∷ cs) g e = step_refused (at_place (n ∷ os)) r c cs not_a_sheet (next_end n os (c ∷ cs) (goes_end c cs g) ∙ e)

next_closing : (n : List ℕ) (os : List (List ℕ)) (cs : List ℕ) (u : ℕ) → goes_on cs ≡ false → end_step (n ∷ []) cs ≡ reader.Step.closing u → next (at_place (n ∷ os)) cs ≡ reader.Step.closing u
next_closing n os [] u g e = let z : ◌≡◌ {A = ℕ} 0 1 = cc (nothing_ends n) in absurd (omega arith)
next_closing n os (c ∷ cs) u g e = next_end n os (c ∷ cs) (goes_end c cs g) ∙ e

ended_read : (n : List ℕ) (os : List (List ℕ)) (r : Bool) (cs : List ℕ) (u : ℕ) → goes_on cs ≡ false → end_step (n ∷ []) cs ≡ reader.Step.closing u →
    read_from (at_place (n ∷ os)) r 0 cs ≡ preceded (2 ∷ []) (read_from (at_place os) false 0 (drop u cs))
unfolding gives past of_text used is_stuck tail_of
ended_read n os r cs u g e =
    let is = next_closing n os cs u g e in
    let w = step_within (at_place (n ∷ os)) cs _ is refl in
    let (k, far) = some_used u w.least in
    step_read (at_place (n ∷ os)) r cs _ k is refl far

-- the answers of the code's end tag
module _ (bs n : List ℕ) (c : Cursor) (ls : List ℕ) (h : InText bs c) (g : goes_on (drop c.at bs) ≡ false) where
  pub ending_missing : None ≡ closing_found c.at (end_step (n ∷ []) (drop c.at bs)) → Closes bs n c ls ls (Err NotASheet)
  unfolding closing_found outcome finish Reached number_of
  ending_missing e = go (end_told n (drop c.at bs))
    where
      go : Told (end_step (n ∷ []) (drop c.at bs)) → Closes bs n c ls ls (Err NotASheet)
      go (closes u is) = let z : ◌≡◌ {A = ℕ} 0 1 = cc (e ∙ ap (closing_found c.at) is) in absurd (omega arith)
      go (breaks is) = record { same = λ os. ap (finish c.count ls) (sym (ended_refused n os (in_text c) (drop c.at bs) g is)); reached = tt; long = refl }

  pub ending_found : (e : ℕ) → Some e ≡ closing_found c.at (end_step (n ∷ []) (drop c.at bs)) → Closes bs n c ls (set ls c.count 2) (Ok (cursor_at e (c.count + 1) 0))
  unfolding closing_found outcome Reached used is_stuck
  ending_found e f = go (end_told n (drop c.at bs))
    where
      go : Told (end_step (n ∷ []) (drop c.at bs)) → Closes bs n c ls (set ls c.count 2) (Ok (cursor_at e (c.count + 1) 0))
      go (breaks is) = let z : ◌≡◌ {A = ℕ} 0 1 = cc (f ∙ ap (closing_found c.at) is) in absurd (omega arith)
      go (closes u is) =
          let far : e ≡ c.at + u = cc (f ∙ ap (closing_found c.at) is) in
          let w = step_within (at_place (n ∷ [])) (drop c.at bs) _ (next_closing n [] (drop c.at bs) u g is) refl in
          let room = length-drop c.at bs in
          let some_byte = w.least in
          let most = w.most in
          record {
            same = λ os. finish_kind c.count 2 ls _ ∙ ap (finish c.count ls) (ap (λ l. preceded (2 ∷ []) (read_from (at_place os) false 0 l)) (sym (dropped bs u c.at e far)) ∙ sym (ended_read n os (in_text c) (drop c.at bs) u g is));
            reached = (record { within = omega (arith, far, room, most, h.within); counted = omega (arith, far, some_byte, h.counted) }, omega (arith, far));
            long = length-set ls c.count 2;
          }
