-- One step more of a piece, and one piece more of an input: what is printed of them all was written. Assumes nothing.
use Rattle.std.proofs.Common.{◌≡◌, ℕ, List, [], ◌∷◌, ◌++◌, Option, IfSome, Result, Ok, Err, OnOk, sym, ap, ◌∙◌, append_assoc, append-nil, length, take, drop, ◌-◌, arith}
use lib.ListN.{length-drop}
use lib.Seq.{take_all}
use Rattle.std.specs.Io.KnownBytes.{Appends, Consumes, IsAtEnd}
use Rattle.std.proofs.KnownBytes.{Appends-nil, Appends-trans, Consumes-nil, Consumes-trans, Consumes-whole}
use Rattle.line_reader.specs.Lines.{lines}
use Rattle.line_reader.specs.Reads.{whole, last_line}
use Rattle.interpreter.specs.Session.{texts, Steps, Passes, over, Passed, Talks, ends, piece}
use Rattle.interpreter.proofs.Steps.{steps_pass}
use Rattle.interpreter.proofs.Sessions.{pieces_printed}
use Rattle.terminal.specs.Talk.{PassedOut, Told}

-- A PIECE by steps: what is left of it is passed as the whole is, behind what was said
pub record Going (held words piece h ws rest : List ℕ) (before after : Option (List ℕ)) : Type 0 where
  pub said : List ℕ
  pub passes : (a b t : List ℕ) → Passes h ws rest a b t → Passes held words piece a b (said ++ t)
  pub written : Appends before after said

pub going_first : (h ws p : List ℕ) (out : Option (List ℕ)) → Going h ws p h ws p out out
going_first h ws p out = record { said = []; passes = λ a b t x. x; written = Appends-nil out }

pub going_on : {held words piece h ws rest line ws' text : List ℕ} {taken : ℕ} {before mid after : Option (List ℕ)} →
    Going held words piece h ws rest before mid → Steps h rest ws line ws' text taken → Appends mid after text →
    Going held words piece line ws' (take (length rest - taken) (drop taken rest)) before after
going_on {rest = rest} {text = text} {taken = taken} g s w = record {
  said = g.said ++ text;
  passes = λ a b u x. rw (append_assoc g.said text u) (g.passes a b (text ++ u) (steps_pass s (rw (left rest taken) at x)));
  written = Appends-trans _ _ _ g.said text g.written w;
}
  where
    left : (xs : List ℕ) (k : ℕ) → take (length xs - k) (drop k xs) ≡ drop k xs
    left xs k = take_all (length xs - k) (drop k xs) (omega (arith, length-drop k xs))

pub going_over : {held words p h ws : List ℕ} (rest : List ℕ) {before after : Option (List ℕ)} → length rest ≡ 0 → Going held words p h ws rest before after → PassedOut held words p h ws before after
going_over [] e g = record { printed = g.said ++ []; passes = g.passes _ _ [] over; written = rw (append-nil g.said) g.written }
going_over (c ∷ rest) e g = absurd (omega arith)

pub passed_of : {held words p h ws : List ℕ} {before after : Option (List ℕ)} → PassedOut held words p h ws before after → Passed held words p h ws
passed_of o = record { printed = o.printed; passes = o.passes }

-- AN INPUT by pieces: any that follow are talked of as all are, behind what was printed
pub record Speaking (words h ws : List ℕ) (left left' before after : Option (List ℕ)) : Type 0 where
  pub pieces : List (List ℕ)
  pub printed : List ℕ
  pub onward : (ps : List (List ℕ)) (u : List ℕ) → Talks h ws ps u → Talks [] words (pieces ++ ps) (printed ++ u)
  pub read : Consumes left left' (whole pieces)
  pub written : Appends before after printed

whole_append : (ps : List (List ℕ)) (p : List ℕ) → whole (ps ++ (p ∷ [])) ≡ whole ps ++ p
unfolding whole
whole_append [] p = append-nil p
whole_append (q ∷ ps) p = ap (λ k. q ++ k) (whole_append ps p) ∙ sym (append_assoc q (whole ps) p)

pub speaking_first : (ws : List ℕ) (left out : Option (List ℕ)) → Speaking ws [] ws left left out out
unfolding whole
speaking_first ws left out = record { pieces = []; printed = []; onward = λ ps u x. x; read = Consumes-nil left; written = Appends-nil out }

pub speaking_on : {words h ws p h' ws' : List ℕ} {left left' left'' before mid after : Option (List ℕ)} → Speaking words h ws left left' before mid →
    PassedOut h ws p h' ws' mid after → Consumes left' left'' p → Speaking words h' ws' left left'' before after
speaking_on {p = p} s o r = record {
  pieces = s.pieces ++ (p ∷ []);
  printed = s.printed ++ o.printed;
  onward = λ ps u x. rw (append_assoc s.pieces (p ∷ []) ps, append_assoc s.printed o.printed u) (s.onward (p ∷ ps) (o.printed ++ u) (piece o.passes x));
  read = rw (whole_append s.pieces p) (Consumes-trans _ _ _ (whole s.pieces) p s.read r);
  written = Appends-trans _ _ _ s.printed o.printed s.written o.written;
}

pub speaking_over : {words h ws : List ℕ} {left left' left'' before after : Option (List ℕ)} → Speaking words h ws left left' before after →
    Consumes left' left'' [] → IsAtEnd left'' → Told words h ws left left'' before after
speaking_over {h = h} {ws = ws} s r e = record {
  pieces = s.pieces;
  printed = s.printed;
  talks = rw (append-nil s.pieces) at (s.onward [] (texts ws (last_line h)) ends);
  read = rw (append-nil (whole s.pieces)) at (Consumes-trans _ _ _ (whole s.pieces) [] s.read r);
  end = e;
  written = s.written;
}

-- ALL of it, with the last line's text
pub told_all : {words h ws : List ℕ} {left left' before mid : Option (List ℕ)} (after : Option (List ℕ)) → Told words h ws left left' before mid → Appends mid after (texts ws (last_line h)) →
    IfSome left (λ xs. Appends before after (texts words (lines xs)))
told_all {words} {h} {ws} {left} {left'} {before} {mid} after t w =
    let all : Appends before after (t.printed ++ texts ws (last_line h)) = Appends-trans _ _ _ t.printed (texts ws (last_line h)) t.written w in
    Consumes-whole _ _ _ (λ xs. Appends before after (texts words (lines xs))) t.read t.end (rw ((pieces_printed words t.pieces (t.printed ++ texts ws (last_line h))).0 t.talks) at all)

pub on_ok : {A E P Q : Type 0} (r : Result A E) → (P → Q) → OnOk r P → OnOk r Q
on_ok (Ok x) f p = f p
on_ok (Err e) f p = tt
