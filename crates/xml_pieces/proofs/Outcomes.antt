-- What a reading comes to, where kinds are written on its way; and what a single construct leaves to be read. Assumes nothing.
use mathlib.Core.Path.{◌≡◌, refl, sym, ◌∙◌, ap}
use mathlib.Core.Bool.{Bool, true, false, cond}
use mathlib.Core.List.{List, [], ◌∷◌}
use Prim.Native.Nat.{ℕ, suc, ◌+◌, ◌≤◌, ◌<◌}
use native.Mathlib.Numerals.{add-one}
use native.Mathlib.Omega.{arith}
use lib.ListN.{length, drop, set, length-set}
use Rattle.xml.specs.Grammar.{at_place}
use Rattle.xml.specs.Reader.{Reading, accepted, refused, preceded, text_kind, read_from}
use Rattle.xml_laws.proofs.Data.{none_preceded}
use Rattle.xml_pieces.specs.declared.Cursor.{Cursor}
use Rattle.std.specs.Prelude.{Ok, Err}
use Rattle.store_types.specs.declared.refusal.Refusal.{Refusal}
use Rattle.store_types.specs.Replies.{number_of}
use Rattle.xml_pieces.specs.declared.Piece.TheVariants as found
use Rattle.xml_pieces.specs.Pieces.{PieceRight}
use Rattle.xml_pieces.specs.Outcome.{in_text, finish, outcome, cursor_at, InText, Reached, ReadsOn}

-- a kind that is written is one of the reading's
pub finish_kind : (n k : ℕ) (ls : List ℕ) (q : Reading) → finish (n + 1) (set ls n k) q ≡ finish n ls (preceded (k ∷ []) q)
unfolding finish preceded
finish_kind n k ls (accepted ks) =
    let e : n + 1 + length ks ≡ n + suc (length ks) = omega arith in
    rw (e, add-one n)
finish_kind n k ls (refused m) = refl

pub finish_text : (n : ℕ) (r : Bool) (ls : List ℕ) (q : Reading) →
    finish (cond r n (n + 1)) (cond r ls (set ls n 3)) q ≡ finish n ls (preceded (text_kind r) q)
finish_text n true ls q = ap (finish n ls) (sym (none_preceded q))
finish_text n false ls q = finish_kind n 3 ls q

-- A PIECE OF A TEXT, with the kind of a text where one begins
text_count : (r : Bool) (n i e : ℕ) → n ≤ i → i < e → cond r n (n + 1) ≤ e
text_count true n i e h l = omega arith
text_count false n i e h l = omega arith

text_long : (r : Bool) (ls : List ℕ) (n : ℕ) → length (cond r ls (set ls n 3)) ≡ length ls
text_long true ls n = refl
text_long false ls n = length-set ls n 3

pub text_on : (bs : List ℕ) (d : ℕ) (c : Cursor) (e n : ℕ) (ls ls' : List ℕ) → InText bs c → PieceRight bs c.at (Ok (found.Text e)) →
    n ≡ cond (in_text c) c.count (c.count + 1) → ls' ≡ cond (in_text c) ls (set ls c.count 3) → ReadsOn bs d c (suc c.at) ls ls' (Ok (cursor_at e n 1))
unfolding PieceRight outcome Reached
text_on bs d c e n ls ls' h p is are =
    rw (is, are) (record {
      same = λ os _. finish_text c.count (in_text c) ls _ ∙ ap (finish c.count ls) (sym (p.1 os (in_text c)));
      reached = (record { within = p.0.within; counted = text_count (in_text c) c.count c.at e h.counted p.0.on }, p.0.on);
      long = text_long (in_text c) ls c.count;
    })

pub comment_on : (bs : List ℕ) (d : ℕ) (c : Cursor) (e : ℕ) (ls : List ℕ) → InText bs c → PieceRight bs c.at (Ok (found.Comment e)) →
    ReadsOn bs d c (suc c.at) ls ls (Ok (cursor_at e c.count 0))
unfolding PieceRight outcome Reached
comment_on bs d c e ls h p =
    record {
      same = λ os _. ap (finish c.count ls) (sym (p.1 os (in_text c)));
      reached = (record { within = p.0.within; counted = omega (arith, h.counted, p.0.on) }, p.0.on);
      long = refl;
    }

pub refused_on : (bs : List ℕ) (d : ℕ) (c : Cursor) (k : Refusal) (least : ℕ) (ls : List ℕ) → ((os : List (List ℕ)) → length os + d ≡ 64 → read_from (at_place os) (in_text c) 0 (drop c.at bs) ≡ refused (number_of k)) →
    ReadsOn bs d c least ls ls (Err k)
unfolding outcome Reached finish
refused_on bs d c k least ls e = record { same = λ os w. ap (finish c.count ls) (sym (e os w)); reached = tt; long = refl }

pub piece_refused : (bs : List ℕ) (d : ℕ) (c : Cursor) (k : Refusal) (ls : List ℕ) → PieceRight bs c.at (Err k) → ReadsOn bs d c (suc c.at) ls ls (Err k)
unfolding PieceRight
piece_refused bs d c k ls p = refused_on bs d c k (suc c.at) ls (λ os _. p os (in_text c))
