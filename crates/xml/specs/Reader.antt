-- The reader of a sheet: construct after construct from the left, with the names of the open elements (document 02, CR 1).
-- What it replies is what the grammar says: Promise.antt. Assumes nothing: these are definitions.
use Rattle.std.specs.Prelude.{Bool, true, false, ◌&&◌, not, cond, List, [], ◌∷◌, ◌++◌, ℕ, zero, suc, pred, ◌+◌, ltb, eqb, length, take, drop}
use Rattle.std.proofs.Math.Option.{Option, none, some}
use Rattle.lists.specs.Lists.{first}
use Rattle.lists.specs.Fronts.{starts_with}
use Rattle.xml.specs.Bytes.{is_char, is_space, less_than, greater_than, ampersand, comment_opens, comment_closes, two_hyphens, cdata_opens, cdata_closes, end_opens, tag_closes}
use Rattle.xml.specs.Grammar.{Place, most_depth, brackets_after, tail_of, at_place, top, not_a_sheet, too_deep, not_read, refused_opener}
use Rattle.xml.specs.Scan.{run, reference_length, body_length, SizedTag, tag_at}

-- THE NEXT CONSTRUCT, by what the reader needs of it: how many bytes it has, and a start tag's name; or the refusal
pub data Step : Type 0 where
  stuck : (number : ℕ) → Step
  one_byte : (c : ℕ) → Step
  piece : (used : ℕ) → Step
  aside : (used : ℕ) → Step
  opening : (name : List ℕ) → (used : ℕ) → Step
  whole : (used : ℕ) → Step
  closing : (used : ℕ) → Step

-- a CDATA section, which is a piece of a text
unfoldable pub cdata_step : (body : Option ℕ) → Step
cdata_step none = stuck not_a_sheet
cdata_step (some m) = piece (length cdata_opens + (m + length cdata_closes))

-- a comment: the first two hyphens behind its opener are those of its closer
unfoldable pub comment_step : (after_opener : List ℕ) → (body : Option ℕ) → Step
comment_step cs none = stuck not_a_sheet
comment_step cs (some m) =
    cond (starts_with comment_closes (drop m cs)) (aside (length comment_opens + (m + length comment_closes))) (stuck not_a_sheet)

-- an end tag, which has the innermost open name
unfoldable pub end_step : (opened : List (List ℕ)) → List ℕ → Step
end_step [] cs = stuck not_a_sheet
end_step (n ∷ ns) cs =
    let e = length (end_opens ++ n) in
    let g = run is_space (drop e cs) in
    cond (starts_with (end_opens ++ n) cs && starts_with tag_closes (drop (e + g) cs)) (closing (suc (e + g))) (stuck not_a_sheet)

-- a start tag or empty-element tag
unfoldable pub tag_step : (depth : ℕ) → List ℕ → Option SizedTag → Step
tag_step d cs none = stuck not_a_sheet
tag_step d cs (some t) =
    cond (ltb d most_depth) (cond t.lone (whole t.used) (opening (take t.name (drop 1 cs)) t.used)) (stuck too_deep)

-- what begins with <
unfoldable pub markup_step : Place → List ℕ → Step
markup_step p cs =
    first
    ((starts_with comment_opens cs, comment_step (drop (length comment_opens) cs) (body_length two_hyphens (drop (length comment_opens) cs)))
    ∷ (starts_with cdata_opens cs, cdata_step (body_length cdata_closes (drop (length cdata_opens) cs)))
    ∷ (starts_with end_opens cs, end_step p.opened cs)
    ∷ (refused_opener cs, stuck not_read) ∷ [])
    (tag_step (length p.opened) cs (tag_at cs))

unfoldable pub reference_step : (used : ℕ) → Step
reference_step zero = stuck not_a_sheet
reference_step (suc k) = piece (suc k)

unfoldable pub datum_step : (brackets c : ℕ) → Step
datum_step b c = cond (is_char c && not (eqb c greater_than && eqb b 2)) (one_byte c) (stuck not_a_sheet)

unfoldable pub next : Place → List ℕ → Step
next p [] = stuck not_a_sheet
next p (c ∷ cs) =
    cond (eqb c less_than) (markup_step p (c ∷ cs))
    (cond (eqb c ampersand) (reference_step (reference_length (c ∷ cs))) (datum_step p.brackets c))

-- how many bytes it has
unfoldable pub used : Step → ℕ
used (stuck k) = 0
used (one_byte c) = 1
used (piece u) = u
used (aside u) = u
used (opening n u) = u
used (whole u) = u
used (closing u) = u

-- the place behind it
unfoldable pub past : Step → Place → Place
past (stuck k) p = p
past (one_byte c) p = record { opened = p.opened; brackets = brackets_after c p.brackets }
past (piece u) p = at_place p.opened
past (aside u) p = at_place p.opened
past (opening n u) p = at_place (n ∷ p.opened)
past (whole u) p = at_place p.opened
past (closing u) p = at_place (tail_of p.opened)

-- whether a text goes on behind it
unfoldable pub of_text : Step → Bool
of_text (stuck k) = false
of_text (one_byte c) = true
of_text (piece u) = true
of_text (aside u) = false
of_text (opening n u) = false
of_text (whole u) = false
of_text (closing u) = false

-- the kind of a text where one begins
abbrev pub text_kind : (in_text : Bool) → List ℕ
text_kind r = cond r [] (3 ∷ [])

-- the kinds that it gives: 1 begin, 2 end, 3 where a text begins
unfoldable pub gives : (in_text : Bool) → Step → List ℕ
gives r (stuck k) = []
gives r (one_byte c) = text_kind r
gives r (piece u) = text_kind r
gives r (aside u) = []
gives r (opening n u) = 1 ∷ []
gives r (whole u) = 1 ∷ 2 ∷ []
gives r (closing u) = 2 ∷ []

-- THE READER: the kinds, or the refusal
pub data Reading : Type 0 where
  accepted : (kinds : List ℕ) → Reading
  refused : (number : ℕ) → Reading

unfoldable pub preceded : (kinds : List ℕ) → Reading → Reading
preceded ks (accepted ls) = accepted (ks ++ ls)
preceded ks (refused n) = refused n

-- what a construct comes to, with the reading of what stands behind it
unfoldable pub reading : (in_text : Bool) → Step → (rest : Reading) → Reading
reading r (stuck n) q = refused n
reading r (one_byte c) q = preceded (gives r (one_byte c)) q
reading r (piece u) q = preceded (gives r (piece u)) q
reading r (aside u) q = preceded (gives r (aside u)) q
reading r (opening n u) q = preceded (gives r (opening n u)) q
reading r (whole u) q = preceded (gives r (whole u)) q
reading r (closing u) q = preceded (gives r (closing u)) q

-- at the end of the text no element is open
unfoldable pub at_end : (opened : List (List ℕ)) → Reading
at_end [] = accepted []
at_end (n ∷ ns) = refused not_a_sheet

-- a text from a place on; `skip` bytes of it have been read already
unfoldable pub read_from : Place → (in_text : Bool) → (skip : ℕ) → List ℕ → Reading
read_from p r m [] = at_end p.opened
read_from p r (suc m) (c ∷ cs) = read_from p r m cs
read_from p r zero (c ∷ cs) =
    let s = next p (c ∷ cs) in
    let rest = read_from (past s p) (of_text s) (pred (used s)) cs in
    reading r s rest

unfoldable pub read_sheet : List ℕ → Reading
read_sheet bs = read_from top false 0 bs
