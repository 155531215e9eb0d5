-- What a step of the reader's definition says of a construct that is neither an element nor an end tag, at a place of the text.
-- Assumes nothing.
use mathlib.Core.Path.{◌≡◌, refl, sym, ◌∙◌, ap}
use mathlib.Core.Bool.{true, false, ◌&&◌, ◌||◌, not, true≢false}
use mathlib.Core.List.{List, [], ◌∷◌, ◌++◌}
use mathlib.Core.Option.{some}
use Prim.Native.Nat.{ℕ, zero, suc, ◌+◌, ◌≤◌, ◌<◌}
use native.Mathlib.Omega.{arith}
use borrow.Author.Tests.{eqb-true, not-true, ne_eqb}
use Rattle.std.specs.Prelude.{Some, None, Ok, Err}
use lib.Dec.{eqb}
use lib.ListN.{length, get_or, drop, length-drop, length-append}
use lib.Seq.{drop-drop, drop-cons}
use Rattle.lists.proofs.Tests.{by_test}
use Rattle.lists.specs.Fronts.{starts_with}
use Rattle.store_types.specs.declared.refusal.Refusal.{Refusal}
use Rattle.store_types.specs.declared.refusal.Refusal.TheVariants.{NotASheet, NotRead}
use Rattle.store_types.specs.Replies.{number_of}
use Rattle.xml.specs.Bytes.{is_char, less_than, ampersand, two_hyphens, comment_opens, comment_closes, cdata_opens, cdata_closes, declaration_opens, instruction_opens, doctype_opens, end_opens}
use Rattle.xml.specs.Grammar.{at_place, refused_opener}
use Rattle.xml.specs.Scan.{data_length, reference_length, body_length}
use Rattle.xml.specs.Reader.{Step, next, gives, past, of_text, used, read_from, comment_step, cdata_step, reference_step}
use Rattle.xml.specs.Reader as reader
use Rattle.xml_laws.specs.Steps.{is_stuck}
use Rattle.xml_laws.proofs.Bodies.{body_written}
use Rattle.xml_laws.proofs.Data.{none_preceded, later_some, data_within, data_read, data_refused}
use Rattle.xml_laws.proofs.Dispatch.{step_read, step_refused, next_reference, next_opened, next_comment, next_cdata, markup_refused, declaration_broken}
use Rattle.xml_laws.proofs.Within.{step_within}
use Rattle.xml_scan.specs.Post.{found, nonzero}
use Rattle.xml_scan.proofs.Seeks.{found_none, found_some}
use Rattle.xml_scan.proofs.References.{nonzero_none, nonzero_some}
use Rattle.xml_pieces.specs.declared.Piece.TheVariants as answer
use Rattle.xml_pieces.specs.Pieces.{goes_on, opens_element, MarkupHere, Behind, PieceRight}

-- so many bytes behind a place is another place
pub dropped : (bs : List ℕ) (m i e : ℕ) → e ≡ i + m → drop m (drop i bs) ≡ drop e bs
dropped bs m i e h = drop-drop m i bs ∙ rw h

-- STEPS at a place: a piece of a text, a comment, a refusal
reached : (bs : List ℕ) (i e : ℕ) (s : Step) → next (at_place []) (drop i bs) ≡ s → is_stuck s ≡ false → e ≡ i + used s → Behind bs i e
reached bs i e s n f h =
    let w = step_within (at_place []) (drop i bs) s n f in
    record { on = omega (arith, w.least, h); within = omega (arith, w.most, h, w.least, length-drop i bs) }

pub some_used : (u : ℕ) → 1 ≤ u → (k : ℕ) × (u ≡ suc k)
some_used zero h = absurd (omega arith)
some_used (suc k) h = (k, refl)

pub text_piece : (bs : List ℕ) (i u e : ℕ) → ((os : List (List ℕ)) → next (at_place os) (drop i bs) ≡ reader.Step.piece u) → e ≡ i + u → PieceRight bs i (Ok (answer.Text e))
unfolding PieceRight gives past of_text used is_stuck
text_piece bs i u e n h =
    let w = step_within (at_place []) (drop i bs) _ (n []) refl in
    let (k, is) = some_used u w.least in
    (reached bs i e _ (n []) refl h, λ os r. step_read (at_place os) r (drop i bs) _ k (n os) refl is ∙ rw (drop-drop u i bs, h))

pub comment_piece : (bs : List ℕ) (i u e : ℕ) → ((os : List (List ℕ)) → next (at_place os) (drop i bs) ≡ reader.Step.aside u) → e ≡ i + u → PieceRight bs i (Ok (answer.Comment e))
unfolding PieceRight gives past of_text used is_stuck
comment_piece bs i u e n h =
    let w = step_within (at_place []) (drop i bs) _ (n []) refl in
    let (k, is) = some_used u w.least in
    (reached bs i e _ (n []) refl h, λ os r. step_read (at_place os) r (drop i bs) _ k (n os) refl is ∙ none_preceded _ ∙ rw (drop-drop u i bs, h))

first_byte : (cs : List ℕ) → 0 < length cs → (c : ℕ) × (rest : List ℕ) × (cs ≡ c ∷ rest)
first_byte [] h = absurd (omega arith)
first_byte (c ∷ cs) h = (c, cs, refl)

pub refused_piece : (bs : List ℕ) (i : ℕ) (n : Refusal) → i < length bs → ((os : List (List ℕ)) → next (at_place os) (drop i bs) ≡ reader.Step.stuck (number_of n)) → PieceRight bs i (Err n)
unfolding PieceRight
refused_piece bs i n l e os r =
    let (c, cs, is) = first_byte (drop i bs) (omega (arith, length-drop i bs)) in
    rw is (step_refused (at_place os) r c cs (number_of n) (rw is at (e os)))

-- where a piece or a comment ends is in the text
pub text_within : (bs : List ℕ) (i e : ℕ) → PieceRight bs i (Ok (answer.Text e)) → e ≤ length bs
unfolding PieceRight
text_within bs i e h = h.0.within

pub comment_within : (bs : List ℕ) (i e : ℕ) → PieceRight bs i (Ok (answer.Comment e)) → e ≤ length bs
unfolding PieceRight
comment_within bs i e h = h.0.within

-- CDATA SECTIONS
module _ (bs : List ℕ) (i : ℕ) (within : i < length bs) (opens : starts_with cdata_opens (drop i bs) ≡ true) where
  cdata_next : (os : List (List ℕ)) → next (at_place os) (drop i bs) ≡ cdata_step (body_length cdata_closes (drop (i + 9) bs))
  cdata_next os = next_cdata (at_place os) (drop i bs) opens ∙ rw (drop-drop 9 i bs)

  pub cdata_found : (e : ℕ) → Some e ≡ found (i + 9) (body_length cdata_closes (drop (i + 9) bs)) → PieceRight bs i (Ok (answer.Text (e + 3)))
  unfolding cdata_step
  cdata_found e h =
      let (m, is, far) = found_some (i + 9) e _ h in
      text_piece bs i (9 + (m + 3)) (e + 3) (λ os. cdata_next os ∙ ap cdata_step is) (omega arith)

  pub cdata_missing : None ≡ found (i + 9) (body_length cdata_closes (drop (i + 9) bs)) → PieceRight bs i (Err NotASheet)
  unfolding cdata_step number_of
  cdata_missing h =
      refused_piece bs i NotASheet within (λ os. cdata_next os ∙ ap cdata_step (found_none (i + 9) _ h))

-- COMMENTS
-- two hyphens stand in the text
pub body_within : (bs : List ℕ) (a e : ℕ) → Some e ≡ found a (body_length two_hyphens (drop a bs)) → e ≤ length bs
body_within bs a e h =
    let (m, is, far) = found_some a e _ h in
    let b = body_written (45 ∷ []) 45 (drop a bs) m is in
    omega (arith, length-drop a bs, ap length b.written, length-append b.bytes (two_hyphens ++ b.more), b.size)

module _ (bs : List ℕ) (i : ℕ) (within : i < length bs) (opens : starts_with comment_opens (drop i bs) ≡ true) where
  comment_next : (os : List (List ℕ)) → next (at_place os) (drop i bs) ≡ comment_step (drop (i + 4) bs) (body_length two_hyphens (drop (i + 4) bs))
  comment_next os = next_comment (at_place os) (drop i bs) opens ∙ rw (drop-drop 4 i bs)

  pub comment_missing : None ≡ found (i + 4) (body_length two_hyphens (drop (i + 4) bs)) → PieceRight bs i (Err NotASheet)
  unfolding comment_step number_of
  comment_missing h =
      refused_piece bs i NotASheet within (λ os. comment_next os ∙ ap (comment_step (drop (i + 4) bs)) (found_none (i + 4) _ h))

  module _ (e : ℕ) (h : Some e ≡ found (i + 4) (body_length two_hyphens (drop (i + 4) bs))) where
    pub comment_found : starts_with comment_closes (drop e bs) ≡ true → PieceRight bs i (Ok (answer.Comment (e + 3)))
    unfolding comment_step
    comment_found t =
        let (m, is, far) = found_some (i + 4) e _ h in
        comment_piece bs i (4 + (m + 3)) (e + 3) (λ os. comment_next os ∙ ap (comment_step (drop (i + 4) bs)) is ∙ rw (dropped bs m (i + 4) e far, t)) (omega arith)

    pub comment_open : starts_with comment_closes (drop e bs) ≡ false → PieceRight bs i (Err NotASheet)
    unfolding comment_step number_of
    comment_open t =
        let (m, is, far) = found_some (i + 4) e _ h in
        refused_piece bs i NotASheet within (λ os. comment_next os ∙ ap (comment_step (drop (i + 4) bs)) is ∙ rw (dropped bs m (i + 4) e far, t))

-- WHAT ELSE BEGINS WITH <
pub no_end : (cs : List ℕ) → goes_on cs ≡ true → starts_with end_opens cs ≡ false
unfolding goes_on starts_with
no_end [] h = refl
no_end (c ∷ cs) h = not-true _ h

module _ (bs : List ℕ) (i : ℕ) (within : i < length bs) (h : MarkupHere (drop i bs)) (c : starts_with comment_opens (drop i bs) ≡ false) (d : starts_with cdata_opens (drop i bs) ≡ false) where
  opener_refused : refused_opener (drop i bs) ≡ true → PieceRight bs i (Err NotRead)
  unfolding number_of
  opener_refused r =
      refused_piece bs i NotRead within
      (λ os. next_opened (at_place os) [] (drop i bs) h.markup ∙ markup_refused (at_place os) (drop i bs) c d (no_end (drop i bs) h.here.goes) r)

  pub instruction_refused : starts_with instruction_opens (drop i bs) ≡ true → PieceRight bs i (Err NotRead)
  unfolding refused_opener
  instruction_refused e = opener_refused (rw e)

  pub doctype_refused : starts_with instruction_opens (drop i bs) ≡ false → starts_with doctype_opens (drop i bs) ≡ true → PieceRight bs i (Err NotRead)
  unfolding refused_opener
  doctype_refused e f = opener_refused (rw (e, f))

  pub declaration_refused : starts_with instruction_opens (drop i bs) ≡ false → starts_with doctype_opens (drop i bs) ≡ false → PieceRight bs i (Err NotASheet)
  unfolding opens_element number_of
  declaration_refused e f =
      refused_piece bs i NotASheet within
      (λ os.
      next_opened (at_place os) [] (drop i bs) h.markup
      ∙ declaration_broken (at_place os) (drop i bs) (by_test (starts_with declaration_opens (drop i bs)) (λ t. t) (λ t. absurd (true≢false (rw (h.markup, t, e) at h.here.none)))) c d f)

-- TEXT: the first byte decides
less : (c : ℕ) (cs : List ℕ) → starts_with (less_than ∷ []) (c ∷ cs) ≡ false → eqb c less_than ≡ false
unfolding starts_with
less c cs e = by_test (eqb c less_than) (λ t. absurd (true≢false (rw (eqb-true c less_than t) at e))) (λ t. t)

at_front : (bs : List ℕ) (i : ℕ) → i < length bs → drop i bs ≡ get_or bs i 0 ∷ drop (suc i) bs
at_front bs i h = drop-cons bs i 0 h

module _ (bs : List ℕ) (i : ℕ) (within : i < length bs) where
  reference_next : get_or bs i 0 ≡ ampersand → (os : List (List ℕ)) → next (at_place os) (drop i bs) ≡ reference_step (reference_length (drop i bs))
  reference_next e os =
      let is : drop i bs ≡ ampersand ∷ drop (suc i) bs = at_front bs i within ∙ rw e in
      rw is (next_reference (at_place os) (drop (suc i) bs))

  pub reference_missing : get_or bs i 0 ≡ ampersand → None ≡ nonzero (reference_length (drop i bs)) → PieceRight bs i (Err NotASheet)
  unfolding reference_step number_of
  reference_missing e z = refused_piece bs i NotASheet within (λ os. reference_next e os ∙ ap reference_step (nonzero_none _ z))

  pub reference_piece : (n : ℕ) → get_or bs i 0 ≡ ampersand → Some n ≡ nonzero (reference_length (drop i bs)) → PieceRight bs i (Ok (answer.Text (i + n)))
  unfolding reference_step
  reference_piece n e z = let q = nonzero_some _ n z in piece n q.0 q.1
    where
      piece : (n : ℕ) → n ≡ reference_length (drop i bs) → (n ≡ 0 → ⊥) → PieceRight bs i (Ok (answer.Text (i + n)))
      piece zero z f = absurd (f refl)
      piece (suc k) z f = text_piece bs i (suc k) (i + suc k) (λ os. reference_next e os ∙ ap reference_step (sym z)) refl

  -- data
  module _ (plain : starts_with (less_than ∷ []) (drop i bs) ≡ false) (other : get_or bs i 0 ≡ ampersand → ⊥) where
    no_markup : (eqb (get_or bs i 0) less_than || eqb (get_or bs i 0) ampersand) ≡ false
    no_markup = rw (less (get_or bs i 0) (drop (suc i) bs) (rw (at_front bs i within) at plain), ne_eqb (get_or bs i 0) ampersand other)

    pub data_missing : None ≡ found i (data_length (drop i bs)) → PieceRight bs i (Err NotASheet)
    unfolding PieceRight number_of
    data_missing h os r =
        let is = at_front bs i within in
        rw is (data_refused os r (get_or bs i 0) (drop (suc i) bs) no_markup (rw is at (found_none i _ h)))

    some_data : (c : ℕ) (cs : List ℕ) (u : ℕ) → (eqb c less_than || eqb c ampersand) ≡ false → data_length (c ∷ cs) ≡ some u → 1 ≤ u
    unfolding data_length
    some_data c cs u e h = by_test (is_char c && not (starts_with cdata_closes (c ∷ cs))) (λ t. let (k, _, far) = later_some (data_length cs) u (rw (e, t) at h) in omega arith) (λ t. let z : ◌≡◌ {A = ℕ} 0 1 = cc (rw (e, t) at h) in absurd (omega arith))

    data_sized : (e u : ℕ) → data_length (drop i bs) ≡ some u → e ≡ i + u → PieceRight bs i (Ok (answer.Text e))
    unfolding PieceRight
    data_sized e u are far =
        let is = at_front bs i within in
        let here : data_length (get_or bs i 0 ∷ drop (suc i) bs) ≡ some u = rw is at are in
        let on : drop u (get_or bs i 0 ∷ drop (suc i) bs) ≡ drop e bs = ap (drop u) (sym is) ∙ drop-drop u i bs ∙ rw far in (
          record { on = omega (arith, some_data _ _ u no_markup here); within = omega (arith, data_within (drop i bs) u are, length-drop i bs) },
          λ os r. ap (read_from (at_place os) r 0) is ∙ data_read os r (get_or bs i 0) (drop (suc i) bs) u no_markup here ∙ rw on,
        )

    pub data_piece : (e : ℕ) → Some e ≡ found i (data_length (drop i bs)) → PieceRight bs i (Ok (answer.Text e))
    data_piece e h = let (u, are, far) = found_some i e _ h in data_sized e u are far
