-- Bodies: what stands before the first closer, of a CDATA section or of a comment. The scanner finds just the bodies that the
-- grammar writes. A closer is some bytes, `front`, and a last one. Assumes nothing.
use mathlib.Core.Path.{◌≡◌, refl, ap, sym, ◌∙◌}
use mathlib.Core.Bool.{true, false, cond, and-false, true≢false}
use mathlib.Core.List.{List, [], ◌∷◌, ◌++◌, append_assoc}
use mathlib.Core.Option.{Option, none, some}
use Prim.Native.Nat.{ℕ, suc, ◌<◌}
use native.Mathlib.Omega.{arith}
use lib.Dec.{eqb}
use lib.ListN.{length, drop, length-append}
use Rattle.lists.specs.Lists.{all_hold}
use Rattle.lists.proofs.Tests.{by_test, fails, and_left, and_right, and_both, or_left_false, or_right_false}
use Rattle.lists.specs.Fronts.{starts_with}
use Rattle.lists.proofs.Fronts.{starts_front, rest_of, starts_short, starts_within, starts_longer}
use Rattle.xml.specs.Bytes.{is_char, contains, bracket, cdata_closes}
use Rattle.xml.specs.Scan.{later, body_length}
use Rattle.xml_laws.proofs.Found.{past_test}

-- STRINGS in a text
contains_short : (xs ys : List ℕ) → length ys < length xs → contains xs ys ≡ false
unfolding contains
contains_short xs [] l = starts_short xs [] l
contains_short xs (y ∷ ys) l = rw (starts_short xs (y ∷ ys) l) (contains_short xs ys (omega arith))

contains_first : (xs ys : List ℕ) → contains xs ys ≡ false → starts_with xs ys ≡ false
unfolding contains
contains_first xs [] e = e
contains_first xs (y ∷ ys) e = or_left_false _ (contains xs ys) e

-- a string that stands nowhere in a list stands nowhere in its front
pub contains_front : (xs ys zs : List ℕ) → contains xs (ys ++ zs) ≡ false → contains xs ys ≡ false
unfolding contains
contains_front xs [] zs e = fails (starts_with xs []) (λ t. true≢false (sym (starts_longer xs [] zs t) ∙ contains_first xs zs e))
contains_front xs (y ∷ ys) zs e =
    rw (fails (starts_with xs (y ∷ ys)) (λ t. true≢false (sym (starts_longer xs (y ∷ ys) zs t) ∙ or_left_false _ (contains xs (ys ++ zs)) e)))
    (contains_front xs ys zs (or_right_false (starts_with xs (y ∷ ys ++ zs)) _ e))

-- ]]> begins nowhere in bytes that do not hold it, also where ]] stands behind them
pub cdata_within : (cs : List ℕ) → contains cdata_closes cs ≡ false → contains cdata_closes (cs ++ (bracket ∷ bracket ∷ [])) ≡ false
unfolding contains starts_with
cdata_within [] e = refl
cdata_within (c ∷ cs) e =
    rw (begins c cs (or_left_false _ (contains cdata_closes cs) e)) (cdata_within cs (or_right_false (starts_with cdata_closes (c ∷ cs)) _ e))
  where
    begins : (c : ℕ) (cs : List ℕ) → starts_with cdata_closes (c ∷ cs) ≡ false → starts_with cdata_closes (c ∷ cs ++ (bracket ∷ bracket ∷ [])) ≡ false
    begins c [] e = and-false (eqb bracket c)
    begins c (d ∷ []) e = rw (and-false (eqb bracket d)) (and-false (eqb bracket c))
    begins c (d ∷ f ∷ cs) e = e

-- BODIES
body_clause : (xs : List ℕ) (c : ℕ) (cs : List ℕ) →
    body_length xs (c ∷ cs) ≡ cond (starts_with xs (c ∷ cs)) (some 0) (cond (is_char c) (later (body_length xs cs)) none)
unfolding body_length
body_clause xs c cs = refl

at_closer : (xs : List ℕ) (c : ℕ) (cs : List ℕ) → starts_with xs (c ∷ cs) ≡ true → body_length xs (c ∷ cs) ≡ some 0
at_closer xs c cs e = body_clause xs c cs ∙ rw e

empty_found : (front : List ℕ) (last : ℕ) (more : List ℕ) → body_length (front ++ (last ∷ [])) (front ++ (last ∷ []) ++ more) ≡ some 0
empty_found [] last more = at_closer (last ∷ []) last more (starts_front (last ∷ []) more)
empty_found (f ∷ front) last more =
    let xs = f ∷ front ++ (last ∷ []) in at_closer xs f (front ++ (last ∷ []) ++ more) (starts_front xs more)

-- one byte further is found only where something is found
later_some : (o : Option ℕ) (m : ℕ) → later o ≡ some m → (n : ℕ) × (o ≡ some n) × (suc n ≡ m)
unfolding later
later_some none m e = absurd (let z : ◌≡◌ {A = ℕ} 0 1 = cc in omega arith)
later_some (some n) m e = (n, refl, cc)

module _ (front : List ℕ) (last : ℕ) where
  abbrev pub closer : List ℕ
  closer = front ++ (last ∷ [])

  -- a closer behind bytes, its front taken to them
  seam : (cs more : List ℕ) → cs ++ (closer ++ more) ≡ (cs ++ front) ++ (last ∷ more)
  seam cs more = simp append_assoc

  begins_so : (c : ℕ) (cs more : List ℕ) → starts_with closer (c ∷ cs ++ (closer ++ more)) ≡ starts_with closer (c ∷ cs ++ front)
  begins_so c cs more = rw (seam cs more) (starts_within closer (c ∷ cs ++ front) (last ∷ more) (simp length-append (omega arith)))

  pub record Body (rest : List ℕ) (m : ℕ) : Type 0 where
    pub bytes : List ℕ
    pub more : List ℕ
    pub written : bytes ++ (closer ++ more) ≡ rest
    pub size : length bytes ≡ m
    pub right : all_hold is_char bytes ≡ true
    pub clear : contains closer (bytes ++ front) ≡ false

  further : (c : ℕ) (rest : List ℕ) (m : ℕ) → starts_with closer (c ∷ rest) ≡ false → is_char c ≡ true → Body rest m → Body (c ∷ rest) (suc m)
  unfolding all_hold contains
  further c rest m t h b = record {
    bytes = c ∷ b.bytes;
    more = b.more;
    written = ap (λ l. c ∷ l) b.written;
    size = ap suc b.size;
    right = and_both h b.right;
    clear =
        let none_here : starts_with closer (c ∷ b.bytes ++ front) ≡ false = rw (b.written, t) at (sym (begins_so c b.bytes b.more)) in
        rw none_here b.clear;
  }

  -- what is found as a body is bytes that a closer ends
  pub body_written : (rest : List ℕ) (m : ℕ) → body_length closer rest ≡ some m → Body rest m
  unfolding body_length all_hold contains
  body_written [] m e = absurd (let z : ◌≡◌ {A = ℕ} 0 1 = cc in omega arith)
  body_written (c ∷ rest) m e =
      by_test (starts_with closer (c ∷ rest))
      (λ t. record {
        bytes = [];
        more = drop (length closer) (c ∷ rest);
        written = sym (rest_of closer (c ∷ rest) t);
        size = let q : ◌≡◌ {A = Option ℕ} (some 0) (some m) = sym (at_closer closer c rest t) ∙ e in cc;
        right = refl;
        clear = contains_short closer front (simp length-append (omega arith));
      })
      (λ t. let q : cond (is_char c) (later (body_length closer rest)) none ≡ some m = rw t at (sym (body_clause closer c rest) ∙ e) in
      let (h, on) = past_test (is_char c) (later (body_length closer rest)) q in
      let (n, found, size) = later_some (body_length closer rest) m on in
      rw size at (further c rest n t h (body_written rest n found)))

  -- bytes that a closer ends are found as a body
  pub body_found : (cs more : List ℕ) → all_hold is_char cs ≡ true → contains closer (cs ++ front) ≡ false → body_length closer (cs ++ (closer ++ more)) ≡ some (length cs)
  unfolding all_hold contains later
  body_found [] more h e = empty_found front last more
  body_found (c ∷ cs) more h e =
      let t : starts_with closer (c ∷ cs ++ front) ≡ false = or_left_false _ (contains closer (cs ++ front)) e in
      body_clause closer c (cs ++ (closer ++ more))
      ∙ rw (begins_so c cs more, t, and_left (is_char c) _ h, body_found cs more (and_right (is_char c) _ h) (or_right_false (starts_with closer (c ∷ cs ++ front)) _ e))
