-- Attributes: the scanner finds one from its name on as the grammar writes it, and what it finds is one. Assumes nothing.
use mathlib.Core.Path.{◌≡◌, refl, ap, sym, ◌∙◌}
use mathlib.Core.Bool.{Bool, true, false, ◌&&◌, ◌||◌, not, cond}
use mathlib.Core.List.{List, [], ◌∷◌, ◌++◌, append_assoc}
use mathlib.Core.Option.{Option, none, some, none-ne-some, some-injective}
use Prim.Native.Nat.{ℕ, zero, suc, ◌+◌}
use native.Mathlib.Numerals.{add-one}
use native.Mathlib.Omega.{arith}
use lib.Dec.{eqb}
use lib.ListN.{length, get_or, drop, length-append}
use lib.Seq.{drop-drop, drop-append_seam}
use Rattle.lists.proofs.Tests.{by_test, and_left, and_right}
use Rattle.lists.specs.Fronts.{starts_with}
use Rattle.lists.proofs.Fronts.{rest_of}
use Rattle.xml.specs.Bytes.{is_space, is_name_start, is_name_char, equals}
use Rattle.xml.specs.Grammar.{is_name, is_blank, is_gap, is_quote, Value, value_text, is_value, Attribute, bare_text, attribute_text, is_attribute}
use Rattle.xml.specs.Scan.{run, name_length, value_length, Sized, sized, attribute_at}
use Rattle.xml_laws.proofs.Strings.{quote_not_space, space_not_name}
use Rattle.xml_laws.proofs.Runs.{stops, stops_behind, run_found, RunThere, run_written, name_found, name_written, name_not_empty, run_left, name_left}
use Rattle.xml_laws.proofs.Found.{past_refusal, past_test}
use Rattle.xml_laws.proofs.Values.{value_found, value_written}

-- THE SCANNER IN STAGES, each over what the one before left: behind the spaces behind =
on_quote : (n q : ℕ) → List ℕ → Option Sized
on_quote n q [] = none
on_quote n q (c ∷ cs) = cond (is_quote c) (sized n q (value_length c 0 cs)) none

-- behind =
on_equals : (n e : ℕ) → List ℕ → Option Sized
on_equals n e cs = on_quote n (suc e + run is_space cs) (drop (run is_space cs) cs)

-- behind the name
on_name : (n : ℕ) → List ℕ → Option Sized
on_name n cs =
    let g = run is_space cs in
    cond (starts_with (equals ∷ []) (drop g cs)) (on_equals n (n + g) (drop 1 (drop g cs))) none

drop_one : (k : ℕ) (cs : List ℕ) → drop (suc k) cs ≡ drop 1 (drop k cs)
drop_one k cs = rw (drop-drop 1 k cs, add-one)

on_quote_at : (n q k : ℕ) (cs : List ℕ) →
    cond (not (is_quote (get_or cs k 0))) none (sized n q (value_length (get_or cs k 0) 0 (drop (suc k) cs))) ≡ on_quote n q (drop k cs)
unfolding on_quote is_quote
on_quote_at n q zero [] = refl
on_quote_at n q (suc k) [] = refl
on_quote_at n q zero (c ∷ cs) = by_test (is_quote c) (λ e. rw e) (λ e. rw e)
on_quote_at n q (suc k) (c ∷ cs) = on_quote_at n q k cs

three_tests : {A : Type 0} (a b c : Bool) (x y : A) → cond (a || (not b || not c)) x y ≡ cond a x (cond b (cond (not c) x y) x)
three_tests true b c x y = refl
three_tests false true c x y = refl
three_tests false false c x y = refl

in_stages : (cs : List ℕ) → attribute_at cs ≡ cond (eqb (name_length cs) 0) none (on_name (name_length cs) (drop (name_length cs) cs))
unfolding attribute_at on_name on_equals
in_stages cs =
    let n = name_length cs in
    let g = run is_space (drop n cs) in
    rw (three_tests, on_quote_at, drop-drop g n cs, ← drop_one (n + g) cs, drop-drop)

-- each stage at what the grammar writes there
equals_passed : (n e c : ℕ) (after cs : List ℕ) → is_blank after ≡ true → is_quote c ≡ true →
    on_equals n e (after ++ (c ∷ cs)) ≡ sized n (suc e + length after) (value_length c 0 cs)
unfolding on_equals on_quote is_blank stops
equals_passed n e c after cs b s =
    rw (
      run_found is_space after (c ∷ cs) b (rw (quote_not_space c s)),
      drop-append_seam after (c ∷ cs),
      s,
    )

name_passed : (n : ℕ) (before cs : List ℕ) → is_blank before ≡ true → on_name n (before ++ (equals ∷ cs)) ≡ on_equals n (n + length before) cs
unfolding on_name is_blank stops is_space starts_with
name_passed n before cs b =
    rw (run_found is_space before (equals ∷ cs) b refl, drop-append_seam before (equals ∷ cs))

-- AN ATTRIBUTE THAT IS WRITTEN SO IS FOUND. What is right about one, part by part
pub record RightAttribute (a : Attribute) : Type 0 where
  pub gap : is_gap a.gap ≡ true
  pub name : is_name a.name ≡ true
  pub before : is_blank a.before ≡ true
  pub after : is_blank a.after ≡ true
  pub quote : is_quote a.quote ≡ true
  pub value : is_value a.quote a.value ≡ true

pub attribute_right : (a : Attribute) → is_attribute a ≡ true → RightAttribute a
unfolding is_attribute
attribute_right a h =
    let front = and_left (is_gap a.gap && is_name a.name) _ h in
    let back = and_right (is_gap a.gap && is_name a.name) _ h in
    let blanks = and_left (is_blank a.before && is_blank a.after) _ back in
    let quoted = and_right (is_blank a.before && is_blank a.after) _ back in
    record {
      gap = and_left (is_gap a.gap) _ front;
      name = and_right (is_gap a.gap) _ front;
      before = and_left (is_blank a.before) _ blanks;
      after = and_right (is_blank a.before) _ blanks;
      quote = and_left (is_quote a.quote) _ quoted;
      value = and_right (is_quote a.quote) _ quoted;
    }

pub right_attribute : (a : Attribute) → RightAttribute a → is_attribute a ≡ true
unfolding is_attribute
right_attribute a r = rw (r.gap, r.name, r.before, r.after, r.quote, r.value)

-- what the scanner of attributes says of one
abbrev pub attribute_size : Attribute → Sized
attribute_size a = record { name = length a.name; whole = length (bare_text a) }

-- an attribute and more, part by part
pub bare_parts : (a : Attribute) (more : List ℕ) →
    bare_text a ++ more ≡ a.name ++ (a.before ++ (equals ∷ a.after ++ (a.quote ∷ value_text a.value ++ (a.quote ∷ more))))
unfolding bare_text
bare_parts a more = simp append_assoc

bare_length : (a : Attribute) →
    suc (suc (suc (length a.name + length a.before) + length a.after + length (value_text a.value))) ≡ length (bare_text a)
unfolding bare_text
bare_length a = simp length-append (omega arith)

-- a name ends at spaces and =
equals_ends : (before cs : List ℕ) → is_blank before ≡ true → stops is_name_char (before ++ (equals ∷ cs)) ≡ true
unfolding is_blank stops is_name_char is_name_start
equals_ends before cs b = stops_behind is_name_char is_space before (equals ∷ cs) space_not_name b refl

pub attribute_found : (a : Attribute) (more : List ℕ) → is_attribute a ≡ true → attribute_at (bare_text a ++ more) ≡ some (attribute_size a)
unfolding sized
attribute_found a more h =
    let r = attribute_right a h in
    let quoted = value_text a.value ++ (a.quote ∷ more) in
    let on = a.before ++ (equals ∷ a.after ++ (a.quote ∷ quoted)) in
    rw (
      bare_parts a more,
      in_stages (a.name ++ on),
      name_found a.name on r.name (equals_ends a.before (a.after ++ (a.quote ∷ quoted)) r.before),
      name_not_empty a.name r.name,
      drop-append_seam a.name on,
      name_passed (length a.name) a.before (a.after ++ (a.quote ∷ quoted)) r.before,
      equals_passed (length a.name) (length a.name + length a.before) a.quote a.after quoted r.after r.quote,
      value_found a.quote a.value more r.quote r.value,
      ← (bare_length a),
    )

-- WHAT IS FOUND IS WRITTEN SO: behind any gap, which the scanner of attributes does not see
pub record AttributeThere (gap cs : List ℕ) (z : Sized) : Type 0 where
  pub attribute : Attribute
  pub more : List ℕ
  pub right : is_attribute attribute ≡ true
  pub gap_is : attribute.gap ≡ gap
  pub written : bare_text attribute ++ more ≡ cs
  pub size : attribute_size attribute ≡ z

-- its size is what the scanner says
attribute_there : (a : Attribute) (more cs : List ℕ) (z : Sized) → is_attribute a ≡ true → bare_text a ++ more ≡ cs → attribute_at cs ≡ some z → AttributeThere a.gap cs z
attribute_there a more cs z right written e =
    record {
      attribute = a;
      more = more;
      right = right;
      gap_is = refl;
      written = written;
      size = some-injective (attribute_size a) z (sym (attribute_found a more right) ∙ rw written e);
    }

-- the quoted value
record QuotedThere (cs : List ℕ) : Type 0 where
  quote : ℕ
  value : Value
  more : List ℕ
  is_one : is_quote quote ≡ true
  right : is_value quote value ≡ true
  written : quote ∷ value_text value ++ (quote ∷ more) ≡ cs

sized_some : (n q : ℕ) (o : Option ℕ) (z : Sized) → sized n q o ≡ some z → (v : ℕ) × (o ≡ some v)
unfolding sized
sized_some n q none z e = absurd (none-ne-some z e)
sized_some n q (some v) z e = (v, refl)

quoted_written : (n q : ℕ) (cs : List ℕ) (z : Sized) → on_quote n q cs ≡ some z → QuotedThere cs
unfolding on_quote
quoted_written n q [] z e = absurd (none-ne-some z e)
quoted_written n q (c ∷ cs) z e =
    let s = past_test (is_quote c) (sized n q (value_length c 0 cs)) e in
    let v = sized_some n q (value_length c 0 cs) z s.1 in
    let t = value_written c cs v.0 s.0 v.1 in
    record { quote = c; value = t.value; more = t.more; is_one = s.0; right = t.right; written = ap (λ (l : List ℕ). c ∷ l) t.written }

-- spaces and the quoted value
record SpacedThere (cs : List ℕ) : Type 0 where
  spaces : RunThere is_space cs
  quoted : QuotedThere spaces.more

equals_written : (n e : ℕ) (cs : List ℕ) (z : Sized) → on_equals n e cs ≡ some z → SpacedThere cs
unfolding on_equals
equals_written n e cs z h =
    let r = run_written is_space cs in
    let q = suc e + run is_space cs in
    record { spaces = r; quoted = quoted_written n q r.more z (ap (on_quote n q) (sym (run_left r)) ∙ h) }

-- spaces, = and what follows
record EqualsThere (cs : List ℕ) : Type 0 where
  spaces : RunThere is_space cs
  rest : List ℕ
  equal : equals ∷ rest ≡ spaces.more
  on : SpacedThere rest

name_on : (n : ℕ) (cs : List ℕ) (z : Sized) → on_name n cs ≡ some z → EqualsThere cs
unfolding on_name
name_on n cs z h =
    let r = run_written is_space cs in
    let t = past_test (starts_with (equals ∷ []) (drop (run is_space cs) cs)) _ h in
    record {
      spaces = r;
      rest = drop 1 r.more;
      equal = sym (rest_of (equals ∷ []) r.more (rw (← (run_left r)) t.0));
      on = equals_written n (n + run is_space cs) (drop 1 r.more) z (rw (← (run_left r)) t.1);
    }

pub attribute_written : (gap cs : List ℕ) (z : Sized) → is_gap gap ≡ true → attribute_at cs ≡ some z → AttributeThere gap cs z
unfolding is_blank
attribute_written gap cs z g e =
    let t = past_refusal (eqb (name_length cs) 0) _ (sym (in_stages cs) ∙ e) in
    let n = name_written cs t.0 in
    let b = name_on (name_length cs) n.more z (ap (on_name (name_length cs)) (sym (name_left n)) ∙ t.1) in
    let q = b.on.quoted in
    let a : Attribute = record { gap = gap; name = n.name; before = b.spaces.front; after = b.on.spaces.front; quote = q.quote; value = q.value } in
    attribute_there
    a
    q.more
    cs
    z
    (right_attribute a (record { gap = g; name = n.right; before = b.spaces.holds; after = b.on.spaces.holds; quote = q.is_one; value = q.right }))
    (rw (bare_parts a q.more, q.written, b.on.spaces.written, b.equal, b.spaces.written) n.written)
    e

-- with its gap, which the grammar counts to it
pub gap_written : {gap cs : List ℕ} {z : Sized} (t : AttributeThere gap cs z) → attribute_text t.attribute ++ t.more ≡ gap ++ cs
unfolding attribute_text bare_text
gap_written {gap} t = rw (t.gap_is, append_assoc gap (bare_text t.attribute) t.more, t.written)
