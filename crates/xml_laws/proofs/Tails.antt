-- What stands behind a tag's name: attributes with new names, spaces, and > or />. The scanner finds it as the grammar writes
-- it, and what it finds is written so. Assumes nothing.
use mathlib.Core.Path.{◌≡◌, refl, ap, sym, ◌∙◌}
use mathlib.Core.Bool.{Bool, true, false, ◌&&◌, not, cond, true≢false, false≢true}
use mathlib.Core.List.{List, [], ◌∷◌, ◌++◌, append_assoc}
use mathlib.Core.Option.{Option, none, some, none-ne-some, some-injective}
use Prim.Native.Nat.{ℕ, zero, suc, ◌+◌, ◌≤◌, ◌<◌}
use native.Mathlib.Nat.{zero-add, suc-add, not-suc-le-zero, le_refl}
use native.Mathlib.Numerals.{add-one, add-two}
use native.Mathlib.Omega.{arith}
use borrow.Author.Tests.{not-true}
use lib.Dec.{eqb, eqb-suc-zero}
use lib.ListN.{length, take, drop, length-append}
use lib.Seq.{drop-append_seam, take-append_seam}
use Rattle.lists.proofs.Tests.{by_test, and_left, and_right, and_both}
use Rattle.lists.specs.Fronts.{starts_with}
use Rattle.lists.proofs.Fronts.{rest_of, starts_other}
use Rattle.xml.specs.Bytes.{is_space, is_name_start, tag_closes, lone_closes}
use Rattle.xml.specs.Grammar.{is_name, is_blank, is_gap, Attribute, bare_text, attribute_text, is_attribute, attributes_text, among, names_of, are_attributes}
use Rattle.xml.specs.Scan.{Sized, attribute_at, Ending, ends_later, tail_on, tail_at}
use Rattle.xml_laws.proofs.Strings.{bytes_apart}
use Rattle.xml_laws.proofs.Runs.{stops, run_over, run_found, RunThere, run_written, name_stops_spaces}
use Rattle.xml_laws.proofs.Found.{past_refusal}
use Rattle.xml_laws.proofs.Names.{all_new, all_new_one}
use Rattle.xml_laws.proofs.Attributes.{attribute_right, attribute_size, bare_parts, attribute_found, attribute_written, gap_written}

-- so many bytes further
unfoldable pub ends_by : (bytes : ℕ) → Option Ending → Option Ending
ends_by k none = none
ends_by k (some e) = some (record { used = k + e.used; lone = e.lone })

pub ends_zero : (o : Option Ending) → o ≡ ends_by 0 o
unfolding ends_by
ends_zero none = refl
ends_zero (some e) = rw zero-add

ends_suc : (k : ℕ) (o : Option Ending) → ends_later (ends_by k o) ≡ ends_by (suc k) o
unfolding ends_later ends_by
ends_suc k none = refl
ends_suc k (some e) = rw suc-add

-- what is found so many bytes further is found
ends_before : (k : ℕ) (o : Option Ending) (e : Ending) → ends_by k o ≡ some e → (f : Ending) × (o ≡ some f)
unfolding ends_by
ends_before k none e h = absurd (none-ne-some e h)
ends_before k (some f) e h = (f, refl)

-- THE SCANNER OF TAILS. Bytes that are to pass
pub tail_skip : (ns : List (List ℕ)) (xs cs : List ℕ) → tail_at ns (length xs) (xs ++ cs) ≡ ends_by (length xs) (tail_at ns 0 cs)
unfolding tail_at
tail_skip ns [] cs = ends_zero (tail_at ns 0 cs)
tail_skip ns (x ∷ xs) cs = ap ends_later (tail_skip ns xs cs) ∙ ends_suc (length xs) (tail_at ns 0 cs)

-- its clause where nothing is to pass, by the spaces that begin the text
tail_clause : (ns : List (List ℕ)) (g rest : List ℕ) → is_blank g ≡ true → stops is_space rest ≡ true →
    tail_at ns 0 (g ++ rest) ≡ cond (starts_with tag_closes rest) (some (record { used = suc (length g); lone = false }))
    (cond (starts_with lone_closes rest) (some (record { used = suc (suc (length g)); lone = true }))
    (cond (eqb (length g) 0) none (tail_on ns (length g) rest (attribute_at rest) (λ n m. tail_at (n ∷ ns) m (drop 1 (g ++ rest))))))
unfolding tail_at is_blank starts_with
tail_clause ns [] [] b s = refl
tail_clause ns [] (c ∷ cs) b s = rw (run_over is_space (c ∷ cs) s)
tail_clause ns (x ∷ g) rest b s = rw (run_found is_space (x ∷ g) rest b s, drop-append_seam (x ∷ g) rest)

-- the spaces and the closer
unfoldable pub closer : (lone : Bool) → List ℕ
closer false = tag_closes
closer true = lone_closes

tail_closed : (ns : List (List ℕ)) (l : Bool) (b more : List ℕ) → is_blank b ≡ true →
    tail_at ns 0 (b ++ (closer l ++ more)) ≡ some (record { used = length b + length (closer l); lone = l })
unfolding closer stops is_space starts_with
tail_closed ns false b more h = rw (tail_clause ns b (closer false ++ more) h refl, add-one)
tail_closed ns true b more h = rw (tail_clause ns b (closer true ++ more) h refl, add-two)

-- behind a gap, what the scanner of attributes finds
tail_passed : (ns : List (List ℕ)) (n gap bare rest : List ℕ) (z : Sized) → is_gap gap ≡ true → stops is_space (bare ++ rest) ≡ true →
    starts_with tag_closes (bare ++ rest) ≡ false → starts_with lone_closes (bare ++ rest) ≡ false →
    attribute_at (bare ++ rest) ≡ some z → z.whole ≡ length bare → take z.name (bare ++ rest) ≡ n →
    tail_at ns 0 (gap ++ (bare ++ rest)) ≡ cond (among n ns) none (ends_by (length (gap ++ bare)) (tail_at (n ∷ ns) 0 rest))
unfolding is_gap tail_on
tail_passed ns n [] bare rest z g s p q e w t = absurd (false≢true g)
tail_passed ns n (c ∷ gap) bare rest z g s p q e w t =
    rw (
      tail_clause ns (c ∷ gap) (bare ++ rest) g s,
      p,
      q,
      eqb-suc-zero (length gap),
      e,
      w,
      t,
      suc-add (length gap) (length bare),
      ← (length-append gap bare),
      ← (append_assoc gap bare rest),
      tail_skip (n ∷ ns) (gap ++ bare) rest,
      ends_suc (length (gap ++ bare)) (tail_at (n ∷ ns) 0 rest),
    )

-- a name does not begin as a closer does
name_not_closer : (x : ℕ) (xs n more : List ℕ) → is_name_start x ≡ false → is_name n ≡ true → starts_with (x ∷ xs) (n ++ more) ≡ false
unfolding is_name
name_not_closer x xs [] more e h = absurd (false≢true h)
name_not_closer x xs (c ∷ cs) more e h =
    starts_other x c xs (cs ++ more) (bytes_apart (λ d. not (is_name_start d)) x c (rw e) (rw (and_left (is_name_start c) _ h)))

-- an attribute, whose name must be new
pub tail_attribute : (ns : List (List ℕ)) (a : Attribute) (rest : List ℕ) → is_attribute a ≡ true →
    tail_at ns 0 (attribute_text a ++ rest) ≡ cond (among a.name ns) none (ends_by (length (attribute_text a)) (tail_at (a.name ∷ ns) 0 rest))
unfolding attribute_text is_name_start
tail_attribute ns a rest h =
    let r = attribute_right a h in
    let on : (m : List ℕ) × (bare_text a ++ rest ≡ a.name ++ m) = (_, bare_parts a rest) in
    rw (append_assoc a.gap (bare_text a) rest)
    (tail_passed
    ns
    a.name
    a.gap
    (bare_text a)
    rest
    (attribute_size a)
    r.gap
    (rw on.1 (name_stops_spaces a.name on.0 r.name))
    (rw on.1 (name_not_closer 62 [] a.name on.0 refl r.name))
    (rw on.1 (name_not_closer 47 (62 ∷ []) a.name on.0 refl r.name))
    (attribute_found a rest h)
    refl
    (rw on.1 (take-append_seam a.name on.0)))

-- A TAIL THAT IS WRITTEN SO IS FOUND
unfoldable pub tail_text : (attributes : List Attribute) → (blank : List ℕ) → (lone : Bool) → List ℕ
tail_text as' b l = attributes_text as' ++ (b ++ closer l)

tail_more : (a : Attribute) (as' : List Attribute) (b : List ℕ) (l : Bool) → tail_text (a ∷ as') b l ≡ attribute_text a ++ tail_text as' b l
unfolding tail_text attributes_text
tail_more a as' b l = append_assoc (attribute_text a) (attributes_text as') (b ++ closer l)

pub tail_found : (ns : List (List ℕ)) (as' : List Attribute) (b : List ℕ) (l : Bool) (more : List ℕ) →
    are_attributes as' ≡ true → all_new (names_of as') ns ≡ true → is_blank b ≡ true →
    tail_at ns 0 (tail_text as' b l ++ more) ≡ some (record { used = length (tail_text as' b l); lone = l })
unfolding tail_text attributes_text are_attributes all_new names_of ends_by
tail_found ns [] b l more r n h = rw (append_assoc b (closer l) more, length-append b (closer l)) (tail_closed ns l b more h)
tail_found ns (a ∷ as') b l more r n h =
    let one = and_left (is_attribute a && not (among a.name (names_of as'))) _ r in
    let on = tail_found
    (a.name ∷ ns)
    as'
    b
    l
    more
    (and_right (is_attribute a && not (among a.name (names_of as'))) _ r)
    (rw (all_new_one (names_of as') ns a.name) (and_both (and_right (is_attribute a) _ one) (and_right (not (among a.name ns)) _ n)))
    h in
    rw (
      tail_more a as' b l,
      append_assoc (attribute_text a) (tail_text as' b l) more,
      tail_attribute ns a (tail_text as' b l ++ more) (and_left (is_attribute a) _ one),
      not-true (among a.name ns) (and_left (not (among a.name ns)) _ n),
      on,
      length-append (attribute_text a) (tail_text as' b l),
    )

-- WHAT IS FOUND IS WRITTEN SO
pub record TailThere (ns : List (List ℕ)) (cs : List ℕ) (e : Ending) : Type 0 where
  pub attributes : List Attribute
  pub blank : List ℕ
  pub lone : Bool
  pub more : List ℕ
  pub right : are_attributes attributes ≡ true
  pub new : all_new (names_of attributes) ns ≡ true
  pub spaces : is_blank blank ≡ true
  pub written : tail_text attributes blank lone ++ more ≡ cs
  pub size : record { used = length (tail_text attributes blank lone); lone = lone } ≡ e

-- its size is what the scanner says
tail_there : (ns : List (List ℕ)) (as' : List Attribute) (b : List ℕ) (l : Bool) (more cs : List ℕ) (e : Ending) →
    are_attributes as' ≡ true → all_new (names_of as') ns ≡ true → is_blank b ≡ true → tail_text as' b l ++ more ≡ cs →
    tail_at ns 0 cs ≡ some e → TailThere ns cs e
tail_there ns as' b l more cs e r n h w t =
    record {
      attributes = as';
      blank = b;
      lone = l;
      more = more;
      right = r;
      new = n;
      spaces = h;
      written = w;
      size = some-injective (record { used = length (tail_text as' b l); lone = l }) e (sym (tail_found ns as' b l more r n h) ∙ rw w t);
    }

-- the spaces and the closer
closed_there : (ns : List (List ℕ)) (l : Bool) (cs : List ℕ) (e : Ending) → (r : RunThere is_space cs) →
    starts_with (closer l) r.more ≡ true → tail_at ns 0 cs ≡ some e → TailThere ns cs e
unfolding tail_text attributes_text are_attributes all_new names_of is_blank
closed_there ns l cs e r s t =
    let m = drop (length (closer l)) r.more in
    tail_there ns [] r.front l m cs e refl refl r.holds
    (rw (append_assoc r.front (closer l) m, ← (rest_of (closer l) r.more s)) r.written) t

-- an attribute before a tail
more_there : (ns : List (List ℕ)) (a : Attribute) (rest cs : List ℕ) (e f : Ending) → is_attribute a ≡ true → among a.name ns ≡ false →
    attribute_text a ++ rest ≡ cs → tail_at ns 0 cs ≡ some e → TailThere (a.name ∷ ns) rest f → TailThere ns cs e
unfolding are_attributes all_new names_of
more_there ns a rest cs e f r n w t on =
    let names = names_of on.attributes in
    let new : (not (among a.name names) && all_new names ns) ≡ true = rw (all_new_one names ns a.name) at on.new in
    tail_there ns (a ∷ on.attributes) on.blank on.lone on.more cs e
    (and_both (and_both r (and_left (not (among a.name names)) _ new)) on.right)
    (and_both {a = not (among a.name ns)} (rw n) (and_right (not (among a.name names)) _ new))
    on.spaces
    (rw (
      tail_more a on.attributes on.blank on.lone,
      append_assoc (attribute_text a) (tail_text on.attributes on.blank on.lone) on.more,
      on.written,
    ) w)
    t

-- behind a gap the scanner has found an attribute
attribute_on : (ns : List (List ℕ)) (g : ℕ) (rest : List ℕ) (o : Option Sized) (on : List ℕ → ℕ → Option Ending) (e : Ending) →
    tail_on ns g rest o on ≡ some e → (z : Sized) × (o ≡ some z)
unfolding tail_on
attribute_on ns g rest none on e h = absurd (none-ne-some e h)
attribute_on ns g rest (some z) on e h = (z, refl)

pub gap_of : (cs : List ℕ) → is_blank cs ≡ true → eqb (length cs) 0 ≡ false → is_gap cs ≡ true
unfolding is_gap
gap_of [] b e = absurd (true≢false e)
gap_of (c ∷ cs) b e = b

gap_some : (cs : List ℕ) → is_gap cs ≡ true → 0 < length cs
unfolding is_gap
gap_some [] g = absurd (false≢true g)
gap_some (c ∷ cs) g = omega arith

-- an attribute that is found behind a gap, if what stands behind it is a tail
found_there : (ns : List (List ℕ)) (gap rest cs : List ℕ) (z : Sized) (e : Ending) {room : ℕ} →
    is_gap gap ≡ true → gap ++ rest ≡ cs → attribute_at rest ≡ some z → length cs ≤ suc room → tail_at ns 0 cs ≡ some e →
    ((n more : List ℕ) (f : Ending) → length more ≤ room → tail_at (n ∷ ns) 0 more ≡ some f → TailThere (n ∷ ns) more f) →
    TailThere ns cs e
unfolding attribute_text
found_there ns gap rest cs z e {room} g w h l t behind =
    let a = attribute_written gap rest z g h in
    let b = a.attribute in
    let text : attribute_text b ++ a.more ≡ cs = gap_written a ∙ w in
    let new = past_refusal (among b.name ns) _ (sym (tail_attribute ns b a.more a.right) ∙ (ap (tail_at ns 0) text ∙ t)) in
    let f = ends_before (length (attribute_text b)) (tail_at (b.name ∷ ns) 0 a.more) e new.1 in
    let fewer : length a.more ≤ room =
    omega (arith, gap_some gap g, ap length w, length-append gap rest, ap length a.written, length-append (bare_text b) a.more) in
    more_there ns b a.more cs e f.0 a.right new.0 text t (behind b.name a.more f.0 fewer f.1)

-- in a text of at most so many bytes
written_in : (room : ℕ) (ns : List (List ℕ)) (cs : List ℕ) (e : Ending) → length cs ≤ room → tail_at ns 0 cs ≡ some e → TailThere ns cs e
unfolding tail_at is_blank closer
written_in zero ns [] e l t = absurd (none-ne-some e t)
written_in zero ns (c ∷ cs) e l t = absurd (not-suc-le-zero l)
written_in (suc k) ns cs e l t =
    let r = run_written is_space cs in
    let clause = sym (tail_clause ns r.front r.more r.holds r.ends) ∙ (ap (tail_at ns 0) r.written ∙ t) in
    by_test (starts_with tag_closes r.more) (λ s. closed_there ns false cs e r s t)
    (λ f₁. by_test (starts_with lone_closes r.more) (λ s. closed_there ns true cs e r s t)
    (λ f₂. by_test (eqb (length r.front) 0) (λ z. absurd (none-ne-some e (rw (f₁, f₂, z) at clause)))
    (λ f₃. let z = attribute_on ns (length r.front) r.more (attribute_at r.more) _ e (rw (f₁, f₂, f₃) at clause) in
    found_there ns r.front r.more cs z.0 e (gap_of r.front r.holds f₃) r.written z.1 l t
    (λ n more f. written_in k (n ∷ ns) more f))))

pub tail_written : (ns : List (List ℕ)) (cs : List ℕ) (e : Ending) → tail_at ns 0 cs ≡ some e → TailThere ns cs e
tail_written ns cs e = written_in (length cs) ns cs e (le_refl (length cs))
