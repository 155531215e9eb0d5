-- The reader's scanners: how far what begins a text reaches, read from the left (document 02, CR 1). Where a scan goes on
-- behind something longer than a byte, `skip` says how many bytes are still to pass, so that each is a recursion on the text.
-- Assumes nothing: these are definitions.
use Rattle.std.specs.Prelude.{Bool, true, false, ◌&&◌, ◌||◌, not, cond, List, [], ◌∷◌, ℕ, zero, suc, pred, ◌+◌, eqb, get_or, take, drop}
use Rattle.std.proofs.Math.Option.{Option, none, some}
use Rattle.lists.specs.Lists.{first}
use Rattle.lists.specs.Fronts.{starts_with}
use Rattle.xml.specs.Bytes.{is_char, is_space, is_name_start, is_name_char, less_than, ampersand, equals, cdata_closes, tag_closes, lone_closes, lt_name, gt_name, amp_name, apos_name, quot_name}
use Rattle.xml.specs.Grammar.{reference_text, is_quote, among}

-- how many bytes at the front pass a test
unfoldable pub run : (test : ℕ → Bool) → List ℕ → ℕ
run f [] = 0
run f (c ∷ cs) = let more = suc (run f cs) in cond (f c) more 0

-- the length of the name that begins a text, 0 where none does
unfoldable pub name_length : List ℕ → ℕ
name_length [] = 0
name_length (c ∷ cs) = cond (is_name_start c) (suc (run is_name_char cs)) 0

-- the length of the reference that begins a text, 0 where none does
unfoldable pub reference_length : List ℕ → ℕ
reference_length cs =
    first
    ((starts_with (reference_text lt_name) cs, 4) ∷ (starts_with (reference_text gt_name) cs, 4)
    ∷ (starts_with (reference_text amp_name) cs, 5) ∷ (starts_with (reference_text apos_name) cs, 6)
    ∷ (starts_with (reference_text quot_name) cs, 6) ∷ [])
    0

-- one byte further
unfoldable pub later : Option ℕ → Option ℕ
later none = none
later (some n) = some (suc n)

-- how many bytes stand before the first closer; none where there is no closer, or a forbidden byte before it
unfoldable pub body_length : (closer : List ℕ) → List ℕ → Option ℕ
body_length xs [] = none
body_length xs (c ∷ cs) =
    let more = later (body_length xs cs) in
    cond (starts_with xs (c ∷ cs)) (some 0) (cond (is_char c) more none)

-- how many bytes of character data begin a text, up to < or & or its end; none where a forbidden byte or ]]> comes first
unfoldable pub data_length : List ℕ → Option ℕ
data_length [] = some 0
data_length (c ∷ cs) =
    let more = later (data_length cs) in
    cond (eqb c less_than || eqb c ampersand) (some 0) (cond (is_char c && not (starts_with cdata_closes (c ∷ cs))) more none)

-- the length of the byte or reference of a value that begins a text, 0 where none does
unfoldable pub value_step : List ℕ → ℕ
value_step [] = 0
value_step (c ∷ cs) =
    cond (eqb c ampersand) (reference_length (c ∷ cs)) (cond (is_char c && not (eqb c less_than)) 1 0)

-- how many bytes of a value stand before its closing quote
unfoldable pub value_length : (quote skip : ℕ) → List ℕ → Option ℕ
value_length q m [] = none
value_length q (suc m) (c ∷ cs) = later (value_length q m cs)
value_length q zero (c ∷ cs) =
    let k = value_step (c ∷ cs) in
    let more = later (value_length q (pred k) cs) in
    cond (eqb c q) (some 0) (cond (eqb k 0) none more)

-- how long an attribute's name is, and the whole attribute from its name on
pub record Sized : Type 0 where
  pub name : ℕ
  pub whole : ℕ

-- of an attribute whose name has n bytes and whose quote stands behind q
unfoldable pub sized : (n q : ℕ) → (value : Option ℕ) → Option Sized
sized n q none = none
sized n q (some v) = some (record { name = n; whole = suc (suc (q + v)) })

-- the attribute that begins a text with its name
unfoldable pub attribute_at : List ℕ → Option Sized
attribute_at cs =
    let n = name_length cs in
    let e = n + run is_space (drop n cs) in
    let q = suc e + run is_space (drop (suc e) cs) in
    let c = get_or cs q 0 in
    let found = sized n q (value_length c 0 (drop (suc q) cs)) in
    cond (eqb n 0 || (not (starts_with (equals ∷ []) (drop e cs)) || not (is_quote c))) none found

-- where a tag ends, and whether it is an empty-element tag
pub record Ending : Type 0 where
  pub used : ℕ
  pub lone : Bool

unfoldable pub ends_later : Option Ending → Option Ending
ends_later none = none
ends_later (some e) = some (record { used = suc e.used; lone = e.lone })

-- behind an attribute whose name is new; `on` goes on with its name and what is to pass of it
unfoldable pub tail_on : (names : List (List ℕ)) → (gap : ℕ) → (rest : List ℕ) → Option Sized → (on : (name : List ℕ) → (skip : ℕ) → Option Ending) → Option Ending
tail_on ns g rest none on = none
tail_on ns g rest (some a) on =
    let n = take a.name rest in
    let more = ends_later (on n (pred (g + a.whole))) in
    cond (among n ns) none more

-- what stands behind a tag's name and the attributes of some names: attributes with other names, spaces, and > or />
unfoldable pub tail_at : (names : List (List ℕ)) → (skip : ℕ) → List ℕ → Option Ending
tail_at ns m [] = none
tail_at ns (suc m) (c ∷ cs) = ends_later (tail_at ns m cs)
tail_at ns zero (c ∷ cs) =
    let g = run is_space (c ∷ cs) in
    let rest = drop g (c ∷ cs) in
    let more = tail_on ns g rest (attribute_at rest) (λ n m. tail_at (n ∷ ns) m cs) in
    cond (starts_with tag_closes rest) (some (record { used = suc g; lone = false }))
    (cond (starts_with lone_closes rest) (some (record { used = suc (suc g); lone = true })) (cond (eqb g 0) none more))

-- a tag: the length of its name, and where it ends
pub record SizedTag : Type 0 where
  pub name : ℕ
  pub used : ℕ
  pub lone : Bool

unfoldable pub sized_tag : (name : ℕ) → Option Ending → Option SizedTag
sized_tag n none = none
sized_tag n (some e) = some (record { name = n; used = suc (n + e.used); lone = e.lone })

-- the start tag or empty-element tag that begins a text, which begins with <
unfoldable pub tag_at : List ℕ → Option SizedTag
tag_at cs =
    let n = name_length (drop 1 cs) in
    let found = sized_tag n (tail_at [] 0 (drop (suc n) cs)) in
    cond (eqb n 0) none found
