-- Tags: the scanner of start tags and empty-element tags finds one as the grammar writes it, whatever stands behind it, and
-- what it finds is written so. Assumes nothing.
use mathlib.Core.Path.{◌≡◌, refl, ap, sym, ◌∙◌}
use mathlib.Core.Bool.{Bool, true, false, ◌&&◌, not, false≢true}
use mathlib.Core.List.{List, [], ◌∷◌, ◌++◌, append_assoc}
use mathlib.Core.Option.{Option, none, some, none-ne-some, some-injective}
use Prim.Native.Nat.{ℕ}
use lib.Dec.{eqb}
use lib.ListN.{length, drop, length-append}
use lib.Seq.{drop-append_seam}
use Rattle.lists.specs.Lists.{all_hold}
use Rattle.lists.proofs.Tests.{and_left, and_right, and_both}
use Rattle.xml.specs.Bytes.{is_space, is_name_start, is_name_char, less_than}
use Rattle.xml.specs.Grammar.{is_name, is_blank, is_gap, Attribute, attribute_text, is_attribute, attributes_text, among, are_attributes, names_of, Tag, tag_text, is_tag, text_of}
use Rattle.xml.specs.Scan.{name_length, tail_at, Ending, SizedTag, sized_tag, tag_at}
use Rattle.xml_laws.specs.Steps.{tag_construct, size_of, TagsFound, TagThere, TagsWritten}
use Rattle.xml_laws.proofs.Strings.{space_not_name}
use Rattle.xml_laws.proofs.Runs.{stops, stops_behind, name_found, name_written, name_left, name_not_empty}
use Rattle.xml_laws.proofs.Found.{past_refusal}
use Rattle.xml_laws.proofs.Names.{all_new_none}
use Rattle.xml_laws.proofs.Attributes.{attribute_right}
use Rattle.xml_laws.proofs.Tails.{closer, tail_text, tail_found, tail_written}

-- the scanner behind a name
tag_named : (n rest : List ℕ) → is_name n ≡ true → stops is_name_char rest ≡ true → tag_at (less_than ∷ n ++ rest) ≡ sized_tag (length n) (tail_at [] 0 rest)
unfolding tag_at
tag_named n rest h s = rw (name_found n rest h s, name_not_empty n h, drop-append_seam n rest)

-- a name ends at spaces, at > and at />
blank_ends : (b : List ℕ) (l : Bool) (more : List ℕ) → is_blank b ≡ true → stops is_name_char (b ++ (closer l ++ more)) ≡ true
unfolding is_blank closer stops is_name_char is_name_start
blank_ends b false more h = stops_behind is_name_char is_space b (closer false ++ more) space_not_name h refl
blank_ends b true more h = stops_behind is_name_char is_space b (closer true ++ more) space_not_name h refl

gap_ends : (g more : List ℕ) → is_gap g ≡ true → stops is_name_char (g ++ more) ≡ true
unfolding is_gap is_blank all_hold stops
gap_ends [] more h = absurd (false≢true h)
gap_ends (c ∷ cs) more h = rw (space_not_name c (and_left (is_space c) _ h))

tail_ends : (as' : List Attribute) (b : List ℕ) (l : Bool) (more : List ℕ) → are_attributes as' ≡ true → is_blank b ≡ true →
    stops is_name_char (tail_text as' b l ++ more) ≡ true
unfolding tail_text attributes_text attribute_text are_attributes
tail_ends [] b l more r h = rw (append_assoc b (closer l) more) (blank_ends b l more h)
tail_ends (a ∷ as') b l more r h =
    simp append_assoc (gap_ends a.gap _ (attribute_right a (and_left (is_attribute a) _ (and_left (is_attribute a && not (among a.name (names_of as'))) _ r))).gap)

-- a tag as its name and its tail
tag_parts : (l : Bool) (t : Tag) → text_of (tag_construct l t) ≡ less_than ∷ t.name ++ tail_text t.attributes t.blank l
unfolding text_of tag_construct tag_text tail_text closer
tag_parts false t = simp append_assoc
tag_parts true t = simp append_assoc

tag_with_more : (l : Bool) (t : Tag) (more : List ℕ) →
    text_of (tag_construct l t) ++ more ≡ less_than ∷ t.name ++ (tail_text t.attributes t.blank l ++ more)
tag_with_more l t more = rw (tag_parts l t, append_assoc t.name (tail_text t.attributes t.blank l) more)

-- A TAG THAT IS WRITTEN SO IS FOUND
pub tags_found : TagsFound
unfolding TagsFound size_of is_tag sized_tag
tags_found l t more h =
    let rest = and_right (is_name t.name) _ h in
    let attributes = and_left (are_attributes t.attributes) _ rest in
    let blank = and_right (are_attributes t.attributes) _ rest in
    let tail = tail_text t.attributes t.blank l in
    rw (
      tag_with_more l t more,
      tag_named t.name (tail ++ more) (and_left (is_name t.name) _ h) (tail_ends t.attributes t.blank l more attributes blank),
      tail_found [] t.attributes t.blank l more attributes (all_new_none (names_of t.attributes)) blank,
      tag_parts l t,
      length-append t.name tail,
    )

-- WHAT IS FOUND IS WRITTEN SO: its size is what the scanner says
tag_there : (l : Bool) (t : Tag) (more cs : List ℕ) (z : SizedTag) → is_tag t ≡ true → text_of (tag_construct l t) ++ more ≡ cs → tag_at cs ≡ some z → TagThere cs z
unfolding TagsFound size_of
tag_there l t more cs z right written e =
    let size : size_of l t ≡ z = some-injective (size_of l t) z (sym (tags_found l t more right) ∙ rw written e) in
    rw (← size) (record { tag = t; more = more; right = right; written = written; size = refl })

tail_some : (n : ℕ) (o : Option Ending) (z : SizedTag) → sized_tag n o ≡ some z → (e : Ending) × (o ≡ some e)
unfolding sized_tag
tail_some n none z h = absurd (none-ne-some z h)
tail_some n (some e) z h = (e, refl)

pub tags_written : TagsWritten
unfolding TagsWritten tag_at is_tag
tags_written cs z h =
    let found = past_refusal (eqb (name_length cs) 0) _ h in
    let n = name_written cs found.0 in
    let e = tail_some (name_length cs) (tail_at [] 0 (drop (name_length cs) cs)) z found.1 in
    let tail = tail_written [] n.more e.0 (ap (tail_at [] 0) (sym (name_left n)) ∙ e.1) in
    let t : Tag = record { name = n.name; attributes = tail.attributes; blank = tail.blank } in
    tag_there tail.lone t tail.more (less_than ∷ cs) z
    (and_both n.right (and_both tail.right tail.spaces))
    (rw (tag_with_more tail.lone t tail.more, tail.written, n.written))
    h
