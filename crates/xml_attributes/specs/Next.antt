-- What stands next in a tag, from a place after its name on. Assumes nothing: these are definitions.
use Rattle.std.specs.Prelude.{true, false, cond, List, ℕ, ◌+◌, eqb, drop, Option, Some, None}
use Rattle.std.proofs.Math.Option as scan
use Rattle.lists.specs.Fronts.{starts_with}
use Rattle.xml.specs.Bytes.{is_space, tag_closes, lone_closes}
use Rattle.xml.specs.Scan.{Sized, run, attribute_at}
use Rattle.xml_attributes.specs.declared.AttributeRead.{AttributeRead}
use Rattle.xml_attributes.specs.declared.NextInTag.{NextInTag}
use Rattle.xml_attributes.specs.declared.NextInTag.TheVariants as next

-- where the name of an attribute ends, and the attribute
unfoldable pub attribute_found : (from : ℕ) → scan.Option Sized → Option AttributeRead
attribute_found a scan.none = None
attribute_found a (scan.some z) = Some (record { name = a + z.name; end = a + z.whole })

-- an attribute that begins at a place
unfoldable pub next_attribute : (begins : ℕ) → scan.Option Sized → Option NextInTag
next_attribute b scan.none = None
next_attribute b (scan.some z) = Some (next.Attribute b (b + z.name) (b + z.whole))

-- after spaces from a place on: > or />, or an attribute where there is a space before it
unfoldable pub next_in_tag : (at : ℕ) → List ℕ → Option NextInTag
next_in_tag a cs =
    let g = run is_space cs in
    let rest = drop g cs in
    cond (starts_with tag_closes rest) (Some (next.Closer (a + g + 1) false))
    (cond (starts_with lone_closes rest) (Some (next.Closer (a + g + 2) true))
    (cond (eqb g 0) None (next_attribute (a + g) (attribute_at rest))))
