-- What the readers of tags answer, from where they began. Assumes nothing: these are definitions.
use Rattle.std.proofs.Math.Option as scan
use Rattle.std.specs.Prelude.{ℕ, suc, ◌+◌, Option, Some, None}
use Rattle.xml.specs.Scan.{Ending, SizedTag}
use Rattle.xml_tag.specs.declared.TagEnd.{TagEnd}
use Rattle.xml_tag.specs.declared.TagRead.{TagRead}

unfoldable pub end_found : (from : ℕ) → scan.Option Ending → Option TagEnd
end_found a scan.none = None
end_found a (scan.some e) = Some (record { end = a + e.used; lone = e.lone })

-- where the name of a tag ends, which begins after its <, and the tag
unfoldable pub tag_found : (from : ℕ) → scan.Option SizedTag → Option TagRead
tag_found a scan.none = None
tag_found a (scan.some t) = Some (record { name = suc a + t.name; end = a + t.used; lone = t.lone })
