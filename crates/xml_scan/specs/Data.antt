-- The test of a byte of character data. Assumes nothing: these are definitions.
use Rattle.std.specs.Prelude.{◌&&◌, ◌||◌, not, cond, List, [], ◌∷◌, ℕ, eqb}
use Rattle.lists.specs.Fronts.{starts_with}
use Rattle.xml.specs.Bytes.{is_char, less_than, ampersand, cdata_closes}
use Rattle.xml_scan.specs.declared.bodies.Datum.{Datum}
use Rattle.xml_scan.specs.declared.bodies.Datum.TheVariants.{GoesOn, Ends, Broken}

-- whether data goes on after the first byte of a text, ends before it, or is broken there
unfoldable pub data_test : List ℕ → Datum
data_test [] = Ends
data_test (c ∷ cs) =
    cond (eqb c less_than || eqb c ampersand) Ends (cond (is_char c && not (starts_with cdata_closes (c ∷ cs))) GoesOn Broken)
