-- Bodies up to a closer, by the text from a place on. Assumes nothing.
use mathlib.Core.Path.{◌≡◌}
use mathlib.Core.Bool.{true, false}
use mathlib.Core.List.{List}
use mathlib.Core.Option.{none, some}
use Prim.Native.Nat.{ℕ, ◌+◌, ◌≤◌, ◌<◌}
use native.Mathlib.Numerals.{add-one}
use lib.ListN.{length, get_or, drop, drop_of_length-le}
use lib.Seq.{drop-cons}
use Rattle.lists.specs.Fronts.{starts_with}
use Rattle.xml.specs.Bytes.{is_char}
use Rattle.xml.specs.Scan.{later, body_length}

module _ (closer text : List ℕ) (i : ℕ) where
  pub body_over : length text ≤ i → body_length closer (drop i text) ≡ none
  unfolding body_length
  body_over l = rw (drop_of_length-le text l)

  module _ (l : i < length text) where
    pub body_closed : starts_with closer (drop i text) ≡ true → body_length closer (drop i text) ≡ some 0
    unfolding body_length
    body_closed e = rw (drop-cons text i 0 l, (rw (drop-cons text i 0 l) at e))

    pub body_broken : starts_with closer (drop i text) ≡ false → is_char (get_or text i 0) ≡ false → body_length closer (drop i text) ≡ none
    unfolding body_length
    body_broken e n = rw (drop-cons text i 0 l, (rw (drop-cons text i 0 l) at e), n)

    pub body_on : starts_with closer (drop i text) ≡ false → is_char (get_or text i 0) ≡ true → body_length closer (drop i text) ≡ later (body_length closer (drop (i + 1) text))
    unfolding body_length
    body_on e n = rw (add-one i, drop-cons text i 0 l, (rw (drop-cons text i 0 l) at e), n)
