-- A whole line's command from its word and what is after it, by the tests that the code makes. Assumes nothing.
use mathlib.Core.Path.{◌≡◌, ap, ◌∙◌}
use mathlib.Core.Bool.{true, false}
use mathlib.Core.List.{List, [], ◌∷◌}
use Prim.Native.Nat.{ℕ, ◌≤◌, ◌<◌}
use lib.ListN.{length}
use Rattle.std.specs.Prelude.{Option, Some, None}
use Rattle.lists.specs.Lists.{same}
use Rattle.lists.proofs.Same.{same_equal}
use Rattle.console_fields.specs.Post.{Split}
use Rattle.console.specs.Line.{Parsed, fields, command_of, parsed, load_word, line_limit}
use Rattle.console.specs.Post.{Gives}
use Rattle.console.specs.declared.Command.{Command}
use Rattle.console.proofs.Splits.{fields_after, fields_some, fields_split}
use Rattle.console.proofs.Words.{gives_plain, one_kinds, two_kinds, not_load, parsed_long, parsed_short}

-- a command that has no kinds
no_kinds : {p q : Parsed} {c : Option Command} {ks : List ℕ} → p ≡ q → q.kinds ≡ [] → c ≡ q.command → Gives p c ks
no_kinds e k h = rw e (record { command = h; written = rw k })

pub line_long : (cs ks : List ℕ) → line_limit < length cs → Gives (parsed cs) None ks
line_long cs ks l = gives_plain (parsed_long cs l)

-- a line that is not too long
module _ {cs w : List ℕ} (ks : List ℕ) (short : length cs ≤ line_limit) where
  pub line_one : (c : Option Command) → Split cs w None → c ≡ (command_of (w ∷ [])).command → Gives (parsed cs) c ks
  unfolding fields_after
  line_one c s h = no_kinds (parsed_short cs short ∙ ap command_of (fields_split s)) (one_kinds w) h

  -- more follows
  module _ {r : List ℕ} (s : Split cs w (Some r)) where
    word_and_rest : parsed cs ≡ command_of (w ∷ fields r)
    unfolding fields_after
    word_and_rest = parsed_short cs short ∙ ap command_of (fields_split s)

    pub line_load : (c : Option Command) → same w load_word ≡ true → Gives (command_of (load_word ∷ fields r)) c ks → Gives (parsed cs) c ks
    line_load c t g = rw (word_and_rest, same_equal w load_word t) g

    pub line_two : {f : List ℕ} (c : Option Command) → Split r f None → c ≡ (command_of (w ∷ f ∷ [])).command → Gives (parsed cs) c ks
    unfolding fields_after
    line_two {f} c t h = no_kinds (word_and_rest ∙ ap (λ fs. command_of (w ∷ fs)) (fields_split t)) (two_kinds w f) h

    pub line_many : {f q : List ℕ} → Split r f (Some q) → same w load_word ≡ false → Gives (parsed cs) None ks
    unfolding fields_after
    line_many {f} {q} t n =
        let (g, gs, e) = fields_some q in
        gives_plain (word_and_rest ∙ ap (λ fs. command_of (w ∷ fs)) (fields_split t) ∙ not_load w f (fields q) g gs n e)
