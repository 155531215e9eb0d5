-- What the walk's verdict says of the reader: words that pass say the store that is read, and of others none is read.
-- Assumes nothing.
use mathlib.Core.Path.{◌≡◌, refl, sym, ◌∙◌}
use mathlib.Core.Bool.{true, false, true≢false}
use mathlib.Core.List.{List}
use mathlib.Core.Option.{Option, none, some}
use Prim.Native.Nat.{ℕ}
use Rattle.calls.specs.Store.{Store}
use Rattle.calls.specs.Words.{Says, read}
use Rattle.calls.specs.Replies.{said}
use Rattle.calls.specs.Promise.{ReaderRight}
use Rattle.calls_laws.proofs.Reader.{reader_right}
use Rattle.calls_laws.proofs.WordSteps.{said_store}
use Rattle.walk_model.specs.Walk.{words_pass}
use Rattle.walk_model.specs.Promise.{WalkRight}
use Rattle.walk_model.proofs.WalkRight.{walk_right}

module _ (ws : List ℕ) where
  pub passes_says : words_pass ws ≡ true → Says ws (said ws)
  unfolding WalkRight
  passes_says e = let st = (walk_right ws).0 e in rw (said_store ws st.0 st.1) st.1

  pub fails_none : words_pass ws ≡ false → read ws ≡ none
  unfolding WalkRight ReaderRight
  fails_none e = go (read ws) refl
    where
      go : (o : Option Store) → read ws ≡ o → o ≡ none
      go none q = refl
      go (some st) q = absurd (true≢false (sym ((walk_right ws).1 (st, (reader_right ws st).0 q)) ∙ e))
