-- What a load's fields say, by the tests that the code makes on them. Assumes nothing.
use mathlib.Core.Path.{◌≡◌, refl, ap, sym, ◌∙◌}
use mathlib.Core.Bool.{Bool, true, false, ◌&&◌, ◌||◌, cond}
use mathlib.Core.List.{List, [], ◌∷◌, map}
use Prim.Native.Nat.{ℕ, suc, ◌+◌, ◌≤◌, ◌<◌}
use native.Mathlib.Omega.{arith}
use borrow.Author.Tests.{eqb-true, eqb-false}
use lib.Dec.{eqb}
use lib.ListN.{length, take, drop, length-drop, length-map}
use Rattle.std.specs.Prelude.{Option, Some, None, unwrap_or, option_map}
use denote.Ref.{Bor}
use Rattle.lists.specs.Lists.{same}
use Rattle.console_fields.specs.Field.{number_of, is_letter, all_letters, letter_kind}
use Rattle.console_fields.specs.Scan.{first_space}
use Rattle.console_fields.specs.Post.{Lettered, Split}
use Rattle.console_fields.proofs.Scans.{first_space_within}
use Rattle.console.specs.Line.{fields, load_of, command_of, unknown, load_word}
use Rattle.console.specs.Post.{Gives}
use Rattle.console.specs.declared.Command.TheVariants.{Load}
use Rattle.console.proofs.Splits.{fields_one, fields_more, fields_some, fields_after, fields_split}
use Rattle.console.proofs.Words.{gives_kinds, gives_plain}

-- letters hold no space
letter_no_space : (c : ℕ) → is_letter c ≡ true → eqb c 32 ≡ false
unfolding is_letter
letter_no_space c e = go (eqb c 32) refl
  where
    go : (t : Bool) → eqb c 32 ≡ t → eqb c 32 ≡ false
    go true z = absurd (let n : c ≡ 32 = eqb-true c 32 z in not_space (rw n at e))
      where
        not_space : (eqb 32 66 || (eqb 32 69 || eqb 32 84)) ≡ true → ⊥
        not_space x = let k : ◌≡◌ {A = ℕ} 0 1 = cc in omega arith
    go false z = z

letters_one : (cs : List ℕ) → all_letters cs ≡ true → first_space cs ≡ length cs
unfolding all_letters first_space
letters_one [] e = refl
letters_one (c ∷ cs) e = go (is_letter c) refl e (λ z. letters_one cs z)
  where
    go : (t : Bool) → is_letter c ≡ t → (t && all_letters cs) ≡ true → (all_letters cs ≡ true → first_space cs ≡ length cs) → cond (eqb c 32) 0 (suc (first_space cs)) ≡ suc (length cs)
    go true q z rest = rw (letter_no_space c q) (ap suc (rest z))
    go false q z rest = absurd (let k : ◌≡◌ {A = ℕ} 0 1 = cc in omega arith)

-- THE ENDS of three numbers, one after the other, where fields follow the first two: more stands after the first, and the second
pub record Ends (cs : List ℕ) (e f g : ℕ) : Type 0 where
  pub first : e ≡ 0 + first_space (drop 0 cs)
  pub goes_on : e ≡ length cs → ⊥
  pub second : f ≡ e + 1 + first_space (drop (e + 1) cs)
  pub goes_further : f ≡ length cs → ⊥
  pub third : g ≡ f + 1 + first_space (drop (f + 1) cs)

pub ends : {cs : List ℕ} {e f g : ℕ} → e ≡ 0 + first_space (drop 0 cs) → (e ≡ length cs → ⊥) → f ≡ e + 1 + first_space (drop (e + 1) cs) →
    (f ≡ length cs → ⊥) → g ≡ f + 1 + first_space (drop (f + 1) cs) → Ends cs e f g
ends p m q n r = record { first = p; goes_on = m; second = q; goes_further = n; third = r }

pub one_within : (cs : List ℕ) (e : ℕ) → e ≡ 0 + first_space (drop 0 cs) → (e ≡ length cs → ⊥) → e + 1 ≤ length cs
one_within cs e q n = omega (arith, first_space_within cs, q, n)

pub two_within : (cs : List ℕ) (e f : ℕ) → e ≡ 0 + first_space (drop 0 cs) → (e ≡ length cs → ⊥) → f ≡ e + 1 + first_space (drop (e + 1) cs) →
    (f ≡ length cs → ⊥) → f + 1 ≤ length cs
two_within cs e f q n p m = omega (arith, one_within cs e q n, first_space_within (drop (e + 1) cs), length-drop (e + 1) cs, p, m)

-- letters that are absent are none
pub letters_or_none : (o : Option (Bor (List ℕ))) (default : Bor (List ℕ)) → default.now ≡ [] → (unwrap_or o default).now ≡ unwrap_or (option_map (λ r. r.now) o) []
letters_or_none None default e = e
letters_or_none (Some r) default e = refl

-- FEWER THAN THREE NUMBERS
pub load_one : {cs a : List ℕ} (ks : List ℕ) → Split cs a None → Gives (command_of (load_word ∷ fields cs)) None ks
unfolding command_of same fields_after
load_one ks s = gives_plain (rw (fields_split s))

pub load_two : {cs a r b : List ℕ} (ks : List ℕ) → Split cs a (Some r) → Split r b None → Gives (command_of (load_word ∷ fields cs)) None ks
unfolding command_of fields_after
load_two ks s t = gives_plain (rw (fields_split s, fields_split t))

-- THREE, and what follows
module _ {cs a r b q c : List ℕ} {o : Option (List ℕ)} (s : Split cs a (Some r)) (t : Split r b (Some q)) (u : Split q c o) where
  three : fields cs ≡ a ∷ b ∷ c ∷ fields_after o
  unfolding fields_after
  three = fields_split s ∙ ap (λ fs. a ∷ fs) (fields_split t) ∙ ap (λ fs. a ∷ b ∷ fs) (fields_split u)

  -- where no letters make a load of three numbers, no fields after them do
  refused : (ds : List (List ℕ)) → ((ls : List ℕ) → load_of (number_of a) (number_of b) (number_of c) ls ≡ unknown) → command_of (load_word ∷ a ∷ b ∷ c ∷ ds) ≡ unknown
  unfolding command_of same
  refused [] n = n []
  refused (d ∷ []) n = n d
  refused (d ∷ e ∷ fs) n = refl

  load_refused : ((ls : List ℕ) → load_of (number_of a) (number_of b) (number_of c) ls ≡ unknown) → command_of (load_word ∷ fields cs) ≡ unknown
  load_refused n = rw three (refused (fields_after o) n)

  pub load_no_s : (ks : List ℕ) → None ≡ number_of a → Gives (command_of (load_word ∷ fields cs)) None ks
  unfolding load_of
  load_no_s ks e = gives_plain (load_refused (λ ls. rw (sym e)))

  -- letters are no longer than the line
  pub letters_within : (ls : List ℕ) → ls ≡ unwrap_or o [] → length ls ≤ length cs
  letters_within ls is = rw is (omega (arith, within o u, shorter t, shorter s))
    where
      shorter : {xs f ys : List ℕ} → Split xs f (Some ys) → length ys ≤ length xs
      shorter {xs} w = omega (arith, ap length w.rest_is.bytes, length-drop (suc (first_space xs)) xs)

      within : (p : Option (List ℕ)) → Split q c p → length (unwrap_or p []) ≤ length q
      within None w = omega arith
      within (Some d) w = shorter w

  module _ (x : ℕ) (is_s : Some x ≡ number_of a) where
    pub load_no_r : (ks : List ℕ) → None ≡ number_of b → Gives (command_of (load_word ∷ fields cs)) None ks
    unfolding load_of
    load_no_r ks e = gives_plain (load_refused (λ ls. rw (sym is_s, sym e)))

    module _ (y : ℕ) (is_r : Some y ≡ number_of b) where
      pub load_no_book : (ks : List ℕ) → None ≡ number_of c → Gives (command_of (load_word ∷ fields cs)) None ks
      unfolding load_of
      load_no_book ks e = gives_plain (load_refused (λ ls. rw (sym is_s, sym is_r, sym e)))

      module _ (z : ℕ) (is_book : Some z ≡ number_of c) where
        -- a fourth field, with two after it that refuse
        many : (d e : List ℕ) (es : List (List ℕ)) → command_of (load_word ∷ a ∷ b ∷ c ∷ d ∷ e ∷ es) ≡ unknown
        unfolding command_of
        many d e es = refl

        -- bytes that are no letters refuse, whether a space is among them or not
        not_letters : (d : List ℕ) → all_letters d ≡ false → command_of (load_word ∷ a ∷ b ∷ c ∷ fields d) ≡ unknown
        unfolding command_of same load_of
        not_letters d l = by_space (eqb (first_space d) (length d)) refl
          where
            next : List ℕ
            next = drop (suc (first_space d)) d

            by_space : (t : Bool) → eqb (first_space d) (length d) ≡ t → command_of (load_word ∷ a ∷ b ∷ c ∷ fields d) ≡ unknown
            by_space true n = rw (fields_one d (eqb-true (first_space d) (length d) n), sym is_s, sym is_r, sym is_book, l)
            by_space false n =
                let space : first_space d < length d = omega (arith, eqb-false (first_space d) (length d) n, first_space_within d) in
                let (e, es, two) = fields_some next in
                rw (fields_more d space, two) (many (take (first_space d) d) e es)

        with_letters : (p : Option (List ℕ)) → all_letters (unwrap_or p []) ≡ true →
            command_of (load_word ∷ a ∷ b ∷ c ∷ fields_after p) ≡ record { command = Some (Load x y z (length (unwrap_or p []))); kinds = map letter_kind (unwrap_or p []) }
        unfolding command_of same load_of all_letters fields_after
        with_letters None l = rw (sym is_s, sym is_r, sym is_book)
        with_letters (Some d) l = rw (fields_one d (letters_one d l), sym is_s, sym is_r, sym is_book, l)

        no_letters : (p : Option (List ℕ)) → all_letters (unwrap_or p []) ≡ false → command_of (load_word ∷ a ∷ b ∷ c ∷ fields_after p) ≡ unknown
        unfolding all_letters fields_after
        no_letters None l = absurd (let k : ◌≡◌ {A = ℕ} 0 1 = cc in omega arith)
        no_letters (Some d) l = not_letters d l

        -- what `letters` says of the letters
        module _ (ls ks : List ℕ) (said_so : Bool) (is : ls ≡ unwrap_or o []) (said : Lettered ls ks said_so) where
          pub load_letters : said_so ≡ true → Gives (command_of (load_word ∷ fields cs)) (Some (Load x y z (length ls))) ks
          load_letters e =
              let all : all_letters ls ≡ true = sym said.whether ∙ e in
              gives_kinds {xs = map letter_kind ls}
              (rw (three, is) (with_letters o (rw is at all)))
              (rw (length-map ls letter_kind) (said.written all))

          pub load_no_letters : said_so ≡ false → Gives (command_of (load_word ∷ fields cs)) None ks
          load_no_letters e = gives_plain (rw three (no_letters o (rw is at (sym said.whether ∙ e))))
