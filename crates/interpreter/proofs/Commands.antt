-- What a line prints and leaves, by its command; what `list` prints, by the call's reply. Assumes nothing.
use mathlib.Core.Path.{◌≡◌, refl, ap, sym, ◌∙◌}
use mathlib.Core.Bool.{Bool, true, false, ◌||◌, cond}
use mathlib.Core.List.{List, [], ◌∷◌, ◌++◌}
use mathlib.Core.Option.{Option as Maybe, none, some}
use Rattle.std.specs.Prelude.{Option, Some, None, Result, Ok, Err}
use Prim.Native.Nat.{ℕ, zero, suc, ◌≤◌}
use native.Mathlib.Omega.{arith}
use borrow.Author.Tests.{ltb-false}
use lib.Dec.{ltb}
use lib.ListN.{length, take, length-map, replicate, length-replicate}
use lib.Seq.{take_at, length-take-le}
use Rattle.store_types.specs.Limits.{no_tag}
use Rattle.store_types.specs.Layout.{header_words}
use Rattle.lists.specs.Lists.{first, same}
use Rattle.lists.specs.Fronts.{in_front, replied, written}
use Rattle.calls.specs.Store.{Store, label}
use Rattle.calls.specs.Listing.{inside_tests, list_refusal, listed_tags, listed_labels}
use Rattle.calls.specs.Words.{read}
use Rattle.store_types.specs.Replies.{number_of as refusal_number, numbered}
use Rattle.store_types.specs.declared.refusal.Refusal.{Refusal}
use Rattle.calls.specs.Replies.{on_store, refusal_over, store_or, said, load_words, list_refused, list_reply, list_tags, list_labels}
use Rattle.console_fields.specs.Field.{number_of, all_letters, letter_kind}
use Rattle.console.specs.Line.{Parsed, unknown, plain, parsed, fields, number_or_front, load_of, insert_of, mark_of, command_of, line_limit, load_word, list_word, element_word, text_word, mark_word}
use Rattle.reply_text.specs.Text.{reply_line, tag_lines, end_line}
use Rattle.console.specs.Post.{Gives}
use Rattle.console.specs.declared.Command.{Command}
use Rattle.console.specs.declared.Command.TheVariants.{Load, List as ListAll}
use Rattle.interpreter.specs.Answer.{book_tags, listing, list_text, load_text, command_text, command_words, line_text, line_words}

-- A LOAD says how many kinds it has
Counted : Parsed → Type 0
Counted p = (s r b n : ℕ) → p.command ≡ Some (Load s r b n) → length p.kinds ≡ n

unknown_counted : Counted unknown
unfolding Counted
unknown_counted s r b n e = absurd (let z : ◌≡◌ {A = ℕ} 0 1 = cc in omega arith)

either_counted : (t : Bool) (p q : Parsed) → Counted p → Counted q → Counted (cond t p q)
either_counted true p q a b = a
either_counted false p q a b = b

load_counted : (s r b : Option ℕ) (cs : List ℕ) → Counted (load_of s r b cs)
unfolding Counted load_of
load_counted None r b cs = unknown_counted
load_counted (Some s) None b cs = unknown_counted
load_counted (Some s) (Some r) None cs = unknown_counted
load_counted (Some s) (Some r) (Some b) cs =
    either_counted (all_letters cs) _ unknown (λ s' r' b' n e. length-map cs letter_kind ∙ (cc)) unknown_counted

insert_counted : (k : ℕ) (y : Option ℕ) → Counted (insert_of k y)
unfolding Counted insert_of
insert_counted k None = unknown_counted
insert_counted k (Some y) = λ s r b n e. absurd (let z : ◌≡◌ {A = ℕ} 0 1 = cc in omega arith)

mark_counted : (y : Option ℕ) → Counted (mark_of y)
unfolding Counted mark_of
mark_counted None = unknown_counted
mark_counted (Some y) = λ s r b n e. absurd (let z : ◌≡◌ {A = ℕ} 0 1 = cc in omega arith)

list_counted : Counted (plain ListAll)
unfolding Counted
list_counted s r b n e = absurd (let z : ◌≡◌ {A = ℕ} 0 1 = cc in omega arith)

command_counted : (fs : List (List ℕ)) → Counted (command_of fs)
unfolding command_of
command_counted [] = unknown_counted
command_counted (w ∷ []) = either_counted (same w list_word) _ _ list_counted unknown_counted
command_counted (w ∷ a ∷ []) =
    either_counted (same w element_word) _ _ (insert_counted 1 (number_or_front a))
    (either_counted (same w text_word) _ _ (insert_counted 3 (number_or_front a))
    (either_counted (same w mark_word) _ _ (mark_counted (number_or_front a)) unknown_counted))
command_counted (w ∷ a ∷ b ∷ []) = unknown_counted
command_counted (w ∷ a ∷ b ∷ c ∷ []) = either_counted (same w load_word) _ _ (load_counted (number_of a) (number_of b) (number_of c) []) unknown_counted
command_counted (w ∷ a ∷ b ∷ c ∷ d ∷ []) = either_counted (same w load_word) _ _ (load_counted (number_of a) (number_of b) (number_of c) d) unknown_counted
command_counted (w ∷ a ∷ b ∷ c ∷ d ∷ e ∷ fs) = unknown_counted

parsed_counted : (l : List ℕ) → Counted (parsed l)
unfolding parsed
parsed_counted l = either_counted (ltb line_limit (length l)) _ _ unknown_counted (command_counted (fields l))

-- A LINE by its command d, where its kinds stand in front of ks: what is left and printed for the command is the line's
module _ (l : List ℕ) {ks : List ℕ} {c d : Option Command} (g : Gives (parsed l) c ks) (e : c ≡ d) where
  line_prints : (ws : List ℕ) → command_text d (take (length (parsed l).kinds) ks) ws ≡ line_text l ws
  unfolding line_text
  line_prints ws = rw (g.written, ← g.command, e)

  line_leaves : (ws : List ℕ) → command_words d (take (length (parsed l).kinds) ks) ws ≡ line_words l ws
  unfolding line_words
  line_leaves ws = rw (g.written, ← g.command, e)

  pub answers : (ws : List ℕ) {ws' text : List ℕ} → ws' ≡ command_words d (take (length (parsed l).kinds) ks) ws → text ≡ command_text d (take (length (parsed l).kinds) ks) ws →
      (ws' ≡ line_words l ws) × (text ≡ line_text l ws)
  answers ws w p = (w ∙ line_leaves ws, p ∙ line_prints ws)

module _ (l : List ℕ) {ks : List ℕ} {c : Option Command} {s r b n : ℕ} (g : Gives (parsed l) c ks) (e : c ≡ Some (Load s r b n)) where
  load_count : length (parsed l).kinds ≡ n
  unfolding Counted
  load_count = parsed_counted l s r b n (sym g.command ∙ e)

  pub answers_load : (ws : List ℕ) {ws' text : List ℕ} → ws' ≡ load_words s r b (take n ks) ws → text ≡ load_text s r b (take n ks) ws →
      (ws' ≡ line_words l ws) × (text ≡ line_text l ws)
  unfolding command_text command_words
  answers_load ws w p = answers l g e ws (w ∙ ap (λ k. load_words s r b (take k ks) ws) (sym load_count)) (p ∙ ap (λ k. load_text s r b (take k ks) ws) (sym load_count))

  pub load_within : n ≤ length ks
  load_within = omega (arith, load_count, ap length g.written, take_most (length (parsed l).kinds) ks)
    where
      take_most : (k : ℕ) (xs : List ℕ) → length (take k xs) ≤ length xs
      take_most zero xs = omega arith
      take_most (suc k) [] = omega arith
      take_most (suc k) (x ∷ xs) = omega (arith, take_most k xs)

-- LIST, into lists for as many tags as the store is for
module _ (ws ts ls : List ℕ) (a : length ts ≡ book_tags) (b : length ls ≡ book_tags) where
  few : list_refused no_tag ws ts ls ≡ 0 → length (listed_tags no_tag (said ws)) ≤ book_tags
  unfolding list_refused refusal_over on_store said store_or list_refusal inside_tests first
  few e = go (ltb (length ws) header_words) (read ws) (rw (a, b) at e)
    where
      short : (n : ℕ) (t : Bool) → ltb book_tags n ≡ t → ◌≡◌ {A = ℕ} (cond (t || t) 11 0) 0 → n ≤ book_tags
      short n true q z = absurd (omega arith)
      short n false q z = omega (arith, ltb-false)

      go : (t : Bool) (o : Maybe Store) → cond t 1 (on_store o (list_refusal book_tags book_tags no_tag)) ≡ 0 → length (listed_tags no_tag (store_or o)) ≤ book_tags
      go true o z = absurd (omega arith)
      go false none z = absurd (omega arith)
      go false (some st) z = short (length (listed_tags no_tag st)) (ltb book_tags (length (listed_tags no_tag st))) refl z

  prints : list_text ws ≡ listing (list_refused no_tag ws ts ls) (listed_tags no_tag (said ws)) (listed_labels no_tag (said ws))
  unfolding list_text list_refused
  prints = rw (a, b)

  list_few : (n : ℕ) → Ok n ≡ list_reply no_tag ws ts ls → n ≤ book_tags
  unfolding list_reply replied
  list_few n e = go (list_refused no_tag ws ts ls) refl e
    where
      go : (k : ℕ) → list_refused no_tag ws ts ls ≡ k → Ok n ≡ replied Err k (Ok (length (listed_tags no_tag (said ws)))) → n ≤ book_tags
      go zero q z = let m : n ≡ length (listed_tags no_tag (said ws)) = cc in rw m (few q)
      go (suc k) q z = absurd (let y : ◌≡◌ {A = ℕ} 0 1 = cc in omega arith)

  list_listed : (n : ℕ) → Ok n ≡ list_reply no_tag ws ts ls →
      list_text ws ≡ tag_lines (take n (list_tags no_tag ws ts ls)) (take n (list_labels no_tag ws ts ls)) ++ end_line n
  unfolding list_reply replied list_tags list_labels listed_labels written listing in_front
  list_listed n e = prints ∙ go (list_refused no_tag ws ts ls) e
    where
      go : (k : ℕ) → Ok n ≡ replied Err k (Ok (length (listed_tags no_tag (said ws)))) →
          listing k (listed_tags no_tag (said ws)) (listed_labels no_tag (said ws)) ≡
          tag_lines (take n (written k (listed_tags no_tag (said ws)) ts)) (take n (written k (listed_labels no_tag (said ws)) ls)) ++ end_line n
      go zero z =
          let m : n ≡ length (listed_tags no_tag (said ws)) = cc in
          let many : length (listed_labels no_tag (said ws)) ≡ n = length-map (listed_tags no_tag (said ws)) (label (said ws)) ∙ sym m in
          let tags : take n (in_front (listed_tags no_tag (said ws)) ts) ≡ listed_tags no_tag (said ws) = take_at (listed_tags no_tag (said ws)) _ n (sym m) in
          let labels : take n (in_front (listed_labels no_tag (said ws)) ls) ≡ listed_labels no_tag (said ws) = take_at (listed_labels no_tag (said ws)) _ n many in
          rw (tags, labels, m)
      go (suc k) z = absurd (let y : ◌≡◌ {A = ℕ} 0 1 = cc in omega arith)

  pub list_yes : (q : Result ℕ ℕ) (n : ℕ) (ts' ls' : List ℕ) → q ≡ list_reply no_tag ws ts ls → q ≡ Ok n → ts' ≡ list_tags no_tag ws ts ls → ls' ≡ list_labels no_tag ws ts ls →
      tag_lines (take n ts') (take n ls') ++ end_line n ≡ list_text ws
  list_yes q n ts' ls' e f k m = rw (k, m) (sym (list_listed n (sym f ∙ e)))

  pub list_no : (q : Result ℕ ℕ) (k : ℕ) → q ≡ list_reply no_tag ws ts ls → q ≡ Err k → reply_line (k ∷ []) ≡ list_text ws
  unfolding list_reply replied listing
  list_no q k e f = sym (prints ∙ go (list_refused no_tag ws ts ls) (sym f ∙ e))
    where
      go : (j : ℕ) → Err k ≡ replied Err j (Ok (length (listed_tags no_tag (said ws)))) → listing j (listed_tags no_tag (said ws)) (listed_labels no_tag (said ws)) ≡ reply_line (k ∷ [])
      go zero z = absurd (let y : ◌≡◌ {A = ℕ} 0 1 = cc in omega arith)
      go (suc j) z = let q : k ≡ suc j = cc in rw q

-- into the lists that the code lends, which are all 0
abbrev blank : List ℕ
blank = replicate book_tags 0

module _ (ws : List ℕ) (n : ℕ) {q : Result ℕ Refusal} (e : numbered q ≡ list_reply no_tag ws blank blank) (f : q ≡ Ok n) where
  listed : numbered q ≡ Ok n
  unfolding numbered
  listed = ap numbered f

  pub listed_few : n ≤ book_tags
  listed_few = list_few ws blank blank (length-replicate {A = ℕ} book_tags 0) (length-replicate {A = ℕ} book_tags 0) n (sym listed ∙ e)

  pub listed_fits : (xs : List ℕ) → length xs ≡ book_tags → n ≤ length xs
  listed_fits xs k = omega (arith, listed_few)

  pub listed_taken : (xs : List ℕ) → length xs ≡ book_tags → n ≡ length (take n xs)
  listed_taken xs k = sym (length-take-le n xs (listed_fits xs k))

  pub listed_yes : {ts ls : List ℕ} → length ts ≡ book_tags → ts ≡ list_tags no_tag ws blank blank → ls ≡ list_labels no_tag ws blank blank →
      tag_lines (take n ts) (take n ls) ++ end_line (length (take n ts)) ≡ list_text ws
  listed_yes {ts} {ls} l k m =
      rw (← listed_taken ts l)
      (list_yes ws blank blank (length-replicate {A = ℕ} book_tags 0) (length-replicate {A = ℕ} book_tags 0) (numbered q) n ts ls e listed k m)

pub listed_no : (ws : List ℕ) {q : Result ℕ Refusal} {r : Refusal} → numbered q ≡ list_reply no_tag ws blank blank → q ≡ Err r →
    reply_line (refusal_number r ∷ []) ≡ list_text ws
unfolding numbered
listed_no ws {q} {r} e f =
    list_no ws blank blank (length-replicate {A = ℕ} book_tags 0) (length-replicate {A = ℕ} book_tags 0) (numbered q) (refusal_number r) e (ap numbered f)
