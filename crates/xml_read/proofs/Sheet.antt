-- The whole text: what content comes to is what the reader's definition says of it, and the call's reply and list. Assumes nothing.
use mathlib.Core.Path.{◌≡◌, refl, sym, ◌∙◌, ap}
use mathlib.Core.Bool.{Bool, false}
use mathlib.Core.List.{List, [], ◌∷◌, ◌++◌}
use Prim.Native.Nat.{ℕ, ◌+◌, ◌≤◌, ◌<◌}
use native.Mathlib.Nat.{add-zero}
use native.Mathlib.Omega.{arith}
use borrow.Author.Tests.{ltb-true, ltb-false, not-false, lt-ltb, le-ltb}
use lib.Dec.{ltb}
use lib.ListN.{length, drop, length-drop}
use lib.Seq.{sets, drop-length}
use Rattle.lists.proofs.Tests.{by_test}
use Rattle.lists.specs.Fronts.{replied, written}
use Rattle.lists.proofs.Replied.{replied_refused, written_refused}
use Rattle.lists.proofs.Fronts.{sets_front}
use Rattle.xml.specs.Grammar.{at_place, most_depth, not_a_sheet}
use Rattle.xml.specs.Reader.{Reading, accepted, refused, read_from, read_sheet, at_end}
use Rattle.xml.specs.Replies.{sheet_refusal, kinds_in, sheet_reply, sheet_list, list_short}
use Rattle.std.specs.Prelude.{Result, Ok, Err}
use Rattle.store_types.specs.declared.refusal.Refusal.{Refusal}
use Rattle.store_types.specs.declared.refusal.Refusal.TheVariants.{NotASheet, ListTooShort}
use Rattle.store_types.specs.Replies.{number_of, numbered}
use Rattle.xml_laws.proofs.Dispatch.{step_refused, next_unopened}
use Rattle.xml_laws.proofs.Sheets.{refused_some}
use Rattle.xml_pieces.specs.declared.Cursor.{Cursor}
use Rattle.xml_pieces.specs.Pieces.{goes_on}
use Rattle.xml_pieces.specs.Outcome.{Part, in_text, done, failed, finish, outcome, cursor_at, Reached, ReadsOn, Ended}
use Rattle.xml_read.specs.Sure.{Sure, SureSheet}
use Rattle.xml_read.specs.Whole.{whole_part, whole_reply, ReadWhole}

-- WHAT A READING WAS, by what it came to
record Accepted (ls ns : List ℕ) (n : ℕ) (q : Reading) : Type 0 where
  kinds : List ℕ
  is : q ≡ accepted kinds
  count : n ≡ length kinds
  list : ns ≡ sets ls 0 kinds

was_accepted : (n : ℕ) (ls ns : List ℕ) (q : Reading) → done n ns ≡ finish 0 ls q → Accepted ls ns n q
unfolding finish
was_accepted n ls ns (accepted ks) e =
    let far : n ≡ 0 + length ks = cc in
    record { kinds = ks; is = refl; count = omega arith; list = cc }
was_accepted n ls ns (refused k) e = let z : ◌≡◌ {A = ℕ} 0 1 = cc in absurd (omega arith)

was_refused : (k : ℕ) (ls : List ℕ) (q : Reading) → failed k ≡ finish 0 ls q → q ≡ refused k
unfolding finish
was_refused k ls (accepted ks) e = let z : ◌≡◌ {A = ℕ} 0 1 = cc in absurd (omega arith)
was_refused k ls (refused m) e = ap refused (cc)

-- THE WHOLE TEXT from its first byte on
whole_refused : (bs ls ns : List ℕ) (k : Refusal) → read_sheet bs ≡ refused (number_of k) → length ns ≡ length ls → ReadWhole bs ls ns (Err k)
unfolding whole_reply numbered
whole_refused bs ls ns k e l =
    record { reply = rw e; list = λ ks f. let z : ◌≡◌ {A = ℕ} 0 1 = cc in absurd (omega arith); long = l }

whole_accepted : (bs ls ns : List ℕ) (n : ℕ) → Accepted ls ns n (read_sheet bs) → length ns ≡ length ls → ReadWhole bs ls ns (Ok n)
unfolding whole_reply numbered
whole_accepted bs ls ns n a l =
    record {
      reply = rw (a.is, a.count);
      list = λ ks f. let same : a.kinds ≡ ks = cc a.is in a.list ∙ ap (sets ls 0) same;
      long = l;
    }

-- what a reading of it is told
pub sure_whole : (bs ls : List ℕ) → SureSheet bs ls → Sure bs most_depth (cursor_at 0 0 0) ls
unfolding outcome finish read_sheet
sure_whole bs ls s l =
    let (ks, is) = s l in
    record { opened = []; deep = refl; count = 0 + length ks; list = sets ls 0 ks; accepts = ap (finish 0 ls) is }

-- an end tag that is left closes nothing
left_over : (r : Bool) (cs : List ℕ) → goes_on cs ≡ false → 0 < length cs → read_from (at_place []) r 0 cs ≡ refused not_a_sheet
unfolding goes_on
left_over r [] g l = absurd (omega arith)
left_over r (c ∷ cs) g l = step_refused (at_place []) r c cs not_a_sheet (next_unopened (c ∷ cs) (not-false _ g))

at_last : (bs : List ℕ) (c : Cursor) (ls : List ℕ) → c.at ≡ length bs → outcome bs [] ls (Ok c) ≡ done c.count ls
unfolding outcome finish read_from at_end
at_last bs c ls e = rw (e, drop-length bs, add-zero c.count)

over : (bs : List ℕ) (c : Cursor) (ls : List ℕ) → goes_on (drop c.at bs) ≡ false → c.at < length bs → outcome bs [] ls (Ok c) ≡ failed not_a_sheet
unfolding outcome finish
over bs c ls g l = ap (finish c.count ls) (left_over (in_text c) (drop c.at bs) g (omega (arith, length-drop c.at bs)))

ends : (bs : List ℕ) (c : Cursor) → c.at ≤ length bs → length bs ≤ c.at → c.at ≡ length bs
ends bs c h l = omega arith

pub read_whole : (bs ls ns : List ℕ) (q : Part) → ReadsOn bs most_depth (cursor_at 0 0 0) 0 ls ns q → Ended bs q → ReadWhole bs ls ns (whole_part bs q)
unfolding whole_part outcome read_sheet Ended Reached number_of
read_whole bs ls ns (Err k) r e = whole_refused bs ls ns k (was_refused (number_of k) ls _ (r.same [] refl)) r.long
read_whole bs ls ns (Ok c) r e =
    by_test (ltb c.at (length bs))
    (λ t. rw t (whole_refused bs ls ns NotASheet (was_refused not_a_sheet ls _ (sym (over bs c ns e (ltb-true _ _ t)) ∙ r.same [] refl)) r.long))
    (λ t. rw t (whole_accepted bs ls ns c.count (was_accepted c.count ls ns _ (sym (at_last bs c ns (ends bs c r.reached.0.within (ltb-false _ _ t))) ∙ r.same [] refl)) r.long))

-- THE REPLY, and the list behind the call. The first reading has an empty part of the list, and leaves it
nothing_written : (ms ls : List ℕ) → length ms ≡ 0 → ms ++ ls ≡ ls
nothing_written [] ls e = refl
nothing_written (m ∷ ms) ls e = absurd (omega arith)

refused_reading : (q : Reading) (k : ℕ) → Err k ≡ whole_reply q → q ≡ refused k
unfolding whole_reply
refused_reading (accepted ks) k e = let z : ◌≡◌ {A = ℕ} 0 1 = cc in absurd (omega arith)
refused_reading (refused m) k e = ap refused (cc)

accepted_reading : (q : Reading) (n : ℕ) → Ok n ≡ whole_reply q → (ks : List ℕ) × (q ≡ accepted ks) × (n ≡ length ks)
unfolding whole_reply
accepted_reading (accepted ks) n e = (ks, refl, cc)
accepted_reading (refused m) n e = let z : ◌≡◌ {A = ℕ} 0 1 = cc in absurd (omega arith)

short_reply : (bs ls ks : List ℕ) → read_sheet bs ≡ accepted ks → length ls < length ks → (Err list_short ≡ sheet_reply bs ls) × (ls ≡ sheet_list bs ls)
unfolding sheet_reply sheet_list sheet_refusal replied written
short_reply bs ls ks is l = let short = lt-ltb (length ls) (length ks) l in (rw (is, short), rw (is, short))

kinds_reply : (bs ls ks : List ℕ) → read_sheet bs ≡ accepted ks → length ks ≤ length ls → (Ok (length ks) ≡ sheet_reply bs ls) × (sets ls 0 ks ≡ sheet_list bs ls)
unfolding sheet_reply sheet_list sheet_refusal kinds_in replied written
kinds_reply bs ls ks is l = let fits = le-ltb (length ls) (length ks) l in (rw (is, fits), rw (is, fits) (sets_front ks ls l))

module _ (bs ls ms : List ℕ) (q : Result ℕ Refusal) (first : ReadWhole bs [] ms q) where
  kept : ms ++ ls ≡ ls
  kept = nothing_written ms ls first.long

  pub reply_refused : (k : Refusal) → q ≡ Err k → (numbered {A = ℕ} (Err k) ≡ sheet_reply bs ls) × (ms ++ ls ≡ sheet_list bs ls)
  unfolding sheet_reply sheet_list sheet_refusal numbered
  reply_refused k e =
      let is = refused_reading (read_sheet bs) (number_of k) (rw e at first.reply) in
      let some_number = refused_some bs (number_of k) is in
      (rw is (replied_refused Err (number_of k) _ some_number), kept ∙ rw is (written_refused (number_of k) _ ls some_number))

  module _ (n : ℕ) (e : q ≡ Ok n) where
    was : (ks : List ℕ) × (read_sheet bs ≡ accepted ks) × (n ≡ length ks)
    unfolding numbered
    was = accepted_reading (read_sheet bs) n (rw e at first.reply)

    pub reply_short : length (ms ++ ls) < n → (numbered {A = ℕ} (Err ListTooShort) ≡ sheet_reply bs ls) × (ms ++ ls ≡ sheet_list bs ls)
    unfolding numbered number_of
    reply_short l =
        let (ks, is, count) = was in
        let (reply, list) = short_reply bs ls ks is (omega (arith, ap length kept, count)) in
        (reply, kept ∙ list)

    pub sure_second : SureSheet bs (ms ++ ls)
    sure_second l = let (ks, is, count) = was in (ks, is)

    pub reply_kinds : n ≤ length (ms ++ ls) → (ns : List ℕ) (w : Result ℕ Refusal) → ReadWhole bs (ms ++ ls) ns w → (numbered w ≡ sheet_reply bs ls) × (ns ≡ sheet_list bs ls)
    unfolding whole_reply
    reply_kinds l ns w second =
        let (ks, is, count) = was in
        let (reply, list) = kinds_reply bs ls ks is (omega (arith, ap length kept, count)) in
        (second.reply ∙ ap whole_reply is ∙ reply, second.list ks is ∙ ap (λ m. sets m 0 ks) kept ∙ list)
