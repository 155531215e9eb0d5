-- A history call by call: a change by what its entry replies and leaves, a reading by what it finds. Assumes nothing.
use mathlib.Core.Path.{◌≡◌, refl, ap, sym, ◌∙◌}
use mathlib.Core.List.{List, [], ◌∷◌}
use Prim.Native.Nat.{ℕ}
use Rattle.calls.specs.Changes.{Change}
use Rattle.system.specs.System.{System, Reading, Call, changes, reads, Finding, Reply, found, change_reply, change_words, finding, reading_lists, reply, with_words, step}
use Rattle.system.specs.Histories.{afterwards, replies, Ran}
use Rattle.calls_run.specs.Over.{over}

pub none : {y : System} → Ran step reply [] y [] y
unfolding afterwards replies
none = record { replied = refl; left = refl }

pub change : {c : Change} {cs : List Call} {ws us : List ℕ} {q : Reply} {qs : List Reply} {z : System} → q ≡ change_reply c ws → us ≡ change_words c ws →
    Ran step reply cs (over us) qs z → Ran step reply (changes c ∷ cs) (over ws) (q ∷ qs) z
unfolding afterwards replies reply step with_words
change {c} {cs} {ws} {q} e f rest =
    record {
      replied = rw (← e, ← f) (ap (λ rs. q ∷ rs) rest.replied);
      left = rw (← f) rest.left;
    }

pub reading : {r : Reading} {cs : List Call} {ws : List ℕ} {f : Finding} {ls : List (List ℕ)} {qs : List Reply} {z : System} → f ≡ finding r ws → ls ≡ reading_lists r ws →
    Ran step reply cs (over ws) qs z → Ran step reply (reads r ∷ cs) (over ws) (found f ls ∷ qs) z
unfolding afterwards replies reply step
reading {f} {ls} e g rest =
    record {
      replied = rw (← e, ← g) (ap (λ rs. found f ls ∷ rs) rest.replied);
      left = rest.left;
    }

-- the lists of a reading, one by one
pub one : {l m : List ℕ} → l ≡ m → ◌≡◌ {A = List (List ℕ)} (l ∷ []) (m ∷ [])
one e = rw e

pub two : {l m ts us : List ℕ} → l ≡ m → ts ≡ us → ◌≡◌ {A = List (List ℕ)} (l ∷ ts ∷ []) (m ∷ us ∷ [])
two e f = rw (e, f)
