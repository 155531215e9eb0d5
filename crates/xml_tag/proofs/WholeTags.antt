-- Whole tags: a name after < and what stands after it. Assumes nothing.
use mathlib.Core.Path.{◌≡◌, refl, ap, sym, ◌∙◌}
use mathlib.Core.Bool.{Bool, true, false, cond}
use mathlib.Core.List.{List, []}
use mathlib.Core.Option.{Option, none, some}
use Prim.Native.Nat.{ℕ, suc, ◌+◌}
use native.Mathlib.Omega.{arith}
use borrow.Author.Tests.{eq-eqb, ne_eqb}
use Rattle.std.specs.Prelude as std
use Rattle.std.specs.Prelude.{Some, None}
use lib.Dec.{eqb}
use lib.ListN.{drop}
use lib.Seq.{drop-drop}
use Rattle.lists.proofs.Tests.{either_way}
use Rattle.lists.specs.Fronts.{starts_with}
use Rattle.lists.proofs.Fronts.{rest_of}
use Rattle.xml.specs.Bytes.{is_space, tag_closes, lone_closes}
use Rattle.xml.specs.Scan.{run, Ending, name_length, tail_at, sized_tag, tag_at}
use Rattle.xml_tag.specs.Post.{end_found, tag_found}
use Rattle.xml_tag.specs.declared.TagEnd.{TagEnd}
use Rattle.xml_tag.specs.declared.TagRead.{TagRead}
use Rattle.xml_tag.proofs.TailSteps.{ends_at}
use Rattle.xml_attributes.proofs.AttributeSteps.{from_place}

-- WHAT WAS FOUND after the name
pub end_none : (a : ℕ) (o : Option Ending) → None ≡ end_found a o → o ≡ none
unfolding end_found
end_none a none e = refl
end_none a (some z) e = cc

end_some : (a : ℕ) (o : Option Ending) (t : TagEnd) → Some t ≡ end_found a o → (z : Ending) × (o ≡ some z) × (t.end ≡ a + z.used) × (t.lone ≡ z.lone)
unfolding end_found
end_some a none t e = cc
end_some a (some z) t e =
    let f : t ≡ record { end = a + z.used; lone = z.lone } = cc in
    (z, refl, ap (λ y. y.end) f, ap (λ y. y.lone) f)

-- a tag that was read, by its ends
abbrev pub read_to : (name end : ℕ) → (lone : Bool) → std.Option TagRead
read_to m e l = Some (record { name = m; end = e; lone = l })

whole_equal : {a a' b b' : ℕ} {l l' : Bool} → a ≡ a' → b ≡ b' → l ≡ l' → read_to a b l ≡ read_to a' b' l'
whole_equal e f g = cc

-- A TAG whose name is found to end at a place
module _ (text : List ℕ) (at name : ℕ) (n : name ≡ at + 1 + name_length (drop (at + 1) text)) where
  name_is : name_length (drop 1 (drop at text)) ≡ name_length (drop (at + 1) text)
  name_is = rw (drop-drop 1 at text)

  tag_is : tag_at (drop at text)
      ≡ cond (eqb (name_length (drop (at + 1) text)) 0) none (sized_tag (name_length (drop (at + 1) text)) (tail_at [] 0 (drop name text)))
  unfolding tag_at
  tag_is =
      let e : name ≡ at + suc (name_length (drop (at + 1) text)) = omega arith in
      rw (name_is, from_place text at (suc (name_length (drop (at + 1) text))) name e)

  ends : (end u : ℕ) → end ≡ name + u → end ≡ at + suc (name_length (drop (at + 1) text) + u)
  ends end u e = omega arith

  -- no name
  pub tag_nameless : name ≡ at + 1 → None ≡ tag_found at (tag_at (drop at text))
  unfolding tag_found
  tag_nameless e = let z : name_length (drop (at + 1) text) ≡ 0 = omega arith in rw (tag_is, eq-eqb _ 0 z)

  -- > or /> right after it
  pub right_closed : starts_with tag_closes (drop name text) ≡ true → ends_at (name + 1) false ≡ end_found name (tail_at [] 0 (drop name text))
  unfolding tail_at run is_space starts_with end_found
  right_closed e = rw (rest_of tag_closes (drop name text) e)

  pub right_lone : starts_with lone_closes (drop name text) ≡ true → ends_at (name + 2) true ≡ end_found name (tail_at [] 0 (drop name text))
  unfolding tail_at run is_space starts_with end_found
  right_lone e = rw (rest_of lone_closes (drop name text) e)

  -- what was found after it: nothing, and the tag's end
  module _ {q : std.Option TagEnd} (f : q ≡ end_found name (tail_at [] 0 (drop name text))) where
    pub tag_broken : q ≡ None → None ≡ tag_found at (tag_at (drop at text))
    unfolding tag_found sized_tag
    tag_broken e = rw (tag_is, end_none name _ (sym e ∙ f), either_way)

    pub tag_whole : {t : TagEnd} → (name ≡ at + 1 → ⊥) → q ≡ Some t → read_to name t.end t.lone ≡ tag_found at (tag_at (drop at text))
    unfolding tag_found sized_tag
    tag_whole {t} m e =
        let w = end_some name _ t (sym e ∙ f) in
        let z : eqb (name_length (drop (at + 1) text)) 0 ≡ false = ne_eqb (name_length (drop (at + 1) text)) 0 (λ y. m (omega arith)) in
        rw (tag_is, z, w.1) (whole_equal (omega arith) (ends t.end w.0.used w.2) w.3)

  -- a tag that is there has an end
  pub tag_ended : (tag_at (drop at text) ≡ none → ⊥) → tail_at [] 0 (drop name text) ≡ none → ⊥
  unfolding sized_tag
  tag_ended h e = h (tag_is ∙ rw (e, either_way))
