-- What stands next in a tag, by where the spaces from a place on end. Assumes nothing.
use mathlib.Core.Path.{◌≡◌, refl, sym, ◌∙◌}
use mathlib.Core.Bool.{true, false, cond}
use mathlib.Core.List.{List}
use mathlib.Core.Option.{Option, none, some}
use Prim.Native.Nat.{ℕ, ◌+◌}
use native.Mathlib.Omega.{arith}
use borrow.Author.Tests.{eq-eqb, ne_eqb}
use Rattle.std.specs.Prelude.{Some, None}
use lib.Dec.{eqb}
use lib.ListN.{drop}
use Rattle.lists.specs.Fronts.{starts_with}
use Rattle.xml.specs.Bytes.{is_space, tag_closes, lone_closes}
use Rattle.xml.specs.Scan.{Sized, run, attribute_at}
use Rattle.xml_attributes.specs.Next.{attribute_found, next_attribute, next_in_tag}
use Rattle.xml_attributes.specs.declared.AttributeRead.{AttributeRead}
use Rattle.xml_attributes.specs.declared.NextInTag.TheVariants as next
use Rattle.xml_attributes.proofs.AttributeSteps.{from_place}

-- an attribute that was looked for there
attribute_nothing : (b : ℕ) (o : Option Sized) → None ≡ attribute_found b o → next_attribute b o ≡ None
unfolding attribute_found next_attribute
attribute_nothing b none e = refl
attribute_nothing b (some z) e = cc

attribute_read : (b : ℕ) (o : Option Sized) (r : AttributeRead) → Some r ≡ attribute_found b o → next_attribute b o ≡ Some (next.Attribute b r.name r.end)
unfolding attribute_found next_attribute
attribute_read b none r e = cc
attribute_read b (some z) r e = let f : r ≡ record { name = b + z.name; end = b + z.whole } = cc in rw f

module _ (text : List ℕ) (i begins : ℕ) (b : begins ≡ i + run is_space (drop i text)) where
  -- by the text from there on
  pub next_by : next_in_tag i (drop i text)
      ≡ cond (starts_with tag_closes (drop begins text)) (Some (next.Closer (begins + 1) false))
      (cond (starts_with lone_closes (drop begins text)) (Some (next.Closer (begins + 2) true))
      (cond (eqb (run is_space (drop i text)) 0) None (next_attribute begins (attribute_at (drop begins text)))))
  unfolding next_in_tag
  next_by = rw (from_place text i (run is_space (drop i text)) begins b, b)

  -- >
  pub next_closes : starts_with tag_closes (drop begins text) ≡ true → Some (next.Closer (begins + 1) false) ≡ next_in_tag i (drop i text)
  next_closes e = sym (next_by ∙ rw e)

  module _ (e : starts_with tag_closes (drop begins text) ≡ false) where
    -- />
    pub next_lone : starts_with lone_closes (drop begins text) ≡ true → Some (next.Closer (begins + 2) true) ≡ next_in_tag i (drop i text)
    next_lone f = sym (next_by ∙ rw (e, f))

    module _ (f : starts_with lone_closes (drop begins text) ≡ false) where
      -- nothing that an attribute could stand after
      pub next_no_gap : begins ≡ i → None ≡ next_in_tag i (drop i text)
      next_no_gap g =
          let z : run is_space (drop i text) ≡ 0 = omega arith in sym (next_by ∙ rw (e, f, eq-eqb _ 0 z))

      module _ (g : begins ≡ i → ⊥) where
        gapped : eqb (run is_space (drop i text)) 0 ≡ false
        gapped = ne_eqb (run is_space (drop i text)) 0 (λ z. g (omega arith))

        -- no attribute
        pub next_nothing : None ≡ attribute_found begins (attribute_at (drop begins text)) → None ≡ next_in_tag i (drop i text)
        next_nothing a = sym (next_by ∙ rw (e, f, gapped) (attribute_nothing begins _ a))

        -- an attribute
        pub next_read : (r : AttributeRead) → Some r ≡ attribute_found begins (attribute_at (drop begins text)) →
            Some (next.Attribute begins r.name r.end) ≡ next_in_tag i (drop i text)
        next_read r a = sym (next_by ∙ rw (e, f, gapped) (attribute_read begins _ r a))
