-- The law of change for scalar functions of two arrays.
use Rattle.std.{proofs.Common.{◌≡◌, ℕ, true, false, eqb, List, map, refl, ap, sym, subst, ◌∙◌, inl, inr, Result, Ok, Err, bytes_eq, if◌then◌else◌}, proofs.lemmas.Bool.{eqb-true, cases_Bool, cond-true, cond-false}, proofs.lemmas.Slice.Eq.{bytes_eq-Decides}}
use Rattle.arrays_core.{specs.declared.item.Kind.{Kind}, specs.declared.item.ItemType.TheVariants.{Nums}, specs.Shapes.{size, is_index_of}, specs.Arrays.{ArrayValue}}
use Rattle.function_names.specs.declared.scalar.Scalar2.{Scalar2}
use Rattle.scalar_fns.{specs.ScalarExtension.{common, for_shape}, specs.Laws.Extension.{ExtendsTo, common_extends}, specs.EachDyadic.{each_dyadic_form, each_dyadic_item, each_dyadic_rule, extended_use}, specs.Laws.OneItem.{extended_same, only_index}}
use Rattle.item_fns.specs.Items.{dyadic_on_items}
use Rattle.index_region.{specs.Boxes.{Interval, is_within, whole_of}, specs.Checks.{Form, form_of}}
use Rattle.change_core.{specs.Tightness.{Covered, IsTight}, proofs.Growing.{tight_growing}, proofs.Sourced.{two_tight}, proofs.UsedWays.{within-whole}}

-- an argument with the shape of the result is read at the place itself
read_at : (from shape index : List ℕ) → from ≡ shape → is_index_of shape index ≡ true → (if eqb (size from) 1 then map (λ _. 1) from else index) ≡ index
read_at from shape index same place = elim (cases_Bool (eqb (size from) 1)) [
  | inl one ↦ cond-true _ _ _ one ∙ only_index from index (eqb-true _ _ one) (rw same place)
  | inr many ↦ cond-false _ _ _ many
]

extended_covered : (a : ArrayValue) (shape : List ℕ) → Covered a.shape shape (extended_use shape a)
extended_covered a shape region index fit place = (inside, tt)
  where
    inside : is_within region (if eqb (size a.shape) 1 then map (λ _. 1) a.shape else index) ≡ true → is_within (if bytes_eq a.shape shape then region else whole_of shape) index ≡ true
    inside h = elim (cases_Bool (bytes_eq a.shape shape)) [
      | inl t ↦
          let here : is_within region index ≡ true = subst (λ (at : List ℕ). is_within region at ≡ true) (read_at a.shape shape index ((bytes_eq-Decides a.shape shape).0 t) place) h in
          subst (λ (r : List Interval). is_within r index ≡ true) (sym (cond-true _ _ _ t)) here
      | inr f ↦ subst (λ (r : List Interval). is_within r index ≡ true) (sym (cond-false _ _ _ f)) (within-whole shape index ∙ place)
    ]

-- an argument of several items has the index lists of the result
inside : (from shape index : List ℕ) → ExtendsTo from shape → is_index_of shape index ≡ true → (size from ≡ 1 → ⊥) → is_index_of from index ≡ true
inside from shape index fits place many = elim fits.either [ inl one ↦ absurd (many one) | inr same ↦ rw same place ]

common_is : (a b : ArrayValue) (f : Form) → each_dyadic_form a b ≡ Ok f → common a.shape b.shape ≡ Ok f.shape
common_is a b f h = by (common a.shape b.shape) h
  where
    by : (r : Result (List ℕ) Kind) → for_shape r (λ shape. Ok (form_of shape Nums)) ≡ Ok f → r ≡ Ok f.shape
    by (Ok shape) h = let same : form_of shape Nums ≡ f = cc in ap (λ (g : Form). Ok g.shape) same
    by (Err k) h = let no : ⊥ = cc in absurd no

pub each_dyadic_tight : (f : Scalar2) → IsTight (each_dyadic_rule f)
each_dyadic_tight f = tight_growing _ _ (two_tight false each_dyadic_form (each_dyadic_item f) _ _ (record {
  blind = λ c d xs ys p q. refl;
  settled = λ c d xs ys g index p q e place left right.
      let fits = common_extends c.shape d.shape g.shape (common_is c d g e) in
      let first = extended_same c xs index (inside c.shape g.shape index fits.0 place) left in
      let second = extended_same d ys index (inside d.shape g.shape index fits.1 place) right in
      λ i. dyadic_on_items f (first i) (second i);
  covered_left = λ a b g e. extended_covered a g.shape;
  covered_right = λ a b g e. extended_covered b g.shape;
}))
