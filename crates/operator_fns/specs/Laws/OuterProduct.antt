-- The law of outer product.
use Rattle.std.proofs.Common.{◌≡◌, ℕ, true, false, List, ◌∷◌, ◌++◌, length, map, take, drop, [], Ok, refl, sym, ap, subst}
use Rattle.arrays_core.{specs.declared.item.Item.{Item}, specs.declared.item.ItemType.TheVariants.{Nums}, specs.Arrays.{ArrayValue, item_of, item_if_there}, specs.Shapes.{is_index_of}}
use Rattle.function_names.specs.declared.scalar.Scalar2.{Scalar2}
use Rattle.item_fns.specs.Items.{dyadic_on_items}
use Rattle.index_region.{specs.Checks.{Form}, proofs.Passing.{limited_gives}}
use Rattle.change_core.{specs.Tightness.{IsTight, Covered}, specs.Sourced.{other}, specs.Ways.{front, back}, proofs.Growing.{tight_growing}, proofs.Sourced.{two_tight}, proofs.UsedWays.{front-onto, back-onto, onto_covered, index-take, index-drop}, proofs.ReadAlike.{item_same}}
use Rattle.operator_fns.specs.OuterProduct.{outer_form, outer_item, outer_rule, front_use, back_use}

-- the shape: the left argument's axes, then the right argument's
joined_shape : (a b : ArrayValue) (g : Form) → outer_form a b ≡ Ok g → g.shape ≡ a.shape ++ b.shape
joined_shape a b g e = ap (λ (f : Form). f.shape) (limited_gives (a.shape ++ b.shape) Nums g e)

-- an item whose one source reads the same is the same
one_same : (d : ArrayValue) (xs : List Item) (place : List ℕ) → is_index_of d.shape place ≡ true
    → map (item_if_there (other d xs)) (place ∷ []) ≡ map (item_if_there d) (place ∷ []) → item_of (other d xs) place ≡ item_of d place
one_same d xs place inside read = item_same (other d xs) d place inside inside (cc)

pub outer_tight : (f : Scalar2) → IsTight (outer_rule f)
outer_tight f = tight_growing _ _ (two_tight false outer_form (outer_item f) front_use back_use (record {
  blind = λ c d xs ys p q. refl;
  settled = λ c d xs ys g index p q e place read_left read_right.
      let inside = rw (joined_shape c d g e) at place in
      let left = one_same c xs (take (length c.shape) index) (index-take c.shape d.shape index inside) read_left in
      let right = one_same d ys (drop (length c.shape) index) (index-drop c.shape d.shape index inside) read_right in
      (λ i. dyadic_on_items f (left i) (right i));
  covered_left = λ a b g e.
      subst (λ (shape : List ℕ). Covered a.shape shape (front (length a.shape) b.shape)) (sym (joined_shape a b g e)) (onto_covered a.shape (a.shape ++ b.shape) _ (front-onto a.shape b.shape));
  covered_right = λ a b g e.
      subst (λ (shape : List ℕ). Covered b.shape shape (back a.shape)) (sym (joined_shape a b g e)) (onto_covered b.shape (a.shape ++ b.shape) _ (back-onto a.shape b.shape));
}))
