-- The growth of an outer product.
use Rattle.std.{proofs.Common.{◌≡◌, ℕ, ◌<◌, ap, sym, ◌∙◌, refl, arith, true, false, List, [], ◌∷◌, ◌++◌, length, take, drop}, proofs.lemmas.Bool.{false≢true}}
use Rattle.arrays_core.{specs.declared.item.Item.{Item}, specs.declared.item.ItemType.TheVariants.{Nums}, specs.Arrays.{item_of}, specs.Growth.{one_longer}}
use Rattle.function_names.specs.declared.scalar.Scalar2.{Scalar2}
use Rattle.item_fns.specs.Items.{dyadic_on_items}
use Rattle.index_region.{specs.Checks.{form_of}, proofs.Passing.{limited_gives}}
use Rattle.change_core.{specs.Growth.{IsGrowing}, proofs.Growing.{item_kept, length-longer, longer_form, shape_grown, two_growing, growing_growing}, proofs.UsedWays.{index-take}}
use Rattle.operator_fns.specs.OuterProduct.{outer_form, outer_item, outer_rule, front_use, back_use, outer_grows}

joined_longer : (s t : List ℕ) → 0 < length s → one_longer s ++ t ≡ one_longer (s ++ t)
joined_longer [] t h = absurd (omega arith)
joined_longer (n ∷ s) t h = refl

some_joined : (s t : List ℕ) → 0 < length s → 0 < length (s ++ t)
some_joined [] t h = absurd (omega arith)
some_joined (n ∷ s) t h = omega arith

pub outer_growing : (f : Scalar2) → IsGrowing (outer_rule f) outer_grows
outer_growing f = growing_growing _ _ (two_growing false outer_form (outer_item f) front_use back_use (λ a b. true) (λ a b. false) (λ a b. false) (record {
  left_grows = λ old new b g k h so sb listed e w.
      let shaped = shape_grown old new h in
      let long : length new.shape ≡ length old.shape = ap (λ (s : List ℕ). length s) shaped ∙ length-longer old.shape in
      longer_form _ _ _ g k (old.shape ++ b.shape) Nums (limited_gives (old.shape ++ b.shape) Nums g e)
      (limited_gives (new.shape ++ b.shape) Nums k w ∙ ap (λ (s : List ℕ). form_of (s ++ b.shape) Nums) shaped ∙ ap (λ (s : List ℕ). form_of s Nums) (joined_longer old.shape b.shape h.fits.some_axis))
      (some_joined old.shape b.shape h.fits.some_axis)
      (λ index inside.
      let first = item_kept old new (take (length old.shape) index) h so (index-take old.shape b.shape index inside) in
      ap (λ (x : Item). dyadic_on_items f x (item_of b (drop (length old.shape) index))) first
      ∙ ap (λ (n : ℕ). dyadic_on_items f (item_of new (take n index)) (item_of b (drop n index))) (sym long));
  right_grows = λ a old new g k h sa so listed e w. absurd (false≢true listed);
  both_grow = λ old new old2 new2 g k h h2 so so2 listed e w. absurd (false≢true listed);
}))
