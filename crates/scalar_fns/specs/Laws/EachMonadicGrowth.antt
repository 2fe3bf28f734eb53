-- The growth of a scalar function of one array.
use Rattle.std.proofs.Common.{◌≡◌, ap, sym, ◌∙◌, true}
use Rattle.arrays_core.specs.declared.item.ItemType.TheVariants.{Nums}
use Rattle.function_names.specs.declared.scalar.Scalar1.{Scalar1}
use Rattle.scalar_fns.{specs.EachMonadic.{each_monadic_form, each_monadic_item, each_monadic_rule}, specs.Growth.{each_monadic_grows}}
use Rattle.item_fns.specs.Items.{monadic_on_item}
use Rattle.index_region.specs.Checks.{form_of}
use Rattle.change_core.{specs.Growth.{IsGrowing}, proofs.Growing.{item_kept, longer_form, one_growing, growing_growing, shape_grown}}

pub each_monadic_growing : (f : Scalar1) → IsGrowing (each_monadic_rule f) each_monadic_grows
each_monadic_growing f = growing_growing _ _ (one_growing each_monadic_form (each_monadic_item f) _ (λ b. true) (λ old new g k h so sn listed e w.
    let was : form_of old.shape Nums ≡ g = cc in
    let is : form_of new.shape Nums ≡ k = cc in
    longer_form _ _ _ g k old.shape Nums (sym was) (sym is ∙ ap (λ (s : _). form_of s Nums) (shape_grown old new h)) h.fits.some_axis
    (λ index inside. ap (monadic_on_item f) (item_kept old new index h so inside))))
