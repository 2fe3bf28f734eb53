-- The law of change for scalar functions of one array.
use Rattle.std.proofs.Common.{◌≡◌, refl, ap, ◌∙◌, true}
use Rattle.arrays_core.{specs.declared.item.ItemType.TheVariants.{Nums}, specs.Shapes.{is_index_of}}
use Rattle.function_names.specs.declared.scalar.Scalar1.{Scalar1}
use Rattle.scalar_fns.specs.EachMonadic.{each_monadic_form, each_monadic_item, each_monadic_rule}
use Rattle.item_fns.specs.Items.{monadic_on_item}
use Rattle.index_region.specs.Checks.{Form, form_of}
use Rattle.change_core.{specs.Tightness.{IsTight}, specs.Sourced.{other}, proofs.Growing.{tight_growing}, proofs.Sourced.{one_tight}, proofs.ReadAlike.{one_same}, proofs.UsedWays.{alike-covered}}

pub each_monadic_tight : (f : Scalar1) → IsTight (each_monadic_rule f)
each_monadic_tight f = tight_growing _ _ (one_tight each_monadic_form (each_monadic_item f) _ (record {
  blind = λ d xs n. refl;
  settled = λ d xs g index n e place read.
      let same : form_of d.shape Nums ≡ g = cc in
      let inside : is_index_of d.shape index ≡ true = ap (λ (x : Form). is_index_of x.shape index) same ∙ place in
      ap (monadic_on_item f) (one_same (other d xs) d index inside inside read);
  covered = λ b g e. alike-covered b.shape g.shape;
}))
