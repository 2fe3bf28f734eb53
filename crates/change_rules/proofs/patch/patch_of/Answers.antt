use Rattle.{std.proofs.Common.{◌∙◌, ap, arith, sym, IsTrue}, index_region.specs.Boxes.{box_size, fits}, change_core.proofs.Filling.{few_places}}
use Rattle.change_rules.{proofs.Items.{as_many, given_items}, proofs.OneBox.{fits_shape}, proofs.patch.patch_of.Given.{Over}, proofs.patch.patch_of.Goals.{In-Ok}}
use Rattle.change_rules.proofs.patch.patch_of.Goals as goal

-- the box lies in the result
fit : (g : Over) (c : In-Ok g) → IsTrue (fits c.args.region.now c.in-Ok.form.0.items)
fit g c = fits_shape _ c.args.region.now c.in-Ok.form.0.items c.in-Ok.form.1 c.requires.checked c.in-Ok.ensures.0

pub size-cost-requires : goal.size-cost-requires
size-cost-requires g c = omega (arith, few_places c.args.region.now _ (fit g (goal.at.size-cost-requires g c).In-Ok) c.in-Ok.ensures.2)

pub overflow_cast-cost : goal.overflow_cast-cost
overflow_cast-cost g c = omega (arith, c.size-cost.ensures, few_places c.args.region.now _ (fit g (goal.at.overflow_cast-cost g c).In-Ok) c.in-Ok.ensures.2)

pub of-requires : goal.of-requires
of-requires g c =
    let item = (g.R.Rule.model c.args.rule.now).item c.args.args.now in
    as_many item c.args.region.now c.in-Ok-2.values.items (given_items _ _ c.items_of.result c.in_ok-values.field-0 c.in-Ok-2.values c.items_of.ensures.items c.in_ok-values.ensures c.in-Ok-2.is) ∙ ap box_size (sym c.copy.ensures)
