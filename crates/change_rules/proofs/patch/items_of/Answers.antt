use Rattle.{std.proofs.Common.{arith, ◌≡◌, ◌∙◌, sym, ap}, arrays_core.specs.Shapes.{size}, index_region.specs.Boxes.{box_size}}
use Rattle.{change_core.proofs.Filling.{few_places}, change_rules.proofs.Items.{all_places, all_holds}}
use Rattle.change_rules.proofs.patch.items_of.Goals as goal

pub size-requires : goal.size-requires
size-requires g c = omega (arith, few_places c.args.region.now c.args.form.now.0.items c.requires.fit c.requires.checked.2)

pub returns-then-reads_many_items-clause-items : goal.returns-then-reads_many_items-clause-items
returns-then-reads_many_items-clause-items g c =
    let model = g.R.Rule.model c.args.rule.now in
    let shape = c.args.form.now.0.items in
    let many : box_size c.args.region.now ≡ size shape = sym c.size.ensures ∙ c.if-size.true ∙ c.size-2.ensures ∙ ap size c.as_slice-shape.ensures in
    all_holds (model.form c.args.args.now) (model.item c.args.args.now) shape c.args.form.now.1 c.args.region.now c.all_of.result c.requires.checked.0 (all_places c.args.region.now shape c.requires.fit many) c.all_of.ensures.is
