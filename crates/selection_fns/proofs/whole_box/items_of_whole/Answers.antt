use Rattle.{std.proofs.Common.{◌≡◌, arith, Ok}, index_region.{specs.Checks.{whole}, proofs.Walks.{some_place}}, change_core.proofs.Filling.{few_places}}
use Rattle.selection_fns.proofs.WholeItems.{box_items}
use Rattle.selection_fns.proofs.whole_box.items_of_whole.Goals as goal

pub picked-requires-clause-some : goal.picked-requires-clause-some
picked-requires-clause-some g c = some_place c.args.region.now c.args._shape.now c.requires.fit

pub picked-requires-clause-few : goal.picked-requires-clause-few
picked-requires-clause-few g c = omega (arith, few_places c.args.region.now c.args._shape.now c.requires.fit c.requires.within)

pub returns : goal.returns
returns g c =
    let form = g.P.Primitive.form c.args._primitive.now c.args._args.now in
    let item = g.P.Primitive.item c.args._primitive.now c.args._args.now in
    let made : whole form item ≡ Ok c.in-Ok.whole = rw c.in-Ok.is at c.requires.answer in
    box_items form item c.args._shape.now c.args._item_type c.in-Ok.whole c.in_ok-items.items c.args.region.now c.requires.checked made c.requires.fit c.in_ok-items.ensures
