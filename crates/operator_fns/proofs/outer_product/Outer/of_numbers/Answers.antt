use Rattle.std.proofs.Common.{◌∙◌, ap, subst, ◌++◌}
use Rattle.arrays_core.{specs.declared.item.ItemType.TheVariants.{Nums}, specs.Arrays.{IsAnswerTo}, specs.Shapes.{size}}
use Rattle.{index_region.{specs.Checks.{form_of, Form}, proofs.Passing.{limited_gives}}, operator_fns.proofs.Outers.{outer_places, outer_of_numbers}}
use Rattle.operator_fns.proofs.outer_product.Outer.of_numbers.Goals as goal

pub invariant_of-outer-clause-whole : goal.invariant_of-outer-clause-whole
invariant_of-outer-clause-whole c =
    let a = c.args.left.now in
    let b = c.args.right.now in
    ap (λ (g : Form). size g.shape) (limited_gives (a.shape ++ b.shape) Nums (form_of c.in_ok-shape.shape.items c.in_ok-shape.field-0-1) c.in_ok-shape.ensures.is.0)
    ∙ outer_places c.args.self.function a b c.args.numbers.now c.args.others.now c.in_ok-shape.ensures.left_sound.one_item_a_place c.in_ok-shape.ensures.right_sound.one_item_a_place c.requires.numbers c.requires.others

pub returns : goal.returns
returns c =
    let a = c.args.left.now in
    let b = c.args.right.now in
    let form : Form = form_of c.in_ok-shape.shape.items c.in_ok-shape.field-0-1 in
    subst (λ w. IsAnswerTo w c.with_function.result)
    (outer_of_numbers c.args.self.function a b c.args.numbers.now c.args.others.now c.in_ok-shape.ensures.left_sound.one_item_a_place c.in_ok-shape.ensures.right_sound.one_item_a_place c.requires.numbers c.requires.others form c.in_ok-shape.ensures.is.0)
    c.with_function.ensures
