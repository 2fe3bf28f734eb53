use Rattle.{std.proofs.Common.{sym, subst, length}, arrays_core.{specs.Shapes.{size}, specs.Arrays.{IsAnswerTo}}, index_region.specs.Checks.{form_of, Form}}
use Rattle.operator_fns.{specs.RowByColumn.{IsGridOf}, proofs.Grids.{inner_grid, inner_of_numbers}}
use Rattle.operator_fns.proofs.inner_product.Inner.of_numbers.Goals as goal

pub grid_products-requires-clause-fits : goal.grid_products-requires-clause-fits
grid_products-requires-clause-fits c =
    let b = c.args.right.now in
    subst (λ grid. IsGridOf grid (size c.in_ok-shape.shape.items) (length c.args.numbers.now) (length c.args.others.now)) (sym c.grid-grid.ensures)
    (inner_grid c.args.left.now b c.args.numbers.now c.args.others.now c.in_ok-shape.ensures.left_sound.one_item_a_place c.in_ok-shape.ensures.right_sound.one_item_a_place
    c.requires.numbers c.requires.others c.requires.some_numbers c.requires.some_others (form_of c.in_ok-shape.shape.items c.in_ok-shape.field-0-1) c.in_ok-shape.ensures.is.0)

pub returns : goal.returns
returns c =
    let a = c.args.left.now in
    let b = c.args.right.now in
    let form : Form = form_of c.in_ok-shape.shape.items c.in_ok-shape.field-0-1 in
    subst (λ w. IsAnswerTo w c.grid_products.result)
    (inner_of_numbers a b c.args.numbers.now c.args.others.now c.in_ok-shape.ensures.left_sound.one_item_a_place c.in_ok-shape.ensures.right_sound.one_item_a_place
    c.requires.numbers c.requires.others c.requires.some_numbers c.requires.some_others c.args.self.fold c.args.self.each form c.in_ok-shape.ensures.is.0)
    (rw c.grid-grid.ensures at c.grid_products.ensures)
