use Rattle.{std.proofs.Common.{◌≤◌, length, sym, ◌∙◌, subst, arith}, arrays_core.specs.Shapes.{size}}
use Rattle.structural_fns.proofs.Runs.{reshape_answer, recycled_answer}
use Rattle.structural_fns.proofs.reshape.Reshape.apply.Goals as goal

pub returns-then-size-places : goal.returns-then-size-places
returns-then-size-places c =
    let few : size c.as_slice.result.now ≤ length c.index-args-1.result.items = let sized = c.size.ensures in let test = c.if-size-places.true in let long = c.places.ensures.is in omega arith in
    reshape_answer c.args.args.now c.index-args-1.result c.in_ok-begin.begin c.in_ok-shape.shape.items c.in_ok-shape.field-0-1 c.requires c.index-args-1.is c.in_ok-shape.ensures.0
    (sym c.places.ensures.is ∙ c.places.ensures.size) (subst (λ xs. size xs ≤ length c.index-args-1.result.items) c.as_slice.ensures few) c.in_ok-begin.ensures

pub returns : goal.returns
returns c =
    recycled_answer c.args.args.now c.index-args-1.result c.in_ok-again.again c.in_ok-shape.shape.items c.in_ok-shape.field-0-1 c.requires c.index-args-1.is c.in_ok-shape.ensures.0
    (sym c.places.ensures.is ∙ c.places.ensures.size) c.in_ok-again.ensures
