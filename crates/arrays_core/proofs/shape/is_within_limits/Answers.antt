use Rattle.{std.proofs.Common.{◌≡◌, ◌∙◌, sym, arith}, arrays_core.{specs.Shapes.{size as size_of}, proofs.Shapes.{has_zero, no_zero}}}
use Rattle.arrays_core.proofs.shape.is_within_limits.Goals as goal

pub are_places_within-requires-clause-positive : goal.are_places_within-requires-clause-positive
are_places_within-requires-clause-positive c = no_zero c.args.axes.now (sym c.contains.ensures.value ∙ c.if-contains.false)

pub returns-then-contains : goal.returns-then-contains
returns-then-contains c =
    let none : size_of c.args.axes.now ≡ 0 = has_zero c.args.axes.now (sym c.contains.ensures.value ∙ c.if-contains.true) in
    (λ _. record { rank = omega arith; axes = c.are_axes_within.ensures.0 c.if-not-are_axes_within.false; size_within = omega arith }, λ _. c.if-contains.true)
