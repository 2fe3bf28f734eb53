use Rattle.{std.proofs.Common.{◌≡◌, ◌∙◌, List, ℕ, true, arith, subst, sym}, arrays_core.specs.Shapes.{IsWithinLimits}, index_region.specs.Boxes.{fits}}
use Rattle.{change_core.proofs.Filling.{few_places}, change_rules.proofs.GrownRight.{last_fit}}
use Rattle.change_rules.proofs.node.tail_of.Goals as goal

pub size-cost-requires : goal.size-cost-requires
size-cost-requires g c =
    let shape = c.as_slice.result.now in
    let limits : IsWithinLimits shape = subst IsWithinLimits (sym c.as_slice.ensures) c.in-Ok.ensures.2 in
    omega (arith, few_places c.in-Some.region shape (last_fit shape c.in-Some.region c.in-Some.ensures) limits)

pub overflow_cast-cost : goal.overflow_cast-cost
overflow_cast-cost g c =
    let shape = c.as_slice.result.now in
    let limits : IsWithinLimits shape = subst IsWithinLimits (sym c.as_slice.ensures) c.in-Ok.ensures.2 in
    omega (arith, c.size-cost.ensures, few_places c.in-Some.region shape (last_fit shape c.in-Some.region c.in-Some.ensures) limits)

pub part-requires-clause-fit : goal.part-requires-clause-fit
part-requires-clause-fit g c =
    subst (λ (s : List ℕ). fits c.in-Some.region s ≡ true) (c.as_slice.ensures ∙ sym c.as_slice-2.ensures) (last_fit c.as_slice.result.now c.in-Some.region c.in-Some.ensures)
