use Rattle.{std.proofs.Common.{◌≡◌, ◌∙◌, map, sym, arith}, index_region.{specs.Boxes.{box_size}, specs.Moves.{changed_box}}}
use Rattle.change_core.{specs.declared.reach.Reach.TheVariants.{Inside}, specs.Reaches.{reach_of}}
use Rattle.change_rules.{specs.Nodes.{reached_cost}, proofs.OneBox.{box_checked, box_cost, single}, proofs.node.reached.Given.{Over}, proofs.node.reached.Goals.{In-Inside}}
use Rattle.change_rules.proofs.node.reached.Goals as goal

-- a box of the result may change
reach : (g : Over) (c : In-Inside g) → Inside c.in-Inside.region ≡ reach_of (g.R.Rule.model c.args.rule.now) c.args.seen.now (map changed_box c.args.moved.now)
reach g c = sym c.in-Inside.is ∙ c.in-Ok.ensures.reach

-- the cost is the number of places of the box
cost_is : (g : Over) (c : In-Inside g) → reached_cost (g.R.Rule.model c.args.rule.now) c.args.seen.now (map changed_box c.args.moved.now) ≡ box_size c.in-Inside.region
cost_is g c = box_cost (g.R.Rule.model c.args.rule.now) c.args.seen.now (map changed_box c.args.moved.now) c.in-Inside.region c.in-Ok.ensures.passes (reach g c)

pub patch_of_one-requires-clause-one : goal.patch_of_one-requires-clause-one
patch_of_one-requires-clause-one g c = single c.in-Inside.region (sym c.is_one_place.ensures ∙ c.if-is_one_place.true)

pub patch_of_one-requires-clause-checked : goal.patch_of_one-requires-clause-checked
patch_of_one-requires-clause-checked g c =
    box_checked (g.R.Rule.model c.args.rule.now) c.args.seen.now (map changed_box c.args.moved.now) c.in-Inside.region c.in-Ok.ensures.passes (reach g (goal.at.patch_of_one-requires-clause-checked g c).In-Inside)

pub patch_of-requires-clause-checked : goal.patch_of-requires-clause-checked
patch_of-requires-clause-checked g c =
    box_checked (g.R.Rule.model c.args.rule.now) c.args.seen.now (map changed_box c.args.moved.now) c.in-Inside.region c.in-Ok.ensures.passes (reach g (goal.at.patch_of-requires-clause-checked g c).In-Inside)

pub returns-then-is_one_place-clause-cost : goal.returns-then-is_one_place-clause-cost
returns-then-is_one_place-clause-cost g c =
    sym (cost_is g (goal.at.returns-then-is_one_place-clause-cost g c).In-Inside ∙ single c.in-Inside.region (sym c.is_one_place.ensures ∙ c.if-is_one_place.true))

pub returns-then-is_one_place-clause-ticks : goal.returns-then-is_one_place-clause-ticks
returns-then-is_one_place-clause-ticks g c =
    let one = cost_is g (goal.at.returns-then-is_one_place-clause-ticks g c).In-Inside ∙ single c.in-Inside.region (sym c.is_one_place.ensures ∙ c.if-is_one_place.true) in
    omega (arith, one, c.patch_of_one.ensures.ticks)
