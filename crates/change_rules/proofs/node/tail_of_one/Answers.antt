use Rattle.{std.proofs.Common.{arith, sym, ◌∙◌}, change_core.proofs.Filling.{place_of}, change_rules.proofs.GrownRight.{last_fit}}
use Rattle.change_rules.proofs.node.tail_of_one.Goals as goal

pub item-requires-clause-place : goal.item-requires-clause-place
item-requires-clause-place g c =
    let shape = c.args.shape.items in
    let fit = last_fit shape c.args.region.now (sym c.requires.last) in
    let index = c.as_slice.ensures.is ∙ c.index_at-index.ensures in
    place_of ((g.R.Rule.model c.args.rule.now).form c.args.seen.now) shape c.requires.checked.0 c.args.region.now 0 c.as_slice.result.now c.requires.checked.1 fit (omega (arith, c.requires.one)) index
