use Rattle.{std.proofs.Common.{arith, ◌∙◌}, change_core.proofs.Filling.{place_of}}
use Rattle.change_rules.proofs.patch.patch_of_one.Goals as goal

pub item-requires-clause-place : goal.item-requires-clause-place
item-requires-clause-place g c =
    let f = c.requires.checked.0 in
    place_of ((g.R.Rule.model c.args.rule.now).form c.args.args.now) f.shape f.item_type c.args.region.now 0 c.as_slice.result.now c.requires.checked.1 c.requires.checked.2 (omega (arith, c.requires.one)) (c.as_slice.ensures.is ∙ c.index_at-index.ensures)
