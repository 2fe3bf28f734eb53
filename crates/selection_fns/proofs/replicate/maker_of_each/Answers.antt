use Rattle.{std.proofs.Common.{ap, ◌∙◌, ◌+◌, ◌/◌}, selection_fns.proofs.Copies.{each_maker}}
use Rattle.selection_fns.proofs.replicate.maker_of_each.Goals as goal

pub returns : goal.returns
returns c = ap (λ k. k / c.args.count + 1) c.from.ensures ∙ each_maker c.args.places c.args.count c.args.copy c.requires.low c.requires.high
