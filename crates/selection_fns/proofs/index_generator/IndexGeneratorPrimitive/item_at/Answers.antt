use Rattle.{std.proofs.Common.{rules}, selection_fns.proofs.Generated.{has_index}}
use Rattle.selection_fns.proofs.index_generator.IndexGeneratorPrimitive.item_at.Goals as goal

pub bounds-index-0 : goal.bounds-index-0
bounds-index-0 c = has_index c.args._args.now c.args.index.now c.requires.place

pub returns-clause-is : goal.returns-clause-is
returns-clause-is c = search (rules, c.from.ensures)
