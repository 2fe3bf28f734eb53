use Rattle.std.{proofs.Common.{rules, ◌∙◌, ap, pos, ◌-◌}, specs.Prelude.{get_or}}
use Rattle.selection_fns.proofs.shape.ShapeOfPrimitive.item_at.Goals as goal

pub returns-clause-is : goal.returns-clause-is
returns-clause-is c = search (rules, c.from.ensures ∙ ap (λ s. pos (get_or s (get_or c.args.index.now 0 0 - 1) 0)) (c.deref.ensures ∙ c.shape-shape.ensures.is))
