use Rattle.{std.proofs.Common.{rules, ◌∙◌, ◌<◌, ap, get_or, length}, item_fns.specs.RightFold.{fold_right}}
use Rattle.reduce_fns.{specs.Lines.{line}, proofs.Reduced.{all_of_line}}
use Rattle.reduce_fns.proofs.reduce.Reduce.folded_at.Goals as goal

pub returns-clause-is : goal.returns-clause-is
returns-clause-is c =
    let axis = c.axis_at-axis.result in
    let there : axis < length c.args.array.now.shape = search rules in
    c.fold_line.ensures.is
    ∙ ap (fold_right c.args.self.function) (all_of_line c.args.array.now axis _ c.args.index.now there (ap (λ xs. get_or xs axis 0) (c.deref.ensures ∙ c.shape-axes.ensures.is)))
    ∙ ap (λ a. fold_right c.args.self.function (line c.args.array.now a c.args.index.now)) (search rules)
