use Rattle.{std.proofs.Common.{rules, ◌≡◌, ◌∙◌, ap, true, Some, get_or}, arrays_core.{specs.Items.{fill}, specs.Shapes.{is_index_of}}}
use Rattle.arrays_core.proofs.array.Array.at.Goals as goal

pub returns-then-is_index_of-clause-is : goal.returns-then-is_index_of-clause-is
returns-then-is_index_of-clause-is c =
    let there : is_index_of c.args.self.now.shape c.args.index.now ≡ true = search rules in
    rw there (ap Some (c.item.ensures.is ∙ ap (λ n. get_or c.args.self.now.items n (fill c.args.self.now.item_type)) (search rules)))
