use Rattle.std.{proofs.Common.{◌++◌, ◌∷◌, [], sym, arith}, proofs.lemmas.List.{length-append}}
use Rattle.structural_fns.proofs.Parts.{behind_at, no_longer}
use Rattle.structural_fns.proofs.part.BehindIndexSource.index.Goals as goal

pub offset_bounds-self-axis : goal.offset_bounds-self-axis
offset_bounds-self-axis c =
    let short = no_longer c.args.self.now.before.now (c.args.self.now.row.now ++ 1 ∷ []) in
    omega (arith, c.requires, short.left, c.args.self.now.rank)

pub bounds-self-axis : goal.bounds-self-axis
bounds-self-axis c = let short = no_longer c.args.self.now.before.now (c.args.self.now.row.now ++ 1 ∷ []) in omega (arith, c.requires, short.left)

pub index_on_axis-requires : goal.index_on_axis-requires
index_on_axis-requires c =
    let short = no_longer c.args.self.now.before.now (c.args.self.now.row.now ++ 1 ∷ []) in
    omega (arith, c.requires, short.right, length-append c.args.self.now.row.now (1 ∷ []))

pub overflow_add-result : goal.overflow_add-result
overflow_add-result c =
    let is = behind_at c.args.self.now.before.now (c.args.self.now.row.now ++ 1 ∷ []) c.args.axis c.requires in
    let few = c.args.self.now.few c.args.axis 0 c.requires in
    omega (arith, c.index_on_axis.ensures, is, few)

pub returns : goal.returns
returns c = rw c.index_on_axis.ensures (sym (behind_at c.args.self.now.before.now (c.args.self.now.row.now ++ 1 ∷ []) c.args.axis c.requires))
