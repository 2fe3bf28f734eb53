use Rattle.std.{proofs.Common.{◌-◌, ◌++◌, ◌∷◌, [], get_or, arith}, proofs.lemmas.List.{length-map}}
use Rattle.structural_fns.{specs.DyadicTranspose.{axes_to}, proofs.Counting.{numbers_long, magnitudes_long}}
use Rattle.structural_fns.proofs.dyadic_transpose.GatheredRowIndexSource.index.Goals as goal

pub entry-requires-clause-there : goal.entry-requires-clause-there
entry-requires-clause-there c =
    let a = c.args.self.now.axes.now in
    omega (arith, c.requires, length-map (axes_to a) (λ j. get_or (c.args.self.now.row.now ++ 1 ∷ []) (j - 1) 0), magnitudes_long a, numbers_long a)
