use Rattle.std.{proofs.Common.{◌+◌, ◌-◌, length, drop, sym, subst, arith}, proofs.lemmas.List.{length-drop, take_all}}
use Rattle.{arrays_core.specs.Shapes.{IsWithinLimits}, reduce_fns.proofs.Lines.{within_drop}}
use Rattle.sum_rules.proofs.line_sums.line_step.Goals as goal

pub size-requires : goal.size-requires
size-requires c =
    let shape = c.args.shape.now in
    let next = c.args.axis + 1 in
    let rest = drop next shape in
    subst IsWithinLimits (sym (take_all (length shape - next) rest (omega (arith, length-drop next shape)))) (within_drop next shape c.requires.within c.requires.some)
