use Rattle.{std.proofs.Common.{◌+◌}, reduce_fns.proofs.Lines.{within_drop, size-drop-le}}
use Rattle.reduce_fns.proofs.right_fold.stride.Goals as goal

pub size-requires : goal.size-requires
size-requires c = rw c.split_at.ensures.back (within_drop _ c.args.axes.now c.requires.within c.requires.some)

pub returns-clause-apart : goal.returns-clause-apart
returns-clause-apart c =
    let some = size-drop-le (c.args.axis + 1) c.args.axes.now c.requires.some in
    rw (c.size.ensures, c.split_at.ensures.back) some.0
