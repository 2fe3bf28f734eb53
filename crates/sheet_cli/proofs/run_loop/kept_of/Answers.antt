use Rattle.{std.{proofs.Common.{sym, arith}, proofs.lemmas.List.{take_all, length-take-le}}, sheet_cli.specs.Progress.{most_kept}}
use Rattle.sheet_cli.proofs.run_loop.kept_of.Goals as goal

pub returns-then-bytes-le-KEPT : goal.returns-then-bytes-le-KEPT
returns-then-bytes-le-KEPT c = sym (take_all most_kept c.args.bytes.now (omega (arith, c.if-bytes-le-KEPT.true)))

pub slice_bounds-result-end : goal.slice_bounds-result-end
slice_bounds-result-end c = sym (length-take-le most_kept c.args.bytes.now (omega (arith, c.if-bytes-le-KEPT.false)))
