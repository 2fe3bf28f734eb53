use Rattle.{std.{proofs.Common.{ap, Err}, proofs.lemmas.Result.{err_from_is_err_and}}, sheet_cli.proofs.ProgramLemmas.{unread-gives-none}}
use Rattle.sheet_cli.proofs.whole_program.table_of.Goals as goal

pub returns-in_err-bytes-clause-err : goal.returns-in_err-bytes-clause-err
returns-in_err-bytes-clause-err g c =
    let p = err_from_is_err_and c.from_residual.result c.from_residual.ensures.1 in
    rw (p.1, p.2) (unread-gives-none (g.H.Host.value c.args.host.now) c.args.path.now c.args.header c.in_err-bytes.field-0.0
    (λ e. c.in_err-bytes.ensures.not_read (ap (λ why. Err why) e)))

pub returns-in_err-array-clause-err : goal.returns-in_err-array-clause-err
returns-in_err-array-clause-err g c =
    let p = err_from_is_err_and c.from_residual-in_err-array.result c.from_residual-in_err-array.ensures.1 in
    rw (p.1, p.2) (c.in_ok-bytes.bytes.items, c.in_ok-bytes.ensures.ok, rw c.as_slice.ensures.value at c.in_err-array.ensures)

pub returns-clause-ok : goal.returns-clause-ok
returns-clause-ok g c = (c.in_ok-bytes.bytes.items, c.in_ok-bytes.ensures.ok, rw c.as_slice.ensures.value at c.in_ok-array.ensures)
