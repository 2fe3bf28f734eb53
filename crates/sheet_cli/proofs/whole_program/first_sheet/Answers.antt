use Rattle.std.{proofs.Common.{sym}, proofs.lemmas.Result.{err_from_is_err_and}}
use Rattle.sheet_cli.proofs.ProgramLemmas.{begins-bare, begins-with-table, fails-to-begin, put-alone}
use Rattle.sheet_cli.proofs.whole_program.first_sheet.Goals as goal

pub returns-in_default-clause-ok : goal.returns-in_default-clause-ok
returns-in_default-clause-ok g c = begins-bare (g.H.Host.value c.args.host.now) _ _ c.in_default.is c.new-sheet.ensures.names

pub returns-in_err-array-clause-err : goal.returns-in_err-array-clause-err
returns-in_err-array-clause-err g c =
    let p = err_from_is_err_and c.from_residual.result c.from_residual.ensures.1 in
    rw (p.1, p.2) (fails-to-begin (g.H.Host.value c.args.host.now) _ (c.in-Some.name, c.in-Some.path, c.in-Some.header) _ c.in-Some.is
    (rw c.as_str.ensures.value at c.in_err-array.ensures.err))

pub returns-then-is_err-clause-err : goal.returns-then-is_err-clause-err
returns-then-is_err-clause-err g c = fails-to-begin (g.H.Host.value c.args.host.now) _ (c.in-Some.name, c.in-Some.path, c.in-Some.header) _ c.in-Some.is tt

pub returns-clause-ok : goal.returns-clause-ok
returns-clause-ok g c =
    begins-with-table (g.H.Host.value c.args.host.now) _ (c.in-Some.name, c.in-Some.path, c.in-Some.header) c.in_ok-array.array _ c.in-Some.is
    (rw c.as_str.ensures.value at c.in_ok-array.ensures.ok)
    (put-alone c.put_array.result _ _ _ _ (sym (rw c.if-is_err.false at c.is_err.ensures.value)) c.new-sheet.ensures.names c.put_array.ensures.ok)
