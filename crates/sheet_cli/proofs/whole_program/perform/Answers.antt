use Rattle.std.{proofs.Common.{refl}, proofs.lemmas.Result.{err_from_is_err_and}}
use Rattle.sheet_cli.specs.Programs.{bad_words, no_table, no_script, of_script, of_input}
use Rattle.sheet_cli.proofs.whole_program.perform.Goals as goal

pub returns-in_err-asked : goal.returns-in_err-asked
returns-in_err-asked g c =
    let p = err_from_is_err_and c.from_residual.result c.from_residual.ensures.1 in
    rw (p.1, p.2) (bad_words c.in_err-asked.ensures.err (refl, refl))

pub returns-in_err-sheet : goal.returns-in_err-sheet
returns-in_err-sheet g c =
    let p = err_from_is_err_and c.from_residual-in_err-sheet.result c.from_residual-in_err-sheet.ensures.1 in
    rw (p.1, p.2) (no_table c.in_ok-asked.asked c.in_ok-asked.ensures.ok c.in_err-sheet.ensures.err (refl, refl))

pub returns-in_default : goal.returns-in_default
returns-in_default g c =
    of_input c.in_ok-asked.asked c.in_ok-sheet.sheet.names c.in_ok-asked.ensures.ok c.in_ok-sheet.ensures.ok c.in_default.is c.answer_lines.ensures

pub returns-in-Ok : goal.returns-in-Ok
returns-in-Ok g c =
    of_script c.in_ok-asked.asked c.in_ok-sheet.sheet.names c.in-Some.path c.in-Ok.script c.answer_lines-in-Ok.new.source c.in_ok-asked.ensures.ok
    c.in_ok-sheet.ensures.ok c.in-Some.is (rw c.as_str.ensures.value at c.in-Ok.ensures.ok) refl c.answer_lines-in-Ok.ensures

pub returns : goal.returns
returns g c =
    no_script c.in_ok-asked.asked c.in_ok-sheet.sheet.names c.in-Some.path c.in_ok-asked.ensures.ok c.in_ok-sheet.ensures.ok c.in-Some.is
    (rw c.as_str.ensures.value at c.in-Err.ensures.err) (refl, refl)
