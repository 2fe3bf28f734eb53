use Rattle.std.{proofs.Common.{refl}, proofs.lemmas.Result.{err_from_is_err_and}}
use Rattle.sheet_cli.{specs.Programs.{no_memory, no_text}, proofs.ProgramLemmas.{refused-words}}
use Rattle.sheet_cli.proofs.whole_program.asked_for.Goals as goal

pub returns-in-Err-NoMemory-clause-err : goal.returns-in-Err-NoMemory-clause-err
returns-in-Err-NoMemory-clause-err g c = no_memory

pub returns-in-Err-NotText-clause-err : goal.returns-in-Err-NotText-clause-err
returns-in-Err-NotText-clause-err g c =
    rw c.from.ensures (no_text c.not_text.result (c.in-Err-NotText.ensures.not_text (rw c.in-Err-NotText.field-0-is refl)) c.not_text.ensures)

pub returns-in_err-lent-clause-err : goal.returns-in_err-lent-clause-err
returns-in_err-lent-clause-err g c =
    let p = err_from_is_err_and c.from_residual.result c.from_residual.ensures.1 in
    rw (p.1, p.2, c.in_err-lent.ensures.err) no_memory

pub returns-clause-err : goal.returns-clause-err
returns-clause-err g c =
    refused-words _ _ c.words-2.result (rw (c.as_slice-2.ensures.value, c.in_ok-lent.ensures.ok, c.as_slice.ensures.value) c.in-Ok.ensures.ok)
    c.words-2.ensures.refused c.words-2.ensures.taken
