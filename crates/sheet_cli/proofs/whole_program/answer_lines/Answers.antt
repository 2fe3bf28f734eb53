use Rattle.std.{proofs.Common.{◌∙◌, sym, ap, Err}, proofs.lemmas.Result.{err_from_is_err_and}}
use Rattle.sheet_cli.{specs.Answer.{state_of}, proofs.ProgramLemmas.{state-at-first, lines-fault}}
use Rattle.sheet_cli.proofs.whole_program.answer_lines.Goals as goal

pub returns-in_err-run : goal.returns-in_err-run
returns-in_err-run g c =
    let p = err_from_is_err_and c.from_residual.result c.from_residual.ensures.1 in
    let first = state-at-first c.new-desk.result c.args.sheet.names c.new-desk.ensures.names
    (c.new-desk.ensures.cost ∙ c.requires.cost) c.new-desk.ensures.slots in
    let told = c.in_err-run.ensures in
    rw (p.1, p.2)
    (lines-fault (record { remaining = g.R.Source.remaining; has_failed = g.R.Source.has_failed })
    (record { written = g.W.Sink.written; has_failed = g.W.Sink.has_failed; is_flushed = g.W.Sink.is_flushed })
    c.args.source.now c.run.new.source c.args.sink.now c.run.new.sink _ _ (state_of c.run.new.desk) _ c.in_err-run.field-0.0 first
    (λ e. told.memory (ap (λ fault. Err fault) e)) (λ e. told.read (ap (λ fault. Err fault) e)) (λ e. told.write (ap (λ fault. Err fault) e)))

pub returns : goal.returns
returns g c =
    let first = state-at-first c.new-desk.result c.args.sheet.names c.new-desk.ensures.names
    (c.new-desk.ensures.cost ∙ c.requires.cost) c.new-desk.ensures.slots in
    let told = c.in_ok-run.ensures in
    rw (sym first) (state_of c.run.new.desk, c.in_ok-run.field-0, told.ok, told.flushed)
