use Rattle.std.proofs.lemmas.Result.{err_from_is_err_and}
use Rattle.program_words.{specs.Asked.{IsRefusalOf}, specs.declared.reading.WordsFault.{WordsFault}, specs.declared.reading.WordsFault.TheVariants.{NoMemory, BadName, BadWords}}
use Rattle.{clap.specs.Walk.{texts}, sheet_cli.specs.Endings.{OfWords, ending_of}}
use Rattle.sheet_cli.proofs.ending.words.Goals as goal

of_words : (P : WordsFault → Type 0) (f : WordsFault) → P f → OfWords P (ending_of f)
of_words P NoMemory h = h
of_words P BadName h = h
of_words P (BadWords e) h = h

pub returns-in_err-words-clause-refused : goal.returns-in_err-words-clause-refused
returns-in_err-words-clause-refused c =
    let p = err_from_is_err_and c.from_residual.result c.from_residual.ensures.1 in
    rw (p.1, p.2) (of_words (IsRefusalOf (texts c.args.words.now)) c.in_err-words.field-0.0 c.in_err-words.ensures.refused)
