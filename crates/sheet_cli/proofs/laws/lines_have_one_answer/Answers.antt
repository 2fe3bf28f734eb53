use Rattle.sheet_cli.proofs.AnswerLemmas.{answers_one}
use Rattle.sheet_cli.proofs.laws.lines_have_one_answer.Goals as goal

pub returns : goal.returns
returns c = answers_one
