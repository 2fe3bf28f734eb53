use Rattle.sheet_cli.proofs.OneAnswer.{line_one}
use Rattle.sheet_cli.proofs.laws.line_has_one_answer.Goals as goal

pub returns : goal.returns
returns c = line_one
