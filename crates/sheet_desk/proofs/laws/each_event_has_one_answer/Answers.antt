use Rattle.sheet_desk.proofs.OneAnswer.{one_answer}
use Rattle.sheet_desk.proofs.laws.each_event_has_one_answer.Goals as goal

pub returns : goal.returns
returns c = one_answer
