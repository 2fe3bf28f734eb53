use Rattle.apl_expr.proofs.Lined.{one_command_of}
use Rattle.apl_expr.proofs.one_command.Goals as goal

pub returns : goal.returns
returns c = one_command_of c.one_answer.ensures
