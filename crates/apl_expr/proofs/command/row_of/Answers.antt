use Rattle.apl_expr.proofs.ReadEdits.{row_answers}
use Rattle.apl_expr.proofs.command.row_of.Goals as goal

pub returns : goal.returns
returns c = λ cs is. row_answers c.args.row.name c.args.row.numbers c.literal_of_row.result c.requires c.literal_of_row.ensures.numbers c.literal_of_row.ensures.plain cs is
