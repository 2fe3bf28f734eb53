use Rattle.{std.{proofs.Common.{rules, w64, SFits}, proofs.lemmas.Int.{to_z-of_z}}, apl_expr.proofs.ReadEdits.{edit_answers}}
use Rattle.apl_expr.proofs.command.cell_of.Goals as goal

pub returns : goal.returns
returns c = λ cs is.
    let fits : SFits w64 c.args.edit.number = search rules in
    rw (to_z-of_z w64 c.args.edit.number fits) (edit_answers c.args.edit.name c.args.edit.positions c.args.edit.number is.1 is.2 cs is.0)
