use Rattle.{std.proofs.Common.{sym}, formula_core.proofs.Origins.{held_origin, kept_origin}}
use Rattle.formula_core.proofs.lent_fault.LentFault.arisen_in.Goals as goal

pub returns : goal.returns
returns c = held_origin c.args.name.now c.self.inside.held c.self.inside.arisen c.args.self c.self.view_is (sym c.if-is_some.ensures)

pub returns-then-is_some : goal.returns-then-is_some
returns-then-is_some c = kept_origin c.args.name.now c.self.inside.held c.self.inside.arisen c.args.self c.self.view_is (sym c.if-is_some.ensures)
