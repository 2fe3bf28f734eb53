use Rattle.{std.proofs.Common.{subst}, change_rules.specs.Currency.{applied}, formula_core.specs.Inputs.{IsInput}}
use Rattle.sheet_recalc.proofs.PlannedNames.{good_origin, bad_origin}
use Rattle.sheet_recalc.proofs.ahead.with_origin.Goals as goal

pub returns-in-Good : goal.returns-in-Good
returns-in-Good c = λ held d i. good_origin c.args.name.now d held c.in-Good.array c.in-Good.delta (subst (IsInput (applied d held) d) c.in-Good.is i)

pub returns-in-Bad : goal.returns-in-Bad
returns-in-Bad c =
    λ held d i. bad_origin c.args.name.now d held c.in-Bad.fault c.arisen_in.result c.in-Bad.changed c.arisen_in.ensures (subst (IsInput (applied d held) d) c.in-Bad.is i)
