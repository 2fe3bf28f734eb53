use Rattle.{std.proofs.Common.{ap, arith}, change_core.specs.Meters.{MeterValue}, sum_rules.proofs.LongerTotals.{as_many_numbers, joins_within, told_longer}}
use Rattle.sum_rules.proofs.totals.change_by_growth.Goals as goal

pub change_whole-requires : goal.change_whole-requires
change_whole-requires g c = λ shape type form. told_longer c.args.fold _ _ _ c.requires.lines c.requires.first shape type form _ c.requires.function _ c.in-Some.ensures.is.1

pub returns-clause-joins : goal.returns-clause-joins
returns-clause-joins g c =
    let many = as_many_numbers c.args.fold _ _ _ c.requires.lines c.requires.first _ c.in-Some.ensures.is.1 in
    joins_within c.args.fold _ _ _ c.requires.lines c.requires.first _ _ (omega (arith, ap (λ (m : MeterValue). m.joins) c.count_joins.ensures, ap (λ (m : MeterValue). m.joins) c.add.ensures.exact, many))

pub returns-clause-least : goal.returns-clause-least
returns-clause-least g c = λ sound two.
    let many = as_many_numbers c.args.fold _ _ _ c.requires.lines c.requires.first _ c.in-Some.ensures.is.1 in
    omega (arith, ap (λ (m : MeterValue). m.joins) c.count_joins.ensures, ap (λ (m : MeterValue). m.joins) c.add.ensures.exact, many)
