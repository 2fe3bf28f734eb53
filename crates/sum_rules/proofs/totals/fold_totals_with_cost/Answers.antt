use Rattle.std.proofs.Common.{[], ◌∷◌, refl, arith, rules}
use Rattle.sum_rules.proofs.totals.fold_totals_with_cost.Goals as goal

pub overflow_mul-ticks : goal.overflow_mul-ticks
overflow_mul-ticks c =
    let most = c.in_ok-cost.ensures.ticks (c.args.arg ∷ []) (refl, c.of.ensures, tt) in
    let cost = c.in_ok-cost.ensures.cost (c.args.arg ∷ []) (refl, c.of.ensures, tt) in
    search rules

pub returns-clause-delta : goal.returns-clause-delta
returns-clause-delta c = c.in_ok-cost.ensures.delta (c.args.arg ∷ []) (refl, c.of.ensures, tt)

pub returns-clause-cost : goal.returns-clause-cost
returns-clause-cost c = c.in_ok-cost.ensures.cost (c.args.arg ∷ []) (refl, c.of.ensures, tt)

pub returns-clause-ticks : goal.returns-clause-ticks
returns-clause-ticks c =
    let most = c.in_ok-cost.ensures.ticks (c.args.arg ∷ []) (refl, c.of.ensures, tt) in
    search rules

pub returns-clause-joins : goal.returns-clause-joins
returns-clause-joins c =
    let most = c.in_ok-cost.ensures.ticks (c.args.arg ∷ []) (refl, c.of.ensures, tt) in
    search rules

pub returns-clause-right : goal.returns-clause-right
returns-clause-right c = c.in_ok-cost.ensures.right (c.args.arg ∷ []) (refl, c.of.ensures, tt)
