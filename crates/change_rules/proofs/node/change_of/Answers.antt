use Rattle.{std.{proofs.Common.{◌≤◌, ◌+◌, ◌∙◌, ℕ, sym, subst}, proofs.lemmas.Result.{IfOk-weaker}}, change_core.proofs.Covers.{covers}}
use Rattle.change_rules.proofs.Told.{delta_told, cost_told, right_told, current_told}
use Rattle.change_rules.proofs.node.change_of.Goals as goal

pub returns-clause-delta : goal.returns-clause-delta
returns-clause-delta g c =
    IfOk-weaker c.change_by_moves.result _ _ (λ n is args told. is ∙ sym (delta_told c.args.seen.now c.args.moved.now args told (g.R.Rule.model c.args.rule.now) c.args.held.now)) c.change_by_moves.ensures.delta

pub returns-clause-cost : goal.returns-clause-cost
returns-clause-cost g c =
    IfOk-weaker c.change_by_moves.result _ _ (λ n is args told. is ∙ sym (cost_told c.args.seen.now c.args.moved.now args told (g.R.Rule.model c.args.rule.now) c.args.held.now)) c.change_by_moves.ensures.cost

pub returns-clause-ticks : goal.returns-clause-ticks
returns-clause-ticks g c args told =
    subst (λ (n : ℕ). c.change_by_moves.new.meter.ticks ≤ c.args.meter.now.ticks + n) (sym (cost_told c.args.seen.now c.args.moved.now args told (g.R.Rule.model c.args.rule.now) c.args.held.now)) c.change_by_moves.ensures.ticks

pub returns-clause-right : goal.returns-clause-right
returns-clause-right g c =
    IfOk-weaker c.change_by_moves.result _ _ (λ n is args told. right_told c.args.seen.now c.args.moved.now args told (g.R.Rule.model c.args.rule.now) c.args.held.now c.change_by_moves.new.change is) c.change_by_moves.ensures.delta

pub returns-clause-whole : goal.returns-clause-whole
returns-clause-whole g c =
    let rule = c.args.rule.now in
    let model = g.R.Rule.model rule in
    IfOk-weaker c.change_by_moves.result _ _
    (λ n is args told axes. current_told c.args.seen.now c.args.moved.now args told model c.args.held.now c.change_by_moves.new.change is (covers model (g.met.R.Rule.tight rule)) (g.met.R.Rule.growing rule) c.requires.count c.requires.fit c.views_are_arrays.ensures axes)
    c.change_by_moves.ensures.delta
