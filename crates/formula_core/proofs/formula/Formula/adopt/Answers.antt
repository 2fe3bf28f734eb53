use Rattle.std.proofs.Common.{◌≡◌, ◌∙◌, ◌≤◌, List, ap, sym, subst, length, arith, false}
use Rattle.formula_core.{specs.declared.table.Node.{Node}, specs.Formulas.{FormulaValue, IsTableOf, root_of}, specs.Holdings.{Holding, nodes_of, holdings_of, adopted}, specs.Plans.{PlanValue}, proofs.Planned.{counted}, proofs.Adopted.{nodes_taken, held_taken}}
use Rattle.formula_core.proofs.formula.Formula.adopt.Goals as goal

pub invariant_of-self : goal.invariant_of-self
invariant_of-self c =
    let nodes = c.self.inside.nodes.items in
    let few : length c.plan.inside.changes.items ≤ length nodes = omega (arith, c.requires.each, counted c.args.self.now c.self.inside.names.value.items nodes c.self.invariant (ap (λ (v : FormulaValue). v.tree) c.self.view_is) (ap (λ (v : FormulaValue). v.nodes) c.self.view_is), ap (λ (p : PlanValue). length p.changes) c.plan.view_is) in
    let same : nodes_of c.adopt_all.new.nodes.items ≡ nodes_of nodes = ap nodes_of c.adopt_all.ensures ∙ nodes_taken _ nodes few in
    subst (λ (ns : List Node). IsTableOf c.self.inside.names.value.items ns (root_of c.self.inside.names.value.items ns)) (sym same) c.self.invariant

pub returns : goal.returns
returns c =
    let nodes = c.self.inside.nodes.items in
    let names = c.self.inside.names.value.items in
    let few : length c.plan.inside.changes.items ≤ length nodes = omega (arith, c.requires.each, counted c.args.self.now c.self.inside.names.value.items nodes c.self.invariant (ap (λ (v : FormulaValue). v.tree) c.self.view_is) (ap (λ (v : FormulaValue). v.nodes) c.self.view_is), ap (λ (p : PlanValue). length p.changes) c.plan.view_is) in
    let same : nodes_of c.adopt_all.new.nodes.items ≡ nodes_of nodes = ap nodes_of c.adopt_all.ensures ∙ nodes_taken _ nodes few in
    let tree = ap (root_of names) same ∙ ap (λ (v : FormulaValue). v.tree) c.self.view_is in
    let held = ap holdings_of c.adopt_all.ensures ∙ (held_taken _ nodes ∙ (ap (λ (hs : List Holding). adopted c.plan.inside.changes.items hs) (ap (λ (v : FormulaValue). v.nodes) c.self.view_is) ∙ ap (λ (p : PlanValue). adopted p.changes c.args.self.now.nodes) c.plan.view_is)) in
    λ i. record { tree = tree i; is_new = false; nodes = held i }
