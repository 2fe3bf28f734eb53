use Rattle.{std.proofs.Common.{◌∙◌, IsOk, refl, sym, ap, subst, true}, apl_expr.specs.Trees.{tree_of}, change_core.specs.Meters.{ticked}}
use Rattle.{formula_core.specs.Plans.{tree_cost}, sheet_recalc.{specs.Costs.{names_at_rest}, proofs.Asked.{store_asked}}}
use Rattle.sheet_recalc.proofs.sheet.Sheet.stored.Goals as goal

pub returns-in-Ok-clause-is : goal.returns-in-Ok-clause-is
returns-in-Ok-clause-is c = λ name.
    let s = c.args.self.now in
    let t = tree_of c.args.tree.now in
    let told = c.in_ok-array.ensures in
    store_asked s name c.in-Ok.array c.evaluate_counted.new.meter.ticks t (sym told.value ∙ c.in-Ok.is)
    (told.exact (subst (λ r. IsOk r) (sym c.in-Ok.is) refl) ∙ ap (λ n. ticked n (tree_cost true (names_at_rest s.names) t)) c.requires)
