use Rattle.std.proofs.Common.{◌∙◌, ◌++◌, ◌∷◌, [], List, ap, refl, sym, length, arith}
use Rattle.formula_core.{specs.declared.kept.Kept.{Kept}, specs.declared.kept.NodeChange.{NodeChange}, specs.Formulas.{FormulaValue}, specs.Meaning.{names_in}, specs.Tables.{subtrees}, proofs.Planned.{staged_by, stepped_by}, proofs.Pushed.{front_is, last_is, written_back}}
use Rattle.formula_core.proofs.formula.Formula.push.Goals as goal

pub next-requires-clause-staged : goal.next-requires-clause-staged
next-requires-clause-staged c =
    let f = c.args.self.now in
    let w = c.requires.begun in
    let done = front_is c.args.changes.now.items c.in-Some.done.now _ _ (sym (c.push_reserved.ensures.items ∙ ap (λ (ds : List NodeChange). ds ++ c.none.result ∷ []) c.reserve.ensures.items) ∙ (sym c.deref_mut.ensures.value ∙ c.in-Some.ensures.cases.0)) in (
      w.0,
      (
        names_in f.tree,
        (
          subtrees f.tree,
          staged_by f c.self.inside.names.value.items c.self.inside.nodes.items c.self.invariant (ap (λ (v : FormulaValue). v.tree) c.self.view_is) (ap (λ (v : FormulaValue). v.nodes) c.self.view_is)
              w.0 c.args.inputs.now w.1.0 c.args.changes.now.items w.1.1.0 w.1.1.1 _ c.requires.new refl c.as_slice.ensures.value done,
        ),
      ),
    )

pub next-requires-clause-none : goal.next-requires-clause-none
next-requires-clause-none c =
    last_is c.args.changes.now.items c.in-Some.done.now _ _ (sym (c.push_reserved.ensures.items ∙ ap (λ (ds : List NodeChange). ds ++ c.none.result ∷ []) c.reserve.ensures.items) ∙ (sym c.deref_mut.ensures.value ∙ c.in-Some.ensures.cases.0)) ∙ c.none.ensures

pub returns-clause-more : goal.returns-clause-more
returns-clause-more c = λ change told cost begun.
    let f = c.args.self.now in
    let whole = c.push_reserved.ensures.items ∙ ap (λ (ds : List NodeChange). ds ++ c.none.result ∷ []) c.reserve.ensures.items in
    let parts = sym c.deref_mut.ensures.value ∙ c.in-Some.ensures.cases.0 in
    let done = front_is c.args.changes.now.items c.in-Some.done.now _ _ (sym whole ∙ parts) in
    record {
      change = c.next.new.change;
      pushed = written_back c.args.changes.now.items c.in-Some.done.now c.push_reserved.new.self.items _ _ c.next.new.change c.push_reserved.new.self.len whole parts c.push_reserved.new.self.ok.0;
      step =
          stepped_by f c.self.inside.names.value.items c.self.inside.nodes.items c.self.invariant (ap (λ (v : FormulaValue). v.tree) c.self.view_is) (ap (λ (v : FormulaValue). v.nodes) c.self.view_is)
          change c.args.inputs.now told c.args.changes.now.items cost begun _ c.requires.new refl c.as_slice.ensures.value done
          c.next.new.change c.in-Ok.items _ _ (c.in-Ok.ensures change);
    }
