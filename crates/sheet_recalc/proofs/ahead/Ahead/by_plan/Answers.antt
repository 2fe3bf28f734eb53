use Rattle.{std.proofs.Common.{◌∙◌, sym, ap, subst, IfOk}, index_region.specs.declared.delta.Delta.{Delta}, change_rules.specs.Currency.{applied}}
use Rattle.arrays_core.{specs.Arrays.{IsArray}, specs.Outcomes.{Outcome}}
use Rattle.formula_core.{specs.Outcomes.{read}, specs.Formulas.{root_result}, specs.Plans.{root_change}, specs.Changes.{FitsIn}, specs.Inputs.{IsInput}}
use Rattle.sheet_recalc.{specs.ProposedSheet.{outline_of}, specs.Costs.{origin_delta}, specs.Meaning.{with_origin}, proofs.PlannedNames.{root_fits, planned_input, planned_changed, planned_sound, plan_now}}
use Rattle.sheet_recalc.proofs.ahead.Ahead.by_plan.Goals as goal

pub of-requires : goal.of-requires
of-requires c =
    let o = outline_of c.args.self.now.proposed.now in
    let f = c.args.formula.now in
    let p = c.args.plan.now in
    let now = plan_now o c.args.name.now p f c.requires.plan c.requires.held in
    subst (λ (d : Delta). FitsIn d (read c.lent.result)) (sym c.delta.ensures)
    (subst (FitsIn (root_change p.changes)) (sym c.lent.ensures) (root_fits o c.requires.ahead.proposed c.args.name.now f c.requires.held p now.0 now.1))

pub returns : goal.returns
returns c =
    let o = outline_of c.args.self.now.proposed.now in
    let ready = c.requires.ahead.proposed in
    let name = c.args.name.now in
    let f = c.args.formula.now in
    let p = c.args.plan.now in
    let now = plan_now o name p f c.requires.plan c.requires.held in
    let given = c.with_origin.ensures (read c.lent.result) c.delta.result.now c.of.ensures.is in
    record {
      input = planned_input o ready name f c.requires.held p now.0 now.1 c.with_origin.result
          (subst (λ (d : Delta). IsInput (with_origin name (applied d (root_result f.nodes))) (origin_delta name d) c.with_origin.result) c.delta.ensures
          (subst (λ (h : Outcome). IsInput (with_origin name (applied c.delta.result.now h)) (origin_delta name c.delta.result.now) c.with_origin.result) c.lent.ensures given));
      changed = planned_changed o ready name f c.requires.held p now.0 now.1;
      sound = planned_sound o ready name f c.requires.held p now.0 now.1
          (subst (λ (h : Outcome). IfOk h IsArray) c.lent.ensures c.of.ensures.held)
          (subst (λ (h : Outcome). IfOk h IsArray) (ap (λ (d : Delta). applied d (read c.lent.result)) c.delta.ensures ∙ ap (applied (root_change p.changes)) c.lent.ensures) c.of.ensures.sound);
    }
