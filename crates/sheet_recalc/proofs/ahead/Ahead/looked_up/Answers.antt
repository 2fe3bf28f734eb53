use Rattle.std.{proofs.Common.{◌≡◌, ◌∙◌, None, is_some, true, Some, sym, subst, IfOk, ⊎_elim}, proofs.lemmas.Bool.{false≢true}}
use Rattle.{formula_core.{specs.Changes.{FitsIn}, specs.Formulas.{FormulaValue}, specs.Inputs.{IsInput}, specs.Outcomes.{read}, specs.declared.input.Input.TheVariants.{Bad}}, change_rules.specs.Currency.{applied}, index_region.specs.declared.delta.Delta.{Delta}}
use Rattle.arrays_core.{specs.Arrays.{IsArray}, specs.Outcomes.{Outcome}}
use Rattle.sheet_recalc.{specs.Entries.{names_of}, specs.Live.{plan_in}, specs.Meaning.{val}, specs.ProposedSheet.{outline_of, entry_of}, specs.Planning.{HasItsPlan, IsInputOf, IsUntouched}, proofs.NameEquality.{equal-true, equal-same}}
use Rattle.sheet_recalc.proofs.PlannedNames.{own_held, own_formula, data_fits, data_input, data_changed, data_sound, none_input, none_changed, none_sound, stays_untouched, rest_input, untouched_input, untouched_changed, untouched_sound}
use Rattle.sheet_recalc.specs.declared.entry.Entry.TheVariants as entry
use Rattle.sheet_recalc.proofs.ahead.Ahead.looked_up.Goals as goal

pub lent-requires : goal.lent-requires
lent-requires c = c.requires.ahead.proposed.current

pub of-requires : goal.of-requires
of-requires c =
    subst (FitsIn c.in-Data.delta) (sym c.lent.ensures) (data_fits (outline_of c.args.self.now.proposed.now) c.requires.ahead.proposed c.in-Data.delta c.in-Data.is)

pub returns-in-Data : goal.returns-in-Data
returns-in-Data c =
    let o = outline_of c.args.self.now.proposed.now in
    let ready = c.requires.ahead.proposed in
    let name = equal-true c.args.name.now o.name (sym c.eq.ensures ∙ c.if-eq.true) in
    let d = c.in-Data.delta in
    subst (λ x. IsInputOf o x c.of.result) (sym name) (record {
      input = data_input o ready d c.in-Data.is c.of.result (subst (λ (r : Outcome). IsInput (applied d r) d c.of.result) c.lent.ensures c.of.ensures.is);
      changed = data_changed o ready d c.in-Data.is;
      sound = data_sound o ready d c.in-Data.is (subst (λ (r : Outcome). IfOk r IsArray) c.lent.ensures c.of.ensures.held) (subst (λ (r : Outcome). IfOk (applied d r) IsArray) c.lent.ensures c.of.ensures.sound);
    })

pub returns-in-Removed : goal.returns-in-Removed
returns-in-Removed c =
    let o = outline_of c.args.self.now.proposed.now in
    let ready = c.requires.ahead.proposed in
    let name = equal-true c.args.name.now o.name (sym c.eq.ensures ∙ c.if-eq.true) in
    subst (λ x. IsInputOf o x (Bad c.unknown.result true)) (sym name) (record {
      input = none_input o ready c.in-Removed.is c.unknown.result c.unknown.ensures;
      changed = none_changed o ready c.in-Removed.is;
      sound = none_sound o ready c.in-Removed.is;
    })

pub by_plan-requires-clause-held : goal.by_plan-requires-clause-held
by_plan-requires-clause-held c = own_held (outline_of c.args.self.now.proposed.now) c.requires.ahead.proposed c.in-Formula.formula c.in-Formula.is

pub returns-in-Some : goal.returns-in-Some
returns-in-Some c =
    let o = outline_of c.args.self.now.proposed.now in
    subst (λ x. IsInputOf o x c.by_plan.result) (sym (equal-true c.args.name.now o.name (sym c.eq.ensures ∙ c.if-eq.true))) c.by_plan.ensures

pub unreachable-requires : goal.unreachable-requires
unreachable-requires c =
    let o = outline_of c.args.self.now.proposed.now in
    let name = equal-true c.args.name.now o.name (sym c.eq.ensures ∙ c.if-eq.true) in
    let none : plan_in c.args.self.now.found.now.entries o.name ≡ None = c.in-None.ensures in
    ⊎_elim (λ some. false≢true (subst (λ p. is_some p ≡ true) none some)) (λ n. own_formula o c.requires.ahead.proposed c.in-Formula.formula c.in-Formula.is n)
    (subst (λ x. HasItsPlan o (plan_in c.args.self.now.found.now.entries) x) name c.requires.done)

pub lent-requires-in_default : goal.lent-requires-in_default
lent-requires-in_default c = c.requires.ahead.proposed.current

pub of-requires-in_default : goal.of-requires-in_default
of-requires-in_default c = subst (λ (d : Delta). FitsIn d (read c.lent-in_default.result)) (sym c.requires.ahead.unchanged) tt

pub returns-in_default : goal.returns-in_default
returns-in_default c =
    let o = outline_of c.args.self.now.proposed.now in
    let ready = c.requires.ahead.proposed in
    let name = c.args.name.now in
    let still : IsUntouched o name = stays_untouched o (plan_in c.args.self.now.found.now.entries) name c.requires.done c.in_default.ensures (λ e. false≢true (sym (sym c.eq.ensures ∙ c.if-eq.false) ∙ equal-same name o.name e)) in
    record {
      input = untouched_input o ready name still c.of-in_default.result (rest_input c.args.self.now.unchanged.now c.requires.ahead.unchanged (read c.lent-in_default.result) (val (names_of o.entries) name) c.lent-in_default.ensures c.of-in_default.result c.of-in_default.ensures.is);
      changed = untouched_changed o ready name still;
      sound = untouched_sound o ready name still (subst (λ (r : Outcome). IfOk r IsArray) c.lent-in_default.ensures c.of-in_default.ensures.held);
    }

pub unreachable-requires-in-None-formula_of : goal.unreachable-requires-in-None-formula_of
unreachable-requires-in-None-formula_of c =
    let o = outline_of c.args.self.now.proposed.now in
    let at = c.requires.ahead.plans c.args.name.now c.in-Some-plan_in.plan.now c.in-Some-plan_in.ensures in
    let plain : (f : FormulaValue) → entry_of o c.args.name.now ≡ Some (entry.Formula f) → ⊥ = c.in-None-formula_of.ensures in
    plain at.formula at.held
