-- A change in progress, after a step, and in the end.
use Rattle.{std.proofs.Common.{◌≡◌, ◌+◌, ◌-◌, ◌<◌, ◌≤◌, ◌∙◌, ◌⊎◌, ℕ, List, refl, sym, subst, arith, ⊎_elim}, change_core.specs.Meters.{ticked, MeterValue}}
use Rattle.sheet_recalc.{specs.Names.{SheetValue}, specs.Tables.{Tables}, specs.Changes.{SheetChange}, specs.Costs.{HasCost, HasTicks, NoItemFails, expression_cost, formulas_cost, changed_name, own_delta, IsNodeCost, IsStepCost}, specs.ProposedSheet.{proposed_change}}
use Rattle.sheet_recalc.{specs.Planning.{IsProposed, IsOnTheWay, IsPaid, IsOneApplied, HasFunctionLeft, NoneFails, CanBe}, specs.Pending.{outline_for, names_after, steps_left, HasPlace, IsBegunOn, IsBetweenSteps, IsPendingOn, IsReadyToMake}, specs.declared.pending.Pending.{Pending}, specs.declared.plans.Plans.{Plans}}
use Rattle.sheet_recalc.{proofs.Accounted.{expression_more}, proofs.Dependents.{cost_of_dependents}, specs.declared.budget.Budget.{Budget}, specs.declared.budget.Budget.TheVariants.{All, One, Spent}, proofs.Forward.{none_left, all_planned, all_cost, all_few, all_whole, paid_more}}
use Rattle.formula_core.specs.Changes as formula

-- the pending change is worked out, and its cost
pub record IsAllReady (t : Tables) (p : Pending) : Type 0 where
  pub ready : IsReadyToMake t p.name p.proposal p.plans.found.entries p.growth
  pub few : p.ticks ≤ p.plans.cost
  pub whole : NoneFails (outline_for t p) → p.ticks ≡ p.plans.cost

module _ (t : Tables) (p : Pending) (base : ℕ) (h : IsBegunOn t p base) where
  -- with no step left, none was cut off, and each plan is made
  module _ (none : steps_left p ≡ 0) where
    pub between : IsBetweenSteps p
    between = by p.budget refl h.paid
      where
        by : (b : Budget) → p.budget ≡ b → IsPaid (outline_for t p) One b p.left h.functions p.ticks p.meter.ticks → IsBetweenSteps p
        by All is k = absurd k
        by One is k = record { whole = is; counted = sym k.1 }
        by Spent is k = absurd (omega (arith, none, k.one))

    pub is_ready : IsAllReady t p
    is_ready =
        let o = outline_for t p in
        let told = between.counted in
        let end = h.end none in
        record {
          ready = record {
            planned = all_planned o h.proposed base h.functions p.meter.ticks p.plans h.way end;
            kept = h.kept;
            sheet = h.sheet;
            proposal_at = h.proposed.proposal;
            place = h.place;
          };
          few = subst (λ n. n ≤ p.plans.cost) (sym told) (all_few o h.proposed base h.functions p.meter.ticks p.plans h.way end (subst (λ n. n < 18446744073709551616) told h.small));
          whole = λ good. told ∙ all_whole o h.proposed base h.functions p.meter.ticks p.plans h.way end good;
        }

  -- the planner was called, with a step left
  module _ (some : 0 < p.left) (w : Plans) (b : Budget) (m : MeterValue) (rest : ℕ) (way : IsOnTheWay (outline_for t p) base rest w m.ticks)
      (paid : IsPaid (outline_for t p) p.budget b h.functions rest p.meter.ticks m.ticks) where
    since : IsPaid (outline_for t p) One b p.left rest p.ticks m.ticks
    since = paid_more (outline_for t p) One p.budget b p.left h.functions rest p.ticks p.meter.ticks m.ticks h.paid paid

    -- and was refused memory
    pub cut_on : IsBegunOn t (record p { plans = w; budget = b; meter = m }) base
    cut_on = record {
      proposed = h.proposed;
      kept = h.kept;
      sheet = h.sheet;
      place = h.place;
      functions = rest;
      way = way;
      paid = since;
      end = λ none. absurd (omega (arith, some, none));
      small = h.small;
    }

    -- and ended the step
    module _ (end : (w.waiting ≡ 0) ⊎ ((b ≡ Spent) × HasFunctionLeft (outline_for t p) w m.ticks)) where
      pub applied : IsOneApplied (outline_for t p) p.left rest p.ticks m.ticks
      applied = ⊎_elim (λ all. by b since (none_left (outline_for t p) h.proposed base rest m.ticks w way all)) (λ k. subst (λ x. IsPaid (outline_for t p) One x p.left rest p.ticks m.ticks) k.0 since) end
        where
          by : (x : Budget) → IsPaid (outline_for t p) One x p.left rest p.ticks m.ticks → rest ≡ 0 → IsOneApplied (outline_for t p) p.left rest p.ticks m.ticks
          by All k zero = absurd k
          by One k zero = absurd (omega (arith, some, k.0, zero))
          by Spent k zero = k

      pub step_on : (ticks : ℕ) → ticks ≡ m.ticks → ticks < 18446744073709551616 → IsBegunOn t (record p { plans = w; left = p.left - 1; budget = One; ticks = ticks; meter = m }) base
      step_on ticks told small = record {
        proposed = h.proposed;
        kept = h.kept;
        sheet = h.sheet;
        place = h.place;
        functions = rest;
        way = way;
        paid = (omega (arith, applied.one), sym told);
        end = λ none. ⊎_elim (λ all. all) (λ k. absurd (omega (arith, applied.one, none, k.1 base rest way))) end;
        small = small;
      }

pub whole_cost : (s : SheetValue) (change : SheetChange) (p : Pending) → IsPendingOn s change p → steps_left p ≡ 0 → HasCost s.names change (names_after s.tables p) p.plans.cost
whole_cost s change p h none =
    let all = all_cost (outline_for s.tables p) h.begun.proposed h.base h.begun.functions p.meter.ticks p.plans h.begun.way (h.begun.end none) in
    let new = names_after s.tables p in
    expression_more h.base (expression_cost s.names change) _ p.plans.cost h.base_is all ∙ (λ i. ticked 0 (expression_cost s.names change + formulas_cost (h.name_is i) (h.makes i) new))

pub whole_ticks : (s : SheetValue) (change : SheetChange) (p : Pending) → IsPendingOn s change p → steps_left p ≡ 0 → HasTicks s.names change (names_after s.tables p) p.ticks
whole_ticks s change p h none =
    let cost = whole_cost s change p h none in
    let ready = is_ready s.tables p h.base h.begun none in
    let new = names_after s.tables p in
    let most = subst (λ n. p.ticks ≤ n) cost ready.few in
    record {
      most = most;
      dependents = λ found every.
          let name = changed_name change in
          let same = cost_of_dependents s.names new name (own_delta change new) found every h.begun.sheet.distinct in
          subst (λ n. p.ticks ≤ ticked 0 (expression_cost s.names change + n)) same most;
      all = λ good.
          let same = subst (λ (name : List ℕ). NoItemFails name (proposed_change (outline_for s.tables p)) new) (sym h.name_is)
          (subst (λ (c : formula.NamesChange). NoItemFails (changed_name change) c new) (sym h.makes) good) in
          ready.whole same ∙ cost;
    }

-- a change that is worked out at once
pub at_once : (t : Tables) (p : Pending) (base : ℕ) → IsProposed (outline_for t p) → CanBe (outline_for t p) → HasPlace t p.growth p.proposal → (b : Budget)
    → ((rest : ℕ) × IsOnTheWay (outline_for t p) base rest p.plans p.meter.ticks × (b ≡ All))
    → ((p.plans.waiting ≡ 0) ⊎ ((b ≡ Spent) × HasFunctionLeft (outline_for t p) p.plans p.meter.ticks))
    → p.left ≡ 0 → p.budget ≡ One → p.ticks ≡ p.meter.ticks → p.ticks < 18446744073709551616 → IsBegunOn t p base
at_once t p base proposed can place b k end zero one told small =
    let o = outline_for t p in
    let all : p.plans.waiting ≡ 0 = ⊎_elim (λ all. all) (λ e. let never : All ≡ Spent = sym k.2 ∙ e.0 in absurd cc) end in
    let none : p.left ≡ k.0 = zero ∙ sym (none_left o proposed base k.0 p.meter.ticks p.plans k.1 all) in
    record {
      proposed = proposed;
      kept = can.kept;
      sheet = can.sheet;
      place = place;
      functions = k.0;
      way = k.1;
      paid = subst (λ x. IsPaid o One x p.left k.0 p.ticks p.meter.ticks) (sym one) (none, sym told);
      end = λ _. all;
      small = small;
    }

-- a step on the tables of the sheet: what the planner did with the plans of a pending change
module _ (s : SheetValue) (t : Tables) (same : t ≡ s.tables) (p : Pending) (w : Plans) (b : Budget) (m : MeterValue)
    (way : (base left : ℕ) → IsOnTheWay (outline_for t p) base left p.plans p.meter.ticks
    → (rest : ℕ) × IsOnTheWay (outline_for t p) base rest w m.ticks × IsPaid (outline_for t p) p.budget b left rest p.meter.ticks m.ticks)
    (some : 0 < p.left) (change : SheetChange) (h : IsPendingOn s change p) where
  begun : IsBegunOn t p h.base
  begun = subst (λ (u : Tables). IsBegunOn u p h.base) (sym same) h.begun

  further : (left : ℕ) (c : Budget) (ticks : ℕ) → IsBegunOn t (record p { plans = w; left = left; budget = c; ticks = ticks; meter = m }) h.base → IsPendingOn s change (record p { plans = w; left = left; budget = c; ticks = ticks; meter = m })
  further left c ticks now = record {
    base = h.base;
    begun = subst (λ (u : Tables). IsBegunOn u (record p { plans = w; left = left; budget = c; ticks = ticks; meter = m }) h.base) same now;
    base_is = h.base_is;
    accepts = h.accepts;
    name_is = h.name_is;
    makes = h.makes;
  }

  pub cut_step : IsPendingOn s change (record p { plans = w; budget = b; meter = m })
  cut_step = let k = way h.base begun.functions begun.way in further p.left b p.ticks (cut_on t p h.base begun some w b m k.0 k.1 k.2)

  module _ (end : (w.waiting ≡ 0) ⊎ ((b ≡ Spent) × HasFunctionLeft (outline_for t p) w m.ticks)) where
    pub whole_step : (ticks : ℕ) → ticks ≡ m.ticks → ticks < 18446744073709551616 → IsPendingOn s change (record p { plans = w; left = p.left - 1; budget = One; ticks = ticks; meter = m })
    whole_step ticks told small = let k = way h.base begun.functions begun.way in further (p.left - 1) One ticks (step_on t p h.base begun some w b m k.0 k.1 k.2 end ticks told small)

    one_step : (rest : ℕ) × IsOneApplied (outline_for t p) p.left rest p.ticks m.ticks
    one_step = let k = way h.base begun.functions begun.way in (k.0, applied t p h.base begun some w b m k.0 k.1 k.2 end)

    pub step_rises : p.ticks ≤ m.ticks
    step_rises = one_step.1.rises

    -- its function costs as much as some one node
    pub step_cost : (cost : ℕ) × IsStepCost s.names change cost × (m.ticks ≤ p.ticks + cost)
    step_cost =
        let new = names_after s.tables p in
        let one : IsOneApplied (outline_for s.tables p) p.left one_step.0 p.ticks m.ticks = subst (λ (u : Tables). IsOneApplied (outline_for u p) p.left one_step.0 p.ticks m.ticks) same one_step.1 in
        let named = subst (λ (name : List ℕ). IsNodeCost name (proposed_change (outline_for s.tables p)) new one.cost) h.name_is one.node in
        (one.cost, record { new = new; accepts = h.accepts; node = subst (λ (c : formula.NamesChange). IsNodeCost (changed_name change) c new one.cost) h.makes named }, one.most)
