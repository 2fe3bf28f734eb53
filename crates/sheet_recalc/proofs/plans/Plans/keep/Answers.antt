use Rattle.std.{proofs.Common.{◌≡◌, ◌-◌, ◌∙◌, cond, Some, sym, arith}, specs.Str.{bytes_eq}}
use Rattle.indexmap.proofs.CallerLemmas.{keys-with_value_at, updates-with_value_at}
use Rattle.sheet_recalc.{specs.Live.{plan_in}, proofs.NameEquality.{names_equal}, proofs.Live.{put_beside}, proofs.Entered.{entry_at, name_at}}
use Rattle.sheet_recalc.proofs.plans.Plans.keep.Goals as goal

pub returns-in-Some-get_index_mut-clause-keys : goal.returns-in-Some-get_index_mut-clause-keys
returns-in-Some-get_index_mut-clause-keys c = keys-with_value_at c.args.self.now.found (c.args.self.now.waiting - 1) (Some c.in-Some.plan)

pub returns-in-Some-get_index_mut-clause-plans : goal.returns-in-Some-get_index_mut-clause-plans
returns-in-Some-get_index_mut-clause-plans c = λ q.
    let w = c.args.self.now in
    let i = w.waiting - 1 in
    let e = entry_at w.found.entries i (omega (arith, c.requires.waits, c.requires.few)) in
    let puts = updates-with_value_at w.found i (Some c.in-Some.plan) names_equal c.get_index_mut.ensures.unique e.0.0 e.0.1 e.1 in
    let is : Some c.in-Some.plan ≡ w.current = sym c.in-Some.is ∙ c.take.ensures.value in
    put_beside w.found.entries _ e.0.0 (Some c.in-Some.plan) puts.0 q ∙ ((λ j. cond (bytes_eq (sym (name_at w.found.entries i e.0 e.1) j) q) (is j) (plan_in w.found.entries q)))
