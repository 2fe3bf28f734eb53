use Rattle.std.{proofs.Common.{◌≡◌, ◌∙◌, ℕ, List, [], cond, Option, Some, None, get_or, slice_get, sym, ap}, specs.Str.{bytes_eq}, specs.Map.{keys_of, values_of}, specs.Option.{unwrap_or, option_map}, proofs.lemmas.Option.{slice_get-map}}
use Rattle.indexmap.{specs.IndexMap.{IndexMap, IsUnique, get, set_value_at}, proofs.CallerLemmas.{keys-with_value_at, updates-with_value_at}}
use Rattle.formula_core.specs.Plans.{PlanValue}
use Rattle.sheet_recalc.{specs.Live.{plan_in}, proofs.NameEquality.{names_equal}, proofs.Entered.{name_at}, proofs.Live.{put_beside, adopting_same, adopting_either}}
use Rattle.sheet_recalc.proofs.commit.adopt_at.Goals as goal

-- the plan at a place, and the rest
module _ {S : Type 0} (m : IndexMap (List ℕ) (Option PlanValue) S) (i : ℕ) (name : List ℕ) (v lies left : Option PlanValue) (at : slice_get m.entries i ≡ Some (name, v)) where
  plan_there : get bytes_eq m name ≡ Some v → Some lies ≡ slice_get (values_of m.entries) i → plan_in m.entries name ≡ lies
  plan_there held there =
      let same : Some lies ≡ Some v = there ∙ (slice_get-map (λ (e : List ℕ × Option PlanValue). e.1) m.entries i ∙ ap (option_map (λ (e : List ℕ × Option PlanValue). e.1)) at) in
      let this : lies ≡ v = cc in
      ap (λ o. unwrap_or o None) held ∙ sym this

  plans_left : IsUnique bytes_eq m → left ≡ None → (q : List ℕ) → plan_in (set_value_at m.entries i left) q ≡ cond (bytes_eq name q) None (plan_in m.entries q)
  plans_left unique none q =
      put_beside m.entries (set_value_at m.entries i left) name left (updates-with_value_at m i left names_equal unique name v at).0 q ∙ ap (λ p. cond (bytes_eq name q) p (plan_in m.entries q)) none

  plans_left_at : IsUnique bytes_eq m → left ≡ None → (q : List ℕ) → plan_in (set_value_at m.entries i left) q ≡ cond (bytes_eq (get_or (keys_of m.entries) i []) q) None (plan_in m.entries q)
  plans_left_at unique none q = plans_left unique none q ∙ ap (λ k. cond (bytes_eq k q) None (plan_in m.entries q)) (sym (name_at m.entries i (name, v) at))

pub adopt_one-requires : goal.adopt_one-requires
adopt_one-requires c = λ e there.
    let m = c.args.found.now in
    let i = c.args.place in
    let name = c.in-Some.name.now in
    let lies = c.in-Some-get_index_mut.lies.now in
    let this = plan_there m i name c.in-Some.field-0-1.now lies None (sym c.in-Some.ensures.entry) c.in-Some.ensures.value c.in-Some-get_index_mut.ensures.value in
    c.requires.adopting.1.can name e c.in-Some-take.plan there (this ∙ (sym c.take.ensures.value ∙ c.in-Some-take.is))

pub returns-in-Some-take-clause-keys : goal.returns-in-Some-take-clause-keys
returns-in-Some-take-clause-keys c = keys-with_value_at c.args.found.now c.args.place c.take.new.self

pub returns-in-Some-take-clause-taken : goal.returns-in-Some-take-clause-taken
returns-in-Some-take-clause-taken c =
    plans_left_at c.args.found.now c.args.place c.in-Some.name.now c.in-Some.field-0-1.now None c.take.new.self (sym c.in-Some.ensures.entry) c.get_index_mut.ensures.unique c.take.ensures.after

pub returns-in-Some-take-clause-adopting : goal.returns-in-Some-take-clause-adopting
returns-in-Some-take-clause-adopting c = λ names now.
    let m = c.args.found.now in
    let i = c.args.place in
    let name = c.in-Some.name.now in
    let v = c.in-Some.field-0-1.now in
    let lies = c.in-Some-get_index_mut.lies.now in
    let left = c.take.new.self in
    let at = sym c.in-Some.ensures.entry in
    let this = plan_there m i name v lies left at c.in-Some.ensures.value c.in-Some-get_index_mut.ensures.value ∙ (sym c.take.ensures.value ∙ c.in-Some-take.is) in
    let others = plans_left m i name v lies left at c.get_index_mut.ensures.unique c.take.ensures.after in
    adopting_either names c.args.entries.now.entries c.adopt_one.new.entries.entries (plan_in m.entries) (plan_in (set_value_at m.entries i left)) name c.in-Some-take.plan this others now c.adopt_one.ensures.present c.adopt_one.ensures.absent

pub returns-in_default-take-clause-keys : goal.returns-in_default-take-clause-keys
returns-in_default-take-clause-keys c = keys-with_value_at c.args.found.now c.args.place c.take.new.self

pub returns-in_default-take-clause-taken : goal.returns-in_default-take-clause-taken
returns-in_default-take-clause-taken c =
    plans_left_at c.args.found.now c.args.place c.in-Some.name.now c.in-Some.field-0-1.now None c.take.new.self (sym c.in-Some.ensures.entry) c.get_index_mut.ensures.unique c.take.ensures.after

pub returns-in_default-take-clause-adopting : goal.returns-in_default-take-clause-adopting
returns-in_default-take-clause-adopting c = λ names now.
    let m = c.args.found.now in
    let i = c.args.place in
    let name = c.in-Some.name.now in
    let v = c.in-Some.field-0-1.now in
    let lies = c.in-Some-get_index_mut.lies.now in
    let left = c.take.new.self in
    let at = sym c.in-Some.ensures.entry in
    let none = plan_there m i name v lies left at c.in-Some.ensures.value c.in-Some-get_index_mut.ensures.value ∙ (sym c.take.ensures.value ∙ c.in_default-take.is) in
    adopting_same names c.args.entries.now.entries (plan_in m.entries) (plan_in (set_value_at m.entries i left)) name none (plans_left m i name v lies left at c.get_index_mut.ensures.unique c.take.ensures.after) now
