use Rattle.std.{proofs.Common.{rules, ℕ, ◌≡◌, ◌+◌, ◌<◌, length, get_or, subst, sym, ap, ◌∙◌, arith}, specs.Prelude.{sum}}
use Rattle.index_region.{specs.Axes.{places_along}, specs.Answers.{IsPlaceOf}, specs.Sources.{Place}}
use Rattle.selection_fns.{specs.Replicate.{times, copied_place}, proofs.Copies.{CopyFacts, copy_facts, copy_source}, proofs.SourcePlaces.{replicate_inside}, proofs.replicate.CopyFunction.index_of.Goals.{After-axis_at-axis}}
use Rattle.selection_fns.proofs.replicate.CopyFunction.index_of.Goals as goal

-- the index list is one of a copy
facts : (c : After-axis_at-axis) → CopyFacts c.args.self.now.replicate.along c.args.self.now.counts.now c.args.self.now.array.now c.args.index.now c.axis_at-axis.result
facts c =
    let self = c.args.self.now in
    copy_facts self.replicate.along self.counts.now self.array.now _ _ c.args.index.now c.axis_at-axis.result (search rules) self.form c.requires (search rules)

as_many : (c : After-axis_at-axis) → length c.args.self.now.before.now ≡ sum (times c.args.self.now.counts.now (places_along c.args.self.now.array.now.shape c.axis_at-axis.result))
as_many c = c.args.self.now.long ∙ ap (λ m. sum (times c.args.self.now.counts.now (places_along c.args.self.now.array.now.shape m))) (sym (facts c).axis)

pub index_of_copy-requires-clause-rank : goal.index_of_copy-requires-clause-rank
index_of_copy-requires-clause-rank c =
    omega (arith, c.shape-axes.ensures.sound.within.rank, (facts (goal.at.index_of_copy-requires-clause-rank c).After-axis_at-axis).copied.long)

pub index_of_copy-requires-clause-there : goal.index_of_copy-requires-clause-there
index_of_copy-requires-clause-there c =
    let known = facts (goal.at.index_of_copy-requires-clause-there c).After-axis_at-axis in
    omega (arith, known.below, known.copied.long)

pub index_of_copy-requires-clause-low : goal.index_of_copy-requires-clause-low
index_of_copy-requires-clause-low c = (facts (goal.at.index_of_copy-requires-clause-low c).After-axis_at-axis).copied.low

pub index_of_copy-requires-clause-high : goal.index_of_copy-requires-clause-high
index_of_copy-requires-clause-high c =
    let here = (goal.at.index_of_copy-requires-clause-high c).After-axis_at-axis in
    omega (arith, as_many here, (facts here).copied.high)

pub returns-clause-is : goal.returns-clause-is
returns-clause-is c =
    let self = c.args.self.now in
    let shape = self.array.now.shape in
    let here = (goal.at.returns-clause-is c).After-axis_at-axis in
    let known = facts here in
    let is : (i : ℕ) → i < length self.before.now → get_or self.before.now i 0 + 1 ≡ copied_place self.counts.now (places_along shape c.axis_at-axis.result) (i + 1) =
    subst (λ m. (i : ℕ) → i < length self.before.now → get_or self.before.now i 0 + 1 ≡ copied_place self.counts.now (places_along shape m) (i + 1)) (sym known.axis) self.is in
    ap (λ xs. Place 1 xs) c.index_of_copy.ensures.is
    ∙ copy_source self.replicate.along self.counts.now self.array.now c.args.index.now self.before.now c.axis_at-axis.result (search rules) known (as_many here) is

pub returns-clause-inside : goal.returns-clause-inside
returns-clause-inside c =
    let self = c.args.self.now in
    let index = c.args.index.now in
    replicate_inside self.replicate.along self.counts.now self.array.now index c.index_of_copy.result.items (returns-clause-is c) (subst (λ form. IsPlaceOf form index) (sym self.form) c.requires)
