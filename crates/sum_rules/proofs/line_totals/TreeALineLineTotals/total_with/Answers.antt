use Rattle.std.{proofs.Common.{◌≡◌, ◌-◌, ◌/◌, ◌<◌, ℤ, List, [], length, get_or, subst, arith, w64}, proofs.lemmas.Int.{to_z-of_z}, proofs.lemmas.List.{get_or_default}, proofs.lemmas.List.Elements.{All-get_or}, proofs.lemmas.Nat.{mod_below}}
use Rattle.fold_trees.specs.FoldTrees.{IsWithinDigitsOf}
use Rattle.sum_rules.{proofs.TreeLines.{line_there, through_line}, proofs.line_totals.TreeALineLineTotals.total_with.Goals.{After-index-self-place}}
use Rattle.sum_rules.proofs.line_totals.TreeALineLineTotals.total_with.Goals as goal

pub bounds-self-place : goal.bounds-self-place
bounds-self-place c = line_there c.args.self.now.count c.args.self.now.trees.now c.args.place c.args.number c.args.self.now.each c.args.self.now.some c.requires

pub offset_bounds-self-place : goal.offset_bounds-self-place
offset_bounds-self-place c = record { fits = omega (arith, bounds-self-place c, c.type_inv.self.1.0.0.1.1) }

-- the line of the place is as long as the others
long : (c : After-index-self-place) → length (get_or c.args.self.now.trees.now (c.args.place / c.args.self.now.count) c.index-self-place.result) ≡ c.args.self.now.count
long c =
    let self = c.args.self.now in
    let there = line_there self.count self.trees.now c.args.place c.args.number self.each self.some c.requires in
    All-get_or (λ (l : List ℤ). length l ≡ self.count) self.trees.now (c.args.place / self.count) c.index-self-place.result there self.each

pub result_with-requires : goal.result_with-requires
result_with-requires c =
    omega (arith, long (goal.at.result_with-requires c).After-index-self-place, mod_below c.args.place c.args.self.now.count c.args.self.now.some)

pub returns-clause-total : goal.returns-clause-total
returns-clause-total c =
    let self = c.args.self.now in
    let place = c.args.place in
    let z = c.args.number in
    let there = line_there self.count self.trees.now place z self.each self.some c.requires in
    let told = get_or_default self.trees.now (place / self.count) c.index-self-place.result [] there in
    rw (through_line self.count self.trees.now place z self.each self.some c.requires) (rw (to_z-of_z w64 z c.ranges.number, told) at c.result_with.ensures.result)

pub returns-clause-joins : goal.returns-clause-joins
returns-clause-joins c =
    subst (λ k. IsWithinDigitsOf (k - 1) c.result_with.result.1) (long (goal.at.returns-clause-joins c).After-index-self-place) c.result_with.ensures.joins

pub returns-clause-some : goal.returns-clause-some
returns-clause-some c = subst (λ k. 1 < k → 0 < c.result_with.result.1) (long (goal.at.returns-clause-some c).After-index-self-place) c.result_with.ensures.some
