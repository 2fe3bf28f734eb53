use Rattle.std.{proofs.Common.{◌≡◌, ◌∙◌, ℕ, set, refl, to_z, of_z, w64}, proofs.lemmas.Int.{to_z-of_z}}
use Rattle.fold_trees.{specs.LineTrees.{slot_of, node_of, replaced}, proofs.LineParts.{replaced_other}, proofs.LineNodes.{kept_replaced, kept_alike}, proofs.TreeWrites.{number_set}, proofs.line_tree.write.Given.{Over}, proofs.line_tree.write.Goals.{After-slot_at}}
use Rattle.fold_trees.proofs.line_tree.write.Goals as goal

numbers_put : (g : Over) (c : After-slot_at g) (i : ℕ)
    → slot_of c.args.line (set c.args.numbers.now c.slot_at.result (to_z w64 (of_z w64 c.args.number))) i ≡ replaced (slot_of c.args.line c.args.numbers.now) c.args.place c.args.number i
numbers_put g c i =
    (λ k. slot_of c.args.line (set c.args.numbers.now (c.slot_at.ensures k) ((to_z-of_z w64 c.args.number c.ranges.number) k)) i)
    ∙ number_set c.args.line c.args.numbers.now c.args.place c.args.number c.requires.inside.slots c.requires.place i

pub renew-requires-clause-kept : goal.renew-requires-clause-kept
renew-requires-clause-kept g c =
    let line = c.args.line in
    let place = c.args.place in
    let numbers = c.args.numbers.now in
    kept_replaced g.P.Part.tells place line.count (slot_of line numbers) (slot_of line (set numbers c.slot_at.result (to_z w64 (of_z w64 c.args.number)))) (node_of g.P.Part.blank line c.args.nodes.now)
    (λ i below apart. numbers_put g ((goal.at.renew-requires-clause-kept g c).After-slot_at) i ∙ replaced_other (slot_of line numbers) place c.args.number i apart)
    c.requires.kept

pub returns-in-Some-clause-numbers : goal.returns-in-Some-clause-numbers
returns-in-Some-clause-numbers g c i h = numbers_put g (goal.at.returns-in-Some-clause-numbers g c).After-slot_at i

pub returns-in-Some-clause-kept : goal.returns-in-Some-clause-kept
returns-in-Some-clause-kept g c =
    let line = c.args.line in
    let place = c.args.place in
    let z = c.args.number in
    let x = slot_of line c.args.numbers.now in
    let node = node_of g.P.Part.blank line c.put_parts.new.nodes in
    kept_alike g.P.Part.tells line.count (replaced x place z) (slot_of line (set c.args.numbers.now c.slot_at.result (to_z w64 (of_z w64 z)))) node node
    (λ i below. numbers_put g ((goal.at.returns-in-Some-clause-kept g c).After-slot_at) i) (λ meeting some below. refl)
    (c.put_parts.ensures.kept (replaced x place z)
    (kept_replaced g.P.Part.tells place line.count x (replaced x place z) (node_of g.P.Part.blank line c.args.nodes.now) (λ i below apart. replaced_other x place z i apart) c.requires.kept)
    (rw c.in-Some.is at c.requires.joined))

pub returns-in-None-clause-numbers : goal.returns-in-None-clause-numbers
returns-in-None-clause-numbers g c i h = numbers_put g (goal.at.returns-in-None-clause-numbers g c).After-slot_at i
