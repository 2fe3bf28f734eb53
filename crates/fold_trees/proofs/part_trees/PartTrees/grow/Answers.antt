use Rattle.std.proofs.Common.{◌≡◌, ◌∙◌, ℕ, ◌+◌, ◌*◌, ◌/◌, ◌<◌, ◌^◌, length, sym, ap, subst, arith}
use Rattle.fold_trees.{specs.ArrayLines.{TreesValue, NewTreesValue, line_count}, specs.PartTrees.{AreLineTrees}, proofs.LineSpots.{all_slots, fewer_nodes}, proofs.MoreLines.{in_all}, proofs.MoreTrees.{more_trees}, proofs.part_trees.PartTrees.grow.Given.{Over}, proofs.part_trees.PartTrees.grow.Goals.{After-trees}}
use Rattle.fold_trees.specs.LineTrees.{nodes_in_line}
use Rattle.fold_trees.proofs.part_trees.PartTrees.grow.Goals as goal

-- ---- the new lines have the length and the step of the old ones, and the memory is for both

seen_count : (g : Over) (c : After-trees g) → c.more.inside.trees.count ≡ c.self.inside.count
seen_count g c = ap (λ (n : NewTreesValue). n.count) c.more.view_is ∙ c.requires.count ∙ sym (ap (λ (t : TreesValue). t.count) c.self.view_is)

same_count : (g : Over) (c : After-trees g) → c.trees.inside.count ≡ c.self.inside.count
same_count g c = ap (λ (t : TreesValue). t.count) c.trees.view_is ∙ seen_count g c

same_step : (g : Over) (c : After-trees g) → c.trees.inside.step ≡ c.self.inside.step
same_step g c =
    ap (λ (t : TreesValue). t.step) c.trees.view_is ∙ ap (λ (n : NewTreesValue). n.step) c.more.view_is ∙ c.requires.step
    ∙ sym (ap (λ (t : TreesValue). t.step) c.self.view_is)

new_trees : (g : Over) (c : After-trees g)
    → AreLineTrees g.P.Part.blank g.P.Part.tells c.self.inside.count c.self.inside.step c.trees.inside.numbers.items c.trees.inside.nodes.items
new_trees g c = rw (same_count g c, same_step g c) at c.trees.invariant.trees

old_count : (g : Over) (c : After-trees g) → c.more.inside.old_lines ≡ length c.self.inside.numbers.items / c.self.inside.count
old_count g c = ap (λ (n : NewTreesValue). n.old_lines) c.more.view_is ∙ c.requires.old_lines ∙ sym (ap (λ (t : TreesValue). line_count t) c.self.view_is)

new_count : (g : Over) (c : After-trees g) → line_count c.more.inside.trees ≡ length c.trees.inside.numbers.items / c.self.inside.count
new_count g c = sym (ap (λ (t : TreesValue). line_count t) c.trees.view_is) ∙ ap (λ (n : ℕ). length c.trees.inside.numbers.items / n) (same_count g c)

-- the count of numbers, by lines
held_numbers : (g : Over) (c : After-trees g) → length c.self.inside.numbers.items ≡ c.more.inside.old_lines * c.self.inside.count
held_numbers g c =
    all_slots c.self.inside.count c.self.inside.step (length c.self.inside.numbers.items) c.self.invariant.trees.lines
    ∙ ap (λ n. n * c.self.inside.count) (sym (old_count g c))

more_numbers : (g : Over) (c : After-trees g) → length c.trees.inside.numbers.items ≡ line_count c.more.inside.trees * c.self.inside.count
more_numbers g c =
    all_slots c.self.inside.count c.self.inside.step (length c.trees.inside.numbers.items) (new_trees g c).lines
    ∙ ap (λ n. n * c.self.inside.count) (sym (new_count g c))

numbers_in_all : (g : Over) (c : After-trees g)
    → (c.more.inside.old_lines + line_count c.more.inside.trees) * c.self.inside.count ≡ length c.self.inside.numbers.items + length c.trees.inside.numbers.items
numbers_in_all g c =
    in_all c.more.inside.old_lines (line_count c.more.inside.trees) (length c.self.inside.numbers.items) (length c.trees.inside.numbers.items)
    c.self.inside.count (held_numbers g c) (more_numbers g c)

few_numbers : (g : Over) (c : After-trees g) → length c.self.inside.numbers.items + length c.trees.inside.numbers.items < 2 ^ 63
few_numbers g c =
    omega (arith, subst (λ n. (c.more.inside.old_lines + line_count c.more.inside.trees) * n < 2 ^ 63) (seen_count g c) c.more.invariant.few, numbers_in_all g c)

pub put_behind-requires-2-clause-few : goal.put_behind-requires-2-clause-few
put_behind-requires-2-clause-few g c =
    let before = (goal.at.put_behind-requires-2-clause-few g c).After-trees in
    let count = c.self.inside.count in
    let step = c.self.inside.step in
    let trees = new_trees g before in
    let old = fewer_nodes count step (length c.self.inside.numbers.items) c.self.invariant.trees.lines (nodes_in_line count) (length c.self.inside.nodes.items) (omega arith) c.self.invariant.trees.sized in
    let new = fewer_nodes count step (length c.trees.inside.numbers.items) trees.lines (nodes_in_line count) (length c.trees.inside.nodes.items) (omega arith) trees.sized in
    omega (arith, old, new, few_numbers g before)

pub put_behind-requires-clause-room : goal.put_behind-requires-clause-room
put_behind-requires-clause-room g c = rw (← numbers_in_all g c, held_numbers g c, ← seen_count g c) c.more.invariant.slot_room

pub put_behind-requires-2-clause-room : goal.put_behind-requires-2-clause-room
put_behind-requires-2-clause-room g c =
    let before = (goal.at.put_behind-requires-2-clause-room g c).After-trees in
    let unit = nodes_in_line c.self.inside.count in
    let old = c.self.invariant.trees.sized ∙ ap (λ n. n * unit) (sym (old_count g before)) in
    let new = (new_trees g before).sized ∙ ap (λ n. n * unit) (sym (new_count g before)) in
    rw (← in_all c.more.inside.old_lines (line_count c.more.inside.trees) _ _ unit old new, old, ← seen_count g before) c.more.invariant.node_room

-- ---- the lists of both

pub invariant_of-self : goal.invariant_of-self
invariant_of-self g c =
    let all = more_trees _ _ _ _ _ _ _ _ c.self.invariant.trees (new_trees g (goal.at.invariant_of-self g c).After-trees) in
    record { trees = rw (c.put_behind.ensures.items, c.put_behind-2.ensures.items) all; slot_room = c.put_behind.ensures.room; node_room = c.put_behind-2.ensures.room }
