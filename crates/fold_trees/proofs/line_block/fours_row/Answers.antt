use Rattle.std.{proofs.Common.{◌≡◌, ◌∙◌, ℕ, ◌+◌, ◌*◌, ◌<◌, List, ℤ, ◌∷◌, [], length, set, get_or, pos, ap, sym, subst, arith, rules, to_z, of_z, w64, FitsSigned}, proofs.lemmas.Int.{to_z-of_z}, proofs.lemmas.List.{length-set}}
use Rattle.fold_trees.{specs.declared.line.Line.{Line}, specs.LineTrees.{slot_at, slot_of, segment}, specs.LineBlocks.{line_of}, proofs.BlockRows.{slot_row, line_slot, next_slot, node_row}, proofs.FourRows.{later_row, four_on, others_stay, as_long}, proofs.Segments.{segment_split}}
use Rattle.fold_trees.{proofs.line_block.fours_row.Given.{Over}, proofs.line_block.fours_row.Goals.{In-loop-column}}
use Rattle.fold_trees.proofs.line_block.fours_row.Goals as goal

pub bounds-numbers-at-in-loop-column-2 : goal.bounds-numbers-at-in-loop-column-2
bounds-numbers-at-in-loop-column-2 g c =
    let row = slot_row c.args.first (length c.args.numbers.now) (c.args.from + 2) c.requires.slots (omega (arith, c.requires.full)) in
    omega (arith, row, next_slot c.args.first c.args.from 2, c.slot_at-row.ensures, c.loop-column-test.true)

pub bounds-numbers-at-in-loop-column-3 : goal.bounds-numbers-at-in-loop-column-3
bounds-numbers-at-in-loop-column-3 g c =
    let row = slot_row c.args.first (length c.args.numbers.now) (c.args.from + 3) c.requires.slots (omega (arith, c.requires.full)) in
    omega (arith, row, next_slot c.args.first c.args.from 3, c.slot_at-row.ensures, c.loop-column-test.true)

-- the last of the three nodes is one of the list
inside : (g : Over) (c : In-loop-column g) → c.nth_node-node.result + c.loop-column.column + 2 * c.args.first.step < length c.loop-column.nodes
inside g c =
    let row = node_row c.args.first (length c.args.nodes.now) (c.args.from + 3) c.requires.nodes (omega arith) (omega (arith, c.requires.full)) in
    omega (arith, row, later_row c.args.first c.args.from 2, c.nth_node-node.ensures, c.loop-column-test.true, c.loop-column.invariant.sized)

-- a number that is read is the one at its place of the line
read : (numbers : List ℤ) (l : Line) (at place : ℕ) → FitsSigned w64 (get_or numbers at (pos 0)) → at ≡ slot_at l place → to_z w64 (of_z w64 (get_or numbers at (pos 0))) ≡ slot_of l numbers place
read numbers l at place fits is = to_z-of_z w64 _ fits ∙ ap (λ p. get_or numbers p (pos 0)) is

pub offset_bounds-nodes-here : goal.offset_bounds-nodes-here
offset_bounds-nodes-here g c = let below = inside g (goal.at.offset_bounds-nodes-here g c).In-loop-column in search rules

pub bounds-nodes-here : goal.bounds-nodes-here
bounds-nodes-here g c = omega (arith, inside g (goal.at.bounds-nodes-here g c).In-loop-column)

pub overflow_add-nodes : goal.overflow_add-nodes
overflow_add-nodes g c = record { fits = omega (arith, inside g (goal.at.overflow_add-nodes g c).In-loop-column, c.loop-column.invariant.sized, c.requires.nodes.fit) }

pub offset_bounds-nodes-here-in-loop-column : goal.offset_bounds-nodes-here-in-loop-column
offset_bounds-nodes-here-in-loop-column g c = let below = inside g (goal.at.offset_bounds-nodes-here-in-loop-column g c).In-loop-column in search rules

pub bounds-nodes-here-in-loop-column : goal.bounds-nodes-here-in-loop-column
bounds-nodes-here-in-loop-column g c =
    omega (arith, inside g (goal.at.bounds-nodes-here-in-loop-column g c).In-loop-column, length-set c.loop-column.nodes (c.nth_node-node.result + c.loop-column.column) c.two-earlier.result)

pub overflow_add-here-in-loop-column : goal.overflow_add-here-in-loop-column
overflow_add-here-in-loop-column g c =
    record { fits = omega (arith, inside g (goal.at.overflow_add-here-in-loop-column g c).In-loop-column, c.loop-column.invariant.sized, c.requires.nodes.fit) }

pub offset_bounds-nodes-here-in-loop-column-2 : goal.offset_bounds-nodes-here-in-loop-column-2
offset_bounds-nodes-here-in-loop-column-2 g c = let below = inside g (goal.at.offset_bounds-nodes-here-in-loop-column-2 g c).In-loop-column in search rules

pub bounds-nodes-here-in-loop-column-2 : goal.bounds-nodes-here-in-loop-column-2
bounds-nodes-here-in-loop-column-2 g c =
    let node = c.nth_node-node.result + c.loop-column.column in
    omega (
      arith,
      inside g (goal.at.bounds-nodes-here-in-loop-column-2 g c).In-loop-column,
      length-set c.loop-column.nodes node c.two-earlier.result,
      length-set (set c.loop-column.nodes node c.two-earlier.result) (node + c.args.first.step) c.join.result,
    )

pub loop-column-preserved : goal.loop-column-preserved
loop-column-preserved g c =
    let first = c.args.first in
    let numbers = c.args.numbers.now in
    let from = c.args.from in
    let tells = g.P.Part.tells in
    let k = c.loop-column.column in
    let below = c.loop-column-test.true in
    let l = line_of first k in
    let x = slot_of l numbers in
    let a = c.two-earlier.result in
    let b = c.join.result in
    let d = c.two-later.result in
    let at = c.slot_at-row.result + k in
    let step = first.step in
    let here = c.nth_node-node.result + k in
    let here_is = ap (λ (n : ℕ). n + k) c.nth_node-node.ensures in
    let fits = inside g (goal.at.loop-column-preserved g c).In-loop-column in
    let x0 = read numbers l at from (search rules) (omega (arith, c.slot_at-row.ensures, line_slot first k from)) in
    let x1 = read numbers l (at + step) (from + 1) (search rules) (omega (arith, c.slot_at-row.ensures, line_slot first k (from + 1), next_slot first from 1)) in
    let x2 = read numbers l (at + 2 * step) (from + 2) (search rules) (omega (arith, c.slot_at-row.ensures, line_slot first k (from + 2), next_slot first from 2)) in
    let x3 = read numbers l (at + 3 * step) (from + 2 + 1) (search rules)
    (omega (arith, c.slot_at-row.ensures, line_slot first k (from + 2 + 1), next_slot first from 3, next_slot first (from + 2) 1, next_slot first from 2)) in
    let one : tells a (segment x from 2) = subst (tells a) (λ i. x0 i ∷ x1 i ∷ []) c.two-earlier.ensures in
    let two : tells d (segment x (from + 2) 2) = subst (tells d) (λ i. x2 i ∷ x3 i ∷ []) c.two-later.ensures in
    let all : tells b (segment x from 4) = subst (tells b) (sym (segment_split x from 2 2)) (c.join.ensures (segment x from 2) (segment x (from + 2) 2) one two) in
    record {
      told = four_on g.P.Part.blank first from k here c.loop-column.nodes a b d below here_is fits tells numbers one all two c.loop-column.invariant.told;
      others = others_stay g.P.Part.blank first from k here c.loop-column.nodes a b d below here_is fits c.args.nodes.now c.loop-column.invariant.others;
      sized = as_long g.P.Part.blank first from k here c.loop-column.nodes a b d below here_is fits ∙ c.loop-column.invariant.sized;
    }
