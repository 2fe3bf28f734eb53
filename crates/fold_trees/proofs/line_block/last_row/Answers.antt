use Rattle.std.{proofs.Common.{◌≡◌, ◌∙◌, ℕ, ◌+◌, ◌-◌, ◌*◌, ◌/◌, ◌%◌, ◌<◌, ◌++◌, min, length, sym, ap, subst, arith, rules}, proofs.lemmas.Nat.{pow_pos}, proofs.lemmas.List.{length-set}}
use Rattle.fold_trees.{specs.declared.line.Line.{Line}, specs.LineTrees.{slot_of, nth_node, segment, numbers_of_block, node_of}, specs.LineBlocks.{line_of}, proofs.BlockRows.{told_on, others_on, line_node, column_away, node_row}, proofs.LineParts.{widen_even}}
use Rattle.fold_trees.{proofs.BlockParts.{kept_in_first, kept_in_second, kept_in_still}, proofs.line_block.last_row.Given.{Over}, proofs.line_block.last_row.Goals.{In-loop-column}}
use Rattle.fold_trees.proofs.line_block.last_row.Goals as goal

pub part-requires-clause-part : goal.part-requires-clause-part
part-requires-clause-part g c =
    let half = c.requires.half in
    let from = c.requires.from in
    record { level = half.0; place = 2 * from.0; width_is = half.1; from_is = from.1 ∙ ap (λ k. from.0 * (2 * k)) half.1 ∙ grind arith }

pub part-requires-in-loop-column-clause-part : goal.part-requires-in-loop-column-clause-part
part-requires-in-loop-column-clause-part g c =
    let half = c.requires.half in
    let from = c.requires.from in
    record { level = half.0; place = 2 * from.0 + 1; width_is = half.1; from_is = (λ i. from.1 i + c.args.half) ∙ (λ i. from.0 * (2 * half.1 i) + half.1 i) ∙ grind arith }

-- the nodes of the line stay until it is reached
still : (g : Over) (c : In-loop-column g) (a : ℕ)
    → node_of g.P.Part.blank (line_of c.args.first c.loop-column.column) c.loop-column.nodes a ≡ node_of g.P.Part.blank (line_of c.args.first c.loop-column.column) c.args.nodes.now a
still g c a =
    let k = c.loop-column.column in
    c.loop-column.invariant.others (nth_node (line_of c.args.first k) a) (column_away c.args.first k k a (c.args.from + c.args.half) c.loop-column-test.true (omega arith))

pub part-requires-clause-kept : goal.part-requires-clause-kept
part-requires-clause-kept g c =
    let l = line_of c.args.first c.loop-column.column in
    let blank = g.P.Part.blank in
    rw c.nth-line.ensures (kept_in_still g.P.Part.tells _ _ _ _ (node_of blank l c.args.nodes.now) (node_of blank l c.loop-column.nodes)
    (still g (goal.at.part-requires-clause-kept g c).In-loop-column)
    (kept_in_first blank g.P.Part.tells c.args.from c.args.first c.args.numbers.now c.args.nodes.now c.args.half c.loop-column.column c.loop-column-test.true c.requires.kept))

pub part-requires-in-loop-column-clause-kept : goal.part-requires-in-loop-column-clause-kept
part-requires-in-loop-column-clause-kept g c =
    let l = line_of c.args.first c.loop-column.column in
    let blank = g.P.Part.blank in
    let some : 0 < c.args.half = omega (arith, pow_pos c.requires.half.0, c.requires.half.1) in
    rw c.nth-line.ensures (kept_in_still g.P.Part.tells _ _ _ _ (node_of blank l c.args.nodes.now) (node_of blank l c.loop-column.nodes)
    (still g (goal.at.part-requires-in-loop-column-clause-kept g c).In-loop-column)
    (kept_in_second blank g.P.Part.tells c.args.from c.args.first c.args.numbers.now c.args.nodes.now c.args.half c.loop-column.column c.loop-column-test.true some c.requires.kept))

-- the node of the line, and that it is one of the list
here : (g : Over) (c : goal.After-nth_node g) → c.nth_node.result ≡ nth_node c.args.first (c.args.from + c.args.half) + c.loop-column.column
here g c =
    c.nth_node.ensures ∙ ap (λ (m : Line). nth_node m (c.args.from + c.args.half)) c.nth-line.ensures ∙ line_node c.args.first c.loop-column.column (c.args.from + c.args.half)

inside : (g : Over) (c : goal.After-nth_node g) → c.nth_node.result < length c.loop-column.nodes
inside g c =
    let p = pow_pos c.requires.half.0 in
    let row = node_row c.args.first (length c.args.nodes.now) (c.args.from + c.args.half) c.requires.nodes (omega (arith, p, c.requires.half.1)) c.requires.short in
    omega (arith, row, here g c, c.loop-column-test.true, c.loop-column.invariant.sized)

pub offset_bounds-nodes-nth_node : goal.offset_bounds-nodes-nth_node
offset_bounds-nodes-nth_node g c = let below = inside g c in search rules

pub loop-column-preserved : goal.loop-column-preserved
loop-column-preserved g c =
    let first = c.args.first in
    let from = c.args.from in
    let half = c.args.half in
    let blank = g.P.Part.blank in
    let inv = c.loop-column.invariant in
    let s = c.join-both.result in
    let x = slot_of (line_of first c.loop-column.column) c.args.numbers.now in
    let count = first.count in
    let part = c.requires.from.0 in
    let node = c.nth_node.result in
    let told = rw c.nth-line.ensures at (c.join-both.ensures _ _ c.part.ensures c.part-in-loop-column.ensures) in
    let even : 2 * part % 2 ≡ 0 = omega arith in
    let block : 2 * part / 2 ≡ part = omega arith in
    let start : from ≡ 2 * part * half = c.requires.from.1 ∙ grind arith in
    let next : from + half ≡ 2 * part * half + half = omega (arith, start) in
    let all = (λ i. segment x (start i) (min half (count - start i)) ++ segment x (next i) (min half (count - next i)))
    ∙ widen_even count x (2 * part) half even (omega (arith, next, c.requires.short))
    ∙ ap (λ b. numbers_of_block count x b (2 * half)) block
    ∙ sym (ap (λ f. segment x f (min (2 * half) (count - f))) c.requires.from.1) in
    let made : g.P.Part.tells s (segment x from (min (2 * half) (count - from))) = subst (g.P.Part.tells s) all told in
    record {
      told = told_on blank (λ column t. g.P.Part.tells t (segment (slot_of (line_of first column) c.args.numbers.now) from (min (2 * half) (count - from))))
          (λ column. nth_node (line_of first column) (from + half)) (nth_node first (from + half))
          (λ column. line_node first column (from + half)) c.loop-column.nodes c.loop-column.column node s (here g c) (inside g c) inv.told made;
      others = others_on blank c.loop-column.nodes c.args.nodes.now (nth_node first (from + half)) c.loop-column.column node s (here g c) inv.others;
      sized = length-set c.loop-column.nodes node s ∙ inv.sized;
    }
