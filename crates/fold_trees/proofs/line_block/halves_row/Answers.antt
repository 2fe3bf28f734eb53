use Rattle.std.{proofs.Common.{◌≡◌, ◌∙◌, ℕ, ◌+◌, ◌/◌, ◌<◌, ◌++◌, List, ℤ, length, sym, ap, subst, arith, rules}, proofs.lemmas.List.{length-set}}
use Rattle.fold_trees.{specs.LineBlocks.{line_of}, proofs.BlockRows.{told_on, others_on, line_node, node_row, read_before}, specs.LineTrees.{nth_node, node_of}, proofs.line_block.halves_row.Given.{Over}}
use Rattle.fold_trees.proofs.line_block.halves_row.Goals as goal

-- the node of the line is one of the list
inside : (g : Over) (c : goal.After-join g) → c.nth_node-node.result + c.loop-column.column < length c.loop-column.nodes
inside g c =
    let row = node_row c.args.first (length c.args.nodes.now) (c.args.from + c.args.half) c.requires.nodes
    (omega (arith, c.requires.wide)) (omega (arith, c.requires.full, c.requires.wide)) in
    omega (arith, row, c.nth_node-node.ensures, c.loop-column-test.true, c.loop-column.invariant.sized)

-- the nodes of the earlier and the later half
earlier_is : (g : Over) (c : goal.After-index-nodes-later g)
    → c.index-nodes-earlier.result ≡ node_of g.P.Part.blank (line_of c.args.first c.loop-column.column) c.args.nodes.now (c.args.from + c.args.half / 2)
earlier_is g c =
    read_before g.P.Part.blank c.args.first c.loop-column.column (c.args.from + c.args.half) c.loop-column.nodes c.args.nodes.now c.requires.nodes c.loop-column.invariant.sized
    c.loop-column-test.true c.loop-column.invariant.others (c.args.from + c.args.half / 2) c.nth_node-earlier.result c.index-nodes-earlier.result
    (omega (arith, c.requires.wide)) (omega (arith, c.requires.wide, c.requires.full)) c.nth_node-earlier.ensures c.index-nodes-earlier.is

later_is : (g : Over) (c : goal.After-index-nodes-later g)
    → c.index-nodes-later.result ≡ node_of g.P.Part.blank (line_of c.args.first c.loop-column.column) c.args.nodes.now (c.args.from + c.args.half + c.args.half / 2)
later_is g c =
    read_before g.P.Part.blank c.args.first c.loop-column.column (c.args.from + c.args.half) c.loop-column.nodes c.args.nodes.now c.requires.nodes c.loop-column.invariant.sized
    c.loop-column-test.true c.loop-column.invariant.others (c.args.from + c.args.half + c.args.half / 2) c.nth_node-later.result c.index-nodes-later.result
    (omega (arith, c.requires.wide)) (omega (arith, c.requires.wide, c.requires.full)) c.nth_node-later.ensures c.index-nodes-later.is

pub join-requires-clause-here : goal.join-requires-clause-here
join-requires-clause-here g c =
    let told = c.requires.told c.loop-column.column c.loop-column-test.true in
    (told.0, subst (λ s. g.P.Part.tells s told.0) (sym (earlier_is g c)) told.1)

pub join-requires-clause-later : goal.join-requires-clause-later
join-requires-clause-later g c =
    let told = c.requires.later c.loop-column.column c.loop-column-test.true in
    (told.0, subst (λ s. g.P.Part.tells s told.0) (sym (later_is g c)) told.1)

pub offset_bounds-nodes-node : goal.offset_bounds-nodes-node
offset_bounds-nodes-node g c = let below = inside g c in search rules

pub loop-column-preserved : goal.loop-column-preserved
loop-column-preserved g c =
    let first = c.args.first in
    let from = c.args.from in
    let half = c.args.half in
    let blank = g.P.Part.blank in
    let before = c.args.nodes.now in
    let k = c.loop-column.column in
    let node = c.nth_node-node.result + k in
    let here = ap (λ (n : ℕ). n + k) c.nth_node-node.ensures in
    record {
      told = told_on blank (λ column t. (earlier rest : List ℤ) → g.P.Part.tells (node_of blank (line_of first column) before (from + half / 2)) earlier
          → g.P.Part.tells (node_of blank (line_of first column) before (from + half + half / 2)) rest → g.P.Part.tells t (earlier ++ rest))
          (λ column. nth_node (line_of first column) (from + half)) (nth_node first (from + half))
          (λ column. line_node first column (from + half)) c.loop-column.nodes k node c.join.result here (inside g c) c.loop-column.invariant.told
          (λ earlier rest h l. c.join.ensures earlier rest
          (subst (λ t. g.P.Part.tells t earlier) (sym (earlier_is g c.before)) h) (subst (λ t. g.P.Part.tells t rest) (sym (later_is g c.before)) l));
      others = others_on blank c.loop-column.nodes before (nth_node first (from + half)) k node c.join.result here c.loop-column.invariant.others;
      sized = length-set c.loop-column.nodes node c.join.result ∙ c.loop-column.invariant.sized;
    }
