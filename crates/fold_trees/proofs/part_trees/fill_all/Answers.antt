use Rattle.std.proofs.Common.{◌≡◌, ◌<◌, ◌*◌, ◌/◌, ◌^◌, ◌∙◌, length, rules, sym, arith}
use Rattle.fold_trees.{proofs.BlockLines.{block_count, block_ends, have_slots, have_nodes, block_kept}, proofs.LineSpots.{lines_are}}
use Rattle.fold_trees.proofs.part_trees.fill_all.Goals as goal

pub nth_block-requires-clause-fit : goal.nth_block-requires-clause-fit
nth_block-requires-clause-fit g c =
    let long = length c.args.numbers.now in
    let small : long < 2 ^ 62 = search rules in
    omega (arith, block_ends c.args.count c.args.step long c.requires.lines c.loop-block.block c.loop-block-test.true, small)

pub fill_block-requires-clause-slots : goal.fill_block-requires-clause-slots
fill_block-requires-clause-slots g c =
    rw c.nth_block.ensures (have_slots c.args.count c.args.step (length c.args.numbers.now) c.requires.lines c.loop-block.block c.loop-block-test.true (search rules))

pub fill_block-requires-clause-nodes : goal.fill_block-requires-clause-nodes
fill_block-requires-clause-nodes g c =
    let small : length c.args.numbers.now < 2 ^ 62 = search rules in
    rw c.nth_block.ensures (have_nodes c.args.count c.args.step _ c.requires.lines c.loop-block.block c.loop-block-test.true _ (c.loop-block.invariant.sized ∙ c.requires.sized) small)

pub loop-block-preserved : goal.loop-block-preserved
loop-block-preserved g c =
    let inv = c.loop-block.invariant in
    let told = c.fill_block.ensures in
    let here = rw c.nth_block.ensures at told.kept in
    let others = rw c.nth_block.ensures at told.others in
    record {
      kept = block_kept g.P.Part.blank g.P.Part.tells c.args.count c.args.step c.args.numbers.now c.loop-block.nodes c.fill_block.new.nodes c.loop-block.block c.requires.lines.apart here others inv.kept;
      sized = told.length ∙ inv.sized;
    }

pub returns-clause-kept : goal.returns-clause-kept
returns-clause-kept g c line h =
    let step = c.args.step in
    let long = length c.args.numbers.now in
    let last : c.loop-block.block ≡ long / c.args.count / step = omega (arith, c.loop-block-test.false, c.loop-block.auto.block-end) in
    let blocks_are = last ∙ block_count c.args.count step long c.requires.lines in
    let all : long / c.args.count ≡ c.loop-block.block * step = lines_are c.args.count step long c.requires.lines ∙ sym (λ i. blocks_are i * step) in
    c.loop-block.invariant.kept line (omega (arith, h, all))
