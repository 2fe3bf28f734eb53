use Rattle.std.proofs.Common.{◌/◌, length, refl, ap, arith}
use Rattle.fold_trees.{specs.ArrayLines.{TreesValue, line_count}, proofs.MoreLines.{few_in_all}, specs.LineTrees.{nodes_in_line}}
use Rattle.fold_trees.proofs.part_trees.NewParts.build.Goals as goal

pub invariant_of-result : goal.invariant_of-result
invariant_of-result g c =
    let count = c.args.count in
    let long = length c.args.numbers.now in
    let few = few_in_all c.args.old_lines (long / count) count (nodes_in_line count) long (omega arith) c.requires.some refl c.requires.few in
    let lines = ap (λ (t : TreesValue). line_count t) c.in_ok-trees.ensures in
    let same = ap (λ (t : TreesValue). t.count) c.in_ok-trees.ensures in
    record {
      no_slots = c.in_ok-slots.ensures.empty;
      no_nodes = c.in_ok-nodes.ensures.empty;
      few = rw (lines, same) few.slots_few;
      slot_room = rw (lines, same) c.in_ok-slots.ensures.room;
      node_room = rw (lines, same) c.in_ok-nodes.ensures.room;
    }
