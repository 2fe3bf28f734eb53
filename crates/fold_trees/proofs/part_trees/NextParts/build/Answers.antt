use Rattle.std.{proofs.Common.{◌∙◌, ℕ, ◌*◌, ℤ, List, length, sym, ap, subst, vec_capacity, arith}, proofs.lemmas.List.{length-replicate}}
use Rattle.{arrays_core.specs.Growth.{HasRoom}, fold_trees.specs.PartTrees.{AreNextPartRooms}}
use Rattle.fold_trees.proofs.part_trees.NextParts.build.Goals as goal

pub invariant_of-result : goal.invariant_of-result
invariant_of-result g c =
    let count = c.args.count in
    let step = length c.args.numbers.now in
    let slots = c.in_ok-slots.slots in
    let nodes = c.in_ok-nodes.nodes in
    let more = c.in_ok-more_nodes.more_nodes.items in
    let rooms : AreNextPartRooms count c.args.numbers.now slots.items more nodes.items (vec_capacity slots) (vec_capacity nodes) = record {
      more_nodes = ap (λ (l : List g.row.P.Denot). length l) c.in_ok-more_nodes.ensures ∙ length-replicate step c.of.result;
      no_slots = c.in_ok-slots.ensures.empty;
      no_nodes = c.in_ok-nodes.ensures.empty;
      few = c.requires.few;
      slot_room = subst (λ (n : ℕ). HasRoom (count * step) n (vec_capacity slots)) (grind arith) c.in_ok-slots.ensures.room;
      node_room = c.in_ok-nodes.ensures.room;
    } in
    subst (λ (l : List ℤ). AreNextPartRooms count l slots.items more nodes.items (vec_capacity slots) (vec_capacity nodes)) (sym c.in_ok-numbers.ensures) rooms
