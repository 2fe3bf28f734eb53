use Rattle.std.{proofs.Common.{rules, ◌^◌, ◌≡◌, ◌∙◌, ◌/◌, ◌%◌, ◌<◌, ℤ, List, length, sym, ap, subst, arith, IfSome, to_z, of_z, w64}, proofs.lemmas.Int.{to_z-of_z}, proofs.lemmas.List.{with_items_is}, specs.Vec.{with_items}}
use Rattle.fold_trees.{specs.ArrayLines.{TreesValue, line_through, with_number}, proofs.LinePlaces.{line_within}, proofs.LineSpots.{line_fits, in_both}, specs.PartTrees.{AreJoinedFor}, proofs.TreeWrites.{IsWritten, written_numbers, written_trees}, proofs.part_trees.PartTrees.set.Given.{Over}}
use Rattle.fold_trees.{proofs.part_trees.PartTrees.set.Goals.{After-self, After-nth_line-line, After-write}, specs.LineBlocks.{line_at}}
use Rattle.fold_trees.proofs.part_trees.PartTrees.set.Goals as goal

-- ---- the line of the place

is_inside : (g : Over) (c : After-self g) → c.args.place < length c.self.inside.numbers.items
is_inside g c = omega (arith, c.requires.place, ap (λ (t : TreesValue). length t.numbers) c.self.view_is)

is_below : (g : Over) (c : After-self g) → line_through c.self.inside.count c.self.inside.step c.args.place < length c.self.inside.numbers.items / c.self.inside.count
is_below g c = line_within c.self.inside.count c.self.inside.step (length c.self.inside.numbers.items) c.self.invariant.trees.lines c.args.place (is_inside g c)

line_is : (g : Over) (c : After-nth_line-line g)
    → c.nth_line-line.result ≡ line_at c.self.inside.count c.self.inside.step (line_through c.self.inside.count c.self.inside.step c.args.place)
line_is g c = c.nth_line-line.ensures ∙ ap (line_at c.self.inside.count c.self.inside.step) c.line_through-line.ensures

pub nth_line-line-requires-clause-fit : goal.nth_line-line-requires-clause-fit
nth_line-line-requires-clause-fit g c =
    let fits = line_fits c.self.inside.count c.self.inside.step _ c.self.invariant.trees.lines _ (is_below g (goal.at.nth_line-line-requires-clause-fit g c).After-self) in
    let small : length c.self.inside.numbers.items < 2 ^ 62 = search rules in
    rw c.line_through-line.ensures (omega (arith, fits, small))

pub write-requires-clause-inside : goal.write-requires-clause-inside
write-requires-clause-inside g c =
    let here = goal.at.write-requires-clause-inside g c in
    let trees = c.self.invariant.trees in
    rw (line_is g here.After-nth_line-line, c.deref_mut.ensures.value, c.deref_mut-2.ensures.value)
    (in_both c.self.inside.count c.self.inside.step _ trees.lines _ (is_below g here.After-self) (length c.self.inside.nodes.items) trees.sized (search rules))

pub write-requires-clause-kept : goal.write-requires-clause-kept
write-requires-clause-kept g c =
    let here = goal.at.write-requires-clause-kept g c in
    rw (line_is g here.After-nth_line-line, c.deref_mut.ensures.value, c.deref_mut-2.ensures.value) (c.self.invariant.trees.kept _ (is_below g here.After-self))

pub write-requires-clause-joined : goal.write-requires-clause-joined
write-requires-clause-joined g c =
    rw (line_is g (goal.at.write-requires-clause-joined g c).After-nth_line-line, c.deref_mut.ensures.value, to_z-of_z w64 c.args.number c.ranges.number)
    (subst (λ (t : TreesValue). IfSome c.args.joined (λ parts. AreJoinedFor g.P.Part.tells t c.args.place c.args.number parts.now)) (sym c.self.view_is) c.requires.joined)

-- ---- the written numbers and nodes

is_written : (g : Over) (c : After-write g)
    → IsWritten g.P.Part.blank g.P.Part.tells (line_at c.self.inside.count c.self.inside.step (line_through c.self.inside.count c.self.inside.step c.args.place))
    (c.args.place / c.self.inside.step % c.self.inside.count) c.args.number c.self.inside.numbers.items c.write.new.numbers c.self.inside.nodes.items c.write.new.nodes
is_written g c =
    let told = c.write.ensures in
    let raw : IsWritten g.P.Part.blank g.P.Part.tells c.nth_line-line.result (c.args.place / c.self.inside.step % c.self.inside.count) (to_z w64 (of_z w64 c.args.number))
    c.deref_mut.result.now c.write.new.numbers c.deref_mut-2.result.now c.write.new.nodes = record {
      numbers_are = told.numbers;
      kept = told.kept;
      other_slots = told.other_slots;
      other_nodes = told.other_nodes;
      slot_count = told.slot_count;
      node_count = told.node_count;
    } in
    rw (to_z-of_z w64 c.args.number c.ranges.number, line_is g (goal.at-After-write g c).After-nth_line-line, c.deref_mut.ensures.value, c.deref_mut-2.ensures.value) at raw

numbers_kept : (g : Over) (c : After-write g) → (with_items c.self.inside.numbers c.write.new.numbers).items ≡ c.write.new.numbers
numbers_kept g c = with_items_is c.self.inside.numbers c.write.new.numbers (c.write.ensures.slot_count ∙ c.deref_mut.ensures.len)

nodes_kept : (g : Over) (c : After-write g) → (with_items c.self.inside.nodes c.write.new.nodes).items ≡ c.write.new.nodes
nodes_kept g c = with_items_is c.self.inside.nodes c.write.new.nodes (c.write.ensures.node_count ∙ c.deref_mut-2.ensures.len)

pub invariant_of-self : goal.invariant_of-self
invariant_of-self g c =
    let here = goal.at.invariant_of-self g c in
    let done = here.After-write in
    let new = is_written g done in
    rw (numbers_kept g done, nodes_kept g done) (record {
      trees = written_trees _ _ _ _ _ _ _ _ c.args.place c.args.number c.self.invariant.trees (is_inside g here.After-self) new;
      slot_room = rw new.slot_count c.self.invariant.slot_room;
      node_room = rw new.node_count c.self.invariant.node_room;
    })

pub returns : goal.returns
returns g c =
    let here = goal.at.returns g c in
    let done = here.After-write in
    let all = numbers_kept g done ∙ written_numbers _ _ _ _ _ _ _ _ c.args.place c.args.number c.self.invariant.trees (is_inside g here.After-self) (is_written g done) in
    let made = λ (ns : List ℤ). let t : TreesValue = record { count = c.self.inside.count; step = c.self.inside.step; numbers = ns } in t in
    ap made all ∙ ap (λ (t : TreesValue). with_number t c.args.place c.args.number) c.self.view_is
