use Rattle.std.{proofs.Common.{◌≡◌, ◌∙◌, ◌+◌, ◌*◌, ◌++◌, ℤ, List, length, sym, ap, arith}, proofs.lemmas.List.{with_items_is}}
use Rattle.fold_trees.{specs.ArrayLines.{TreesValue, NewPlacesValue}, specs.LineTrees.{nodes_in_line}, proofs.LongerTrees.{all_long, held_nodes, kept_without, longer_trees, nodes_long}, proofs.part_trees.PartTrees.lengthen.Given.{Over}, proofs.part_trees.PartTrees.lengthen.Goals.{After-more, After-deref_mut}}
use Rattle.fold_trees.proofs.part_trees.PartTrees.lengthen.Goals as goal

-- ---- the new numbers are one more place of each line, and the memory is for the longer lines

same_count : (g : Over) (c : After-more g) → c.more.inside.count ≡ c.self.inside.count
same_count g c = ap (λ (n : NewPlacesValue). n.count) c.more.view_is ∙ c.requires.count ∙ sym (ap (λ (t : TreesValue). t.count) c.self.view_is)

wide : (g : Over) (c : After-more g) → length c.more.inside.numbers.items ≡ c.self.inside.step
wide g c = ap (λ (n : NewPlacesValue). length n.numbers) c.more.view_is ∙ c.requires.step ∙ sym (ap (λ (t : TreesValue). t.step) c.self.view_is)

between : (g : Over) (c : After-more g) → length c.self.inside.numbers.items ≡ c.self.inside.count * c.self.inside.step
between g c = ap (λ (t : TreesValue). length t.numbers) c.self.view_is ∙ c.requires.between ∙ sym (ap (λ (t : TreesValue). t.count * t.step) c.self.view_is)

held : (g : Over) (c : After-more g) → length c.self.inside.nodes.items ≡ nodes_in_line c.self.inside.count * c.self.inside.step
held g c =
    held_nodes g.P.Part.blank g.P.Part.tells c.self.inside.count c.self.inside.step c.self.inside.numbers.items c.self.inside.nodes.items c.self.invariant.trees (between g c)

old_nodes : (g : Over) (c : After-more g) → nodes_in_line c.more.inside.count * length c.more.inside.numbers.items ≡ length c.self.inside.nodes.items
old_nodes g c = (λ i. nodes_in_line (same_count g c i) * wide g c i) ∙ sym (held g c)

nodes_in_all : (g : Over) (c : After-more g)
    → c.more.inside.count * length c.more.inside.numbers.items ≡ length c.self.inside.nodes.items + length c.more.inside.more_nodes.items
nodes_in_all g c =
    let step = c.self.inside.step in
    let before = nodes_in_line c.self.inside.count in
    let sum : (before + 1) * step ≡ before * step + step = grind arith in
    let all : c.self.inside.count * step ≡ before * step + step = ap (λ n. n * step) (omega (arith, c.self.invariant.trees.lines.some)) ∙ sum in
    (λ i. same_count g c i * wide g c i) ∙ omega (arith, all, held g c, wide g c, c.more.invariant.more_nodes)

pub put_behind-requires-2-clause-room : goal.put_behind-requires-2-clause-room
put_behind-requires-2-clause-room g c =
    let before = (goal.at.put_behind-requires-2-clause-room g c).After-more in
    rw (← nodes_in_all g before, ← old_nodes g before) c.more.invariant.node_room

-- ---- the lists with the new numbers and nodes

numbers_are : (g : Over) (c : After-deref_mut g) → c.deref.result.now ≡ c.self.inside.numbers.items ++ c.more.inside.numbers.items
numbers_are g c = c.deref.ensures.value ∙ c.put_behind.ensures.items

nodes_are : (g : Over) (c : After-deref_mut g) → c.deref_mut.result.now ≡ c.self.inside.nodes.items ++ c.more.inside.more_nodes.items
nodes_are g c = c.deref_mut.ensures.value ∙ c.put_behind-2.ensures.items

numbers_long : (g : Over) (c : After-deref_mut g) → length c.deref.result.now ≡ (c.self.inside.count + 1) * c.self.inside.step
numbers_long g c =
    let before = (goal.at-After-deref_mut g c).After-more in
    ap (λ (l : List ℤ). length l) (numbers_are g c)
    ∙ all_long c.self.inside.count c.self.inside.step c.self.inside.numbers.items c.more.inside.numbers.items (between g before) (wide g before)

nodes_count : (g : Over) (c : After-deref_mut g) → length c.deref_mut.result.now ≡ nodes_in_line (c.self.inside.count + 1) * c.self.inside.step
nodes_count g c =
    let before = (goal.at-After-deref_mut g c).After-more in
    ap (λ (l : List g.row.P.Denot). length l) (nodes_are g c)
    ∙ nodes_long g.P.Part.blank g.P.Part.tells c.self.inside.count c.self.inside.step c.self.inside.numbers.items c.more.inside.numbers.items c.self.inside.nodes.items
    c.more.inside.more_nodes.items c.self.invariant.trees (between g before) (wide g before) c.more.invariant.more_nodes

pub take_places-requires-clause-node_count : goal.take_places-requires-clause-node_count
take_places-requires-clause-node_count g c = nodes_count g c

pub take_places-requires-clause-kept : goal.take_places-requires-clause-kept
take_places-requires-clause-kept g c line h =
    rw (numbers_are g c, nodes_are g c) (kept_without _ _ _ _ _ _ _ _ c.self.invariant.trees (between g ((goal.at.take_places-requires-clause-kept g c).After-more)) line h)

-- ---- after all lines have their new numbers

pub invariant_of-self : goal.invariant_of-self
invariant_of-self g c =
    let before = (goal.at.invariant_of-self g c).After-deref_mut in
    let told = c.take_places.ensures in
    let trees = longer_trees g.P.Part.blank g.P.Part.tells (c.self.inside.count + 1) c.self.inside.step c.deref.result.now c.take_places.new.nodes (omega arith)
    c.self.invariant.trees.lines.apart (numbers_long g before) (told.node_length ∙ nodes_count g before) told.kept in
    rw (with_items_is c.put_behind-2.new.items c.take_places.new.nodes (told.node_length ∙ c.deref_mut.ensures.len)) (record {
      trees = rw c.deref.ensures.value at trees;
      slot_room = c.put_behind.ensures.room;
      node_room = rw (told.node_length ∙ ap (λ (l : List g.row.P.Denot). length l) c.deref_mut.ensures.value) c.put_behind-2.ensures.room;
    })
