use Rattle.{std.{proofs.Common.{◌≡◌, ◌∙◌, length, drop, sym, subst}, proofs.lemmas.List.{take_at}}, fold_trees.specs.LineBlocks.{AreAllKept}}
use Rattle.fold_trees.proofs.part_trees.nodes_of_blocks.Goals as goal

pub returns-clause-kept : goal.returns-clause-kept
returns-clause-kept g c =
    let long : length c.fill_all.new.nodes ≡ c.in_ok-nodes.nodes.len = c.fill_all.ensures.length ∙ c.deref_mut.ensures.len in
    subst (λ ns. AreAllKept g.P.Part.blank g.P.Part.tells c.args.count c.args.step c.args.numbers.now ns)
    (sym (take_at c.fill_all.new.nodes (drop (length c.fill_all.new.nodes) c.in_ok-nodes.nodes.items) c.in_ok-nodes.nodes.len long)) c.fill_all.ensures.kept
