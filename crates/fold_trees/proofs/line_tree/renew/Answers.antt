use Rattle.std.{proofs.Common.{◌∙◌, ◌+◌, ◌*◌, ◌/◌, set, ap, arith, inl, inr, refl, w64, get_or, pos, rules}, proofs.lemmas.Int.{to_z-of_z}}
use Rattle.fold_trees.{specs.LineTrees.{slot_of, node_of}, proofs.LineParts.{climb_start, climb_up, told_place}, proofs.LineNodes.{IsStepUp, some_meeting, others_stay, step_up, kept_first, all_kept, kept_beside}, proofs.line_tree.renew.Goals.{then-joined-eq1, else-joined-eq1}}
use Rattle.fold_trees.proofs.line_tree.renew.Goals as goal

pub loop-width-init : goal.loop-width-init
loop-width-init g c =
    let place = c.args.place in
    let x = slot_of c.args.line c.args.numbers.now in
    let number = to_z-of_z w64 _ (search rules) ∙ ap (λ k. get_or c.args.numbers.now k (pos 0)) c.slot_at.ensures in
    record {
      climb = climb_start place;
      told = told_place g.P.Part.tells c.args.line.count place x c.of-kept.result _ c.requires.place number c.of-kept.ensures;
      kept = kept_first g.P.Part.tells place c.args.line.count x (node_of g.P.Part.blank c.args.line c.args.nodes.now) c.requires.kept;
      others = λ p h. refl;
      sized = refl;
    }

pub widened-wider-requires-clause-kept : goal.widened-wider-requires-clause-kept
widened-wider-requires-clause-kept g c =
    kept_beside g.P.Part.tells c.loop-width.width c.args.place c.loop-width.block c.args.line.count (slot_of c.args.line c.args.numbers.now)
    (node_of g.P.Part.blank c.args.line c.loop-width.nodes) c.loop-width.invariant.climb c.loop-width.invariant.kept

pub loop-width-preserved : goal.loop-width-preserved
loop-width-preserved g c =
    let line = c.args.line in
    let x = slot_of line c.args.numbers.now in
    let block = c.loop-width.block in
    let width = c.loop-width.width in
    let nodes = c.loop-width.nodes in
    let after = c.if-joined-eq1.nodes in
    let inv = c.loop-width.invariant in
    let joined = c.widened-wider.ensures in
    let told = joined.is x (λ i low high. refl) inv.told in
    let meeting = (block / 2 * 2 + 1) * width in
    let some = some_meeting block width inv.climb.level inv.climb.width_is in
    let new : IsStepUp line nodes after block width c.widened-wider.result.0 = elim c.if-joined-eq1.branch [
      | then-joined-eq1 w ↦
          let inside = c.requires.inside.nodes.node meeting some (joined.one w.if-joined-eq1.true) in
          inl (w.nodes-is ∙ ap (λ p. set nodes p c.widened-wider.result.0) w.nth_node.ensures, omega (arith, inside, inv.sized), joined.one w.if-joined-eq1.true)
      | else-joined-eq1 w ↦
          let other = w.if-joined-eq1.false in
          let none = joined.none (omega (arith, other, joined.joins)) in
          inr (w.nodes-is, none.0, none.1)
    ] in
    record {
      climb = climb_up c.args.place block width inv.climb;
      told = told;
      kept = step_up g.P.Part.blank g.P.Part.tells line nodes after x c.args.place block width inv.climb.level c.widened-wider.result.0 inv.climb
          inv.climb.width_is c.requires.inside.slots.apart inv.kept told new;
      others = others_stay g.P.Part.blank line nodes after c.args.nodes.now block width c.widened-wider.result.0 new some inv.others;
      sized = c.if-joined-eq1.auto.nodes ∙ inv.sized;
    }

pub returns-clause-kept : goal.returns-clause-kept
returns-clause-kept g c =
    let inv = c.loop-width.invariant in
    all_kept g.P.Part.tells c.loop-width.width c.args.place c.args.line.count inv.climb.level (slot_of c.args.line c.args.numbers.now) (node_of g.P.Part.blank c.args.line c.loop-width.nodes)
    inv.climb.width_is c.loop-width-test.false inv.kept
