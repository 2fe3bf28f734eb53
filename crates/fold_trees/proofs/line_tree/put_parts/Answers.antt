use Rattle.std.{proofs.Common.{◌≡◌, ◌∙◌, ℕ, suc, ◌+◌, ◌*◌, ◌/◌, ◌^◌, ◌<◌, set, get_or, length, sym, ap, subst, arith, inl, inr, refl}, proofs.lemmas.List.{get_or_default}}
use Rattle.fold_trees.{specs.LineTrees.{numbers_of_block, node_of, block_up}, proofs.LineParts.{climb_start, climb_up}, proofs.LineNodes.{IsStepUp, some_meeting, others_stay, step_up, kept_first, all_kept}, proofs.LineJoins.{level_below, meeting_near, ends_here}, proofs.line_tree.put_parts.Given.{Over}}
use Rattle.fold_trees.proofs.line_tree.put_parts.Goals.{In-loop-width, then-meeting-line, else-meeting-line}
use Rattle.fold_trees.proofs.line_tree.put_parts.Goals as goal

below : (g : Over) (c : In-loop-width g) → c.loop-width.level < length c.args.parts.now
below g c =
    level_below c.loop-width.level (length c.args.parts.now) c.args.line.count (omega (arith, c.loop-width.invariant.wide, c.loop-width-test.true)) c.requires.joined

pub loop-width-init : goal.loop-width-init
loop-width-init g c = record {
  climb = climb_start c.args.place;
  wide = refl;
  up = refl;
  kept = λ x beside joined. kept_first g.P.Part.tells c.args.place c.args.line.count x (node_of g.P.Part.blank c.args.line c.args.nodes.now) beside;
  others = λ p h. refl;
  sized = refl;
}

pub overflow_mul-meeting-in-loop-width : goal.overflow_mul-meeting-in-loop-width
overflow_mul-meeting-in-loop-width g c =
    let near = meeting_near c.args.place c.loop-width.block c.loop-width.width c.loop-width.invariant.climb in
    record { fits = omega (arith, near, c.requires.place, c.requires.few, c.loop-width-test.true) }

pub offset_bounds-parts-level : goal.offset_bounds-parts-level
offset_bounds-parts-level g c = let h = below g (goal.at.offset_bounds-parts-level g c).In-loop-width in omega (arith, h)

pub bounds-parts-level : goal.bounds-parts-level
bounds-parts-level g c = below g (goal.at.bounds-parts-level g c).In-loop-width

pub nth_node-requires-clause-some : goal.nth_node-requires-clause-some
nth_node-requires-clause-some g c = some_meeting c.loop-width.block c.loop-width.width c.loop-width.level c.loop-width.invariant.wide

pub overflow_add-level : goal.overflow_add-level
overflow_add-level g c =
    let few = level_below c.loop-width.level 62 c.args.line.count (omega (arith, c.loop-width.invariant.wide, c.loop-width-test.true)) (omega (arith, c.requires.few)) in
    record { fits = omega (arith, few) }

pub loop-width-preserved : goal.loop-width-preserved
loop-width-preserved g c =
    let blank = g.P.Part.blank in
    let tells = g.P.Part.tells in
    let line = c.args.line in
    let place = c.args.place in
    let block = c.loop-width.block in
    let width = c.loop-width.width in
    let level = c.loop-width.level in
    let nodes = c.loop-width.nodes in
    let after = c.if-meeting-line.nodes in
    let parts = c.args.parts.now in
    let inv = c.loop-width.invariant in
    let inside = below g (goal.at.loop-width-preserved g c).In-loop-width in
    let some = some_meeting block width level inv.wide in
    let s = get_or parts level blank in
    let next : suc level ≡ level + 1 = omega arith in
    let double : 2 * 2 ^ level ≡ 2 ^ suc level = grind arith in
    let wider : 2 * width ≡ 2 ^ suc level = ap (λ (w : ℕ). 2 * w) inv.wide ∙ double in
    let new : IsStepUp line nodes after block width s = elim c.if-meeting-line.branch [
      | then-meeting-line w ↦
          let there = c.requires.nodes.node ((block / 2 * 2 + 1) * width) some w.if-meeting-line.true in
          let read = w.index-parts-level.is ∙ get_or_default parts level w.index-parts-level.result blank inside in
          inl (w.nodes-is ∙ (λ i. set nodes (w.nth_node.ensures i) (read i)), omega (arith, there, inv.sized), w.if-meeting-line.true)
      | else-meeting-line w ↦
          let last = ends_here place block width inv.climb line.count c.requires.place w.if-meeting-line.false in
          inr (w.nodes-is, last.0, last.1)
    ] in
    record {
      climb = climb_up place block width inv.climb;
      wide = wider ∙ ap (λ (k : ℕ). 2 ^ k) next;
      up = ap (λ (b : ℕ). b / 2) inv.up ∙ ap (block_up place) next;
      kept = λ x beside joined.
          let told = subst (tells s) (λ i. numbers_of_block line.count x (sym inv.up i / 2) (sym wider i)) (joined.each level blank inside) in
          step_up blank tells line nodes after x place block width level s inv.climb inv.wide c.requires.apart (inv.kept x beside joined) told new;
      others = others_stay blank line nodes after c.args.nodes.now block width s new some inv.others;
      sized = c.if-meeting-line.auto.nodes ∙ inv.sized;
    }

pub returns-clause-kept : goal.returns-clause-kept
returns-clause-kept g c x beside joined =
    all_kept g.P.Part.tells c.loop-width.width c.args.place c.args.line.count c.loop-width.level x (node_of g.P.Part.blank c.args.line c.loop-width.nodes)
    c.loop-width.invariant.wide c.loop-width-test.false (c.loop-width.invariant.kept x beside joined)
