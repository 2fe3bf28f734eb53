use Rattle.std.proofs.Common.{◌≡◌, ◌∙◌, ◌+◌, ◌-◌, ◌*◌, ◌/◌, ◌%◌, ◌<◌, min, ap, subst, arith}
use Rattle.fold_trees.{proofs.LineParts.{odd_block, even_block, widen_odd, widen_even, widen_alone}, proofs.Segments.{segment_same}}
use Rattle.fold_trees.proofs.line_tree.LineTree.widened.Goals as goal

pub part-requires-clause-part : goal.part-requires-clause-part
part-requires-clause-part g c =
    let at = odd_block c.args.block c.args.width c.if-block-eq1.true in
    record {
      level = c.requires.level.0;
      place = 2 * (c.args.block / 2);
      width_is = c.requires.level.1;
      from_is = let before : c.args.block * c.args.width - c.args.width ≡ 2 * (c.args.block / 2 * c.args.width) = omega (arith, at.0) in
          before ∙ grind arith ∙ ap (λ w. 2 * (c.args.block / 2) * w) c.requires.level.1;
    }

pub part-requires-clause-kept : goal.part-requires-clause-kept
part-requires-clause-kept g c level place low high =
    let at = odd_block c.args.block c.args.width c.if-block-eq1.true in
    c.requires.kept level place (omega (arith, at.0, at.1, low)) (omega (arith, at.0, at.1, high))

pub returns-then-block-eq1-clause-is : goal.returns-then-block-eq1-clause-is
returns-then-block-eq1-clause-is g c x same told =
    let block = c.args.block in
    let width = c.args.width in
    let at = odd_block block width c.if-block-eq1.true in
    let from = block * width - width in
    let long = min width (c.args.self.now.line.count - from) in
    let alike = segment_same _ x from long (λ i low high. same i (omega (arith, at.0, at.1, low)) (omega (arith, at.0, at.1, high, c.requires.from))) in
    subst (g.P.Part.tells c.join.result) (widen_odd c.args.self.now.line.count x block width c.if-block-eq1.true c.requires.from)
    (c.join.ensures _ _ (subst (g.P.Part.tells c.part.result) alike c.part.ensures) told)

pub returns-then-self-from-clause-is : goal.returns-then-self-from-clause-is
returns-then-self-from-clause-is g c x same told =
    let even : c.args.block % 2 ≡ 0 = omega (arith, c.if-block-eq1.false) in
    subst (g.P.Part.tells c.args.kept.now) (widen_alone c.args.self.now.line.count x c.args.block c.args.width even c.requires.from c.if-self-from.true) told

pub part-requires-2-clause-kept : goal.part-requires-2-clause-kept
part-requires-2-clause-kept g c level place low high =
    let at = even_block c.args.block c.args.width (omega (arith, c.if-block-eq1.false)) in
    c.requires.kept level place (omega (arith, at.0, at.1, low)) (omega (arith, at.0, at.1, high))

pub returns-clause-is : goal.returns-clause-is
returns-clause-is g c x same told =
    let block = c.args.block in
    let width = c.args.width in
    let line = c.args.self.now.line in
    let even : block % 2 ≡ 0 = omega (arith, c.if-block-eq1.false) in
    let at = even_block block width even in
    let below : block * width + width < line.count = omega (arith, c.if-self-from.false) in
    let from = block * width + width in
    let alike = segment_same _ x from (min width (line.count - from)) (λ i low high. same i (omega (arith, at.0, at.1, low)) (omega (arith, at.0, at.1, high, below))) in
    subst (g.P.Part.tells c.join-2.result) (widen_even line.count x block width even below)
    (c.join-2.ensures _ _ told (subst (g.P.Part.tells c.part-2.result) alike c.part-2.ensures))
