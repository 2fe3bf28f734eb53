use Rattle.{std.proofs.Common.{◌≡◌, ◌∙◌, ◌+◌, ◌-◌, ◌%◌, ◌*◌, ◌<◌, max, length, drop, sym, ap, subst, arith}, arrays_core.specs.Shapes.{size}}
use Rattle.sum_rules.{specs.LineSums.{line_length}, proofs.Lines.{some_step}, proofs.MoreLines.{whole_below}, proofs.MorePlaces.{few_with_place}}
use Rattle.sum_rules.proofs.new_lines.growth_of.Goals as goal

pub build-requires-clause-few : goal.build-requires-clause-few
build-requires-clause-few c =
    let shape = c.args.shape.now in
    let first : c.line_length-count.result ≡ line_length 0 shape = c.line_length-count.ensures ∙ ap (λ k. line_length k shape) c.if-axis-eq0.true in
    let old : c.max-old.result ≡ max 1 (line_length 0 shape - 1) = omega (arith, c.max-old.ensures, c.saturating_sub.ensures, first) in
    let few = few_with_place shape c.max-old.result (omega (arith, c.requires.there)) c.requires.some c.requires.within.size_within old in
    let same : (c.max-old.result + 1) * length c.args.numbers.now ≡ (c.max-old.result + 1) * size (drop 1 shape) = ap (λ k. (c.max-old.result + 1) * k) c.requires.one_place in
    omega (arith, few, same)

pub build-requires-2-clause-apart : goal.build-requires-2-clause-apart
build-requires-2-clause-apart c = subst (λ k. 0 < k) (sym c.line_step-step.ensures) (some_step c.args.axis c.args.shape.now c.requires.some)

pub build-requires-2-clause-whole : goal.build-requires-2-clause-whole
build-requires-2-clause-whole c =
    let later : 0 < c.args.axis = omega (arith, c.if-axis-eq0.false) in
    (λ i. c.requires.one_place i % (c.line_length-count.ensures i * c.line_step-step.ensures i)) ∙ whole_below c.args.axis c.args.shape.now later c.requires.there
