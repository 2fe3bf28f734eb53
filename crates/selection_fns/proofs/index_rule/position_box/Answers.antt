use Rattle.std.{proofs.Common.{rules, ◌≡◌, ◌∙◌, ◌+◌, ◌-◌, ◌++◌, List, length, take, drop, ap, sym, arith, Some, append_assoc}, proofs.lemmas.List.{length-append, take_all}}
use Rattle.index_region.specs.Boxes.{Interval, whole_of}
use Rattle.selection_fns.{specs.Index.{written_positions}, specs.PositionAxes.{axes_before}, proofs.ResultAxes.{ArePartsLong, axes_within, fits_at_length, parts_long, position_at}, proofs.index_rule.position_box.Goals.{After-whole}}
use Rattle.selection_fns.proofs.index_rule.position_box.Goals as goal

-- the parts of the box are as long as the axes that they are of
parts : (c : After-whole) → ArePartsLong c.args.shape.now c.args.region.now c.axes_before-before.result c.len.result
parts c =
    parts_long c.args.shape.now c.args.region.now c.axes_before-before.result c.len.result (search rules)
    (fits_at_length c.args.positions.now c.args.which _ c.args.region.now c.requires.below c.index-positions-which.is c.requires.fit ∙ sym (search rules))

pub prove-unreachable-requires : goal.prove-unreachable-requires
prove-unreachable-requires c =
    let within = axes_within c.args.written.now c.args.positions.now c.args.which c.index-positions-which.result c.requires.long c.requires.below c.index-positions-which.is in
    let rank : c.len.result ≡ length c.index-positions-which.result.shape = search rules in
    omega (arith, within, rank, c.axes_before-before.ensures.is, c.requires.axes, c.if-prove.true)

pub and_all-requires : goal.and_all-requires
and_all-requires c =
    let front = (λ i. length (c.whole.ensures i ++ c.as_slice.ensures.is i)) ∙ (parts (goal.at.and_all-requires c).After-whole).front in
    omega (arith, length-append c.whole.result c.as_slice.result.now, front, c.requires.few, c.if-prove.false)

pub and_whole-requires : goal.and_whole-requires
and_whole-requires c =
    let known = parts (goal.at.and_whole-requires c).After-whole in
    let after = c.axes_before-before.result + c.len.result in
    let front = ap length c.and_all.ensures ∙ (λ i. length (c.whole.ensures i ++ c.as_slice.ensures.is i)) ∙ known.front in
    omega (arith, front, ap length (take_all (length c.args.shape.now - after) (drop after c.args.shape.now) (omega (arith, known.rest))), known.rest, c.requires.few)

pub returns : goal.returns
returns c =
    let p = c.index-positions-which.result in
    let rank : c.len.result ≡ length p.shape = search rules in
    let after = c.axes_before-before.result + c.len.result in
    let rest = take_all (length c.args.shape.now - after) (drop after c.args.shape.now) (let r = (parts (goal.at.returns c).After-whole).rest in omega (arith, r)) in
    let before = axes_before (written_positions c.args.written.now c.args.positions.now) c.args.which in
    let own : c.axes_before-before.result ≡ 0 + before = c.axes_before-before.ensures.is ∙ (let e : before ≡ 0 + before = omega arith in e) in
    let end : after ≡ 0 + before + length p.shape = omega (arith, own, rank) in
    let made : c.and_whole.result ≡ (whole_of (take c.axes_before-before.result c.args.shape.now) ++ c.args.region.now) ++ whole_of (drop after c.args.shape.now) =
    c.and_whole.ensures ∙ (λ i. (c.and_all.ensures ∙ (λ j. c.whole.ensures j ++ c.as_slice.ensures.is j)) i ++ whole_of (rest i)) in
    ap (λ (r : List Interval). Some r) (made ∙ append_assoc _ c.args.region.now _)
    ∙ (λ i. Some (whole_of (take (own i) c.args.shape.now) ++ (c.args.region.now ++ whole_of (drop (end i) c.args.shape.now))))
    ∙ sym (position_at c.args.written.now c.args.positions.now c.args.which p c.args.shape.now 0 c.args.region.now c.requires.long c.requires.below c.index-positions-which.is)
