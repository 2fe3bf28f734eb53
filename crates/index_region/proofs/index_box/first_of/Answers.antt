use Rattle.{std.{proofs.Common.{◌∙◌, ap, map, arith, sym}, proofs.lemmas.List.{take_all}}, index_region.proofs.OnePlace.{walk_first}}
use Rattle.index_region.proofs.index_box.first_of.Goals as goal

pub returns : goal.returns
returns c =
    let all = take_all c.loop-first.first-index c.args.intervals.now (omega (arith, c.loop-first-test.false)) in
    c.loop-first.invariant ∙ ap (λ region. map (λ s. s.0) region) all ∙ sym (walk_first c.args.intervals.now)
