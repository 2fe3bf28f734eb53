use Rattle.std.{proofs.Common.{◌∙◌, ◌+◌, ◌*◌, ◌++◌, ap, get_or, arith}, proofs.lemmas.List.{get_or_default}}
use Rattle.arrays_core.{specs.Building.{listed}, proofs.Building.{listed_more}}
use Rattle.arrays_core.proofs.builder.extend_steps.Goals as goal

pub loop-k-preserved : goal.loop-k-preserved
loop-k-preserved g c =
    let from = c.args.from.now in
    let k = c.loop-k.k in
    let inside = c.requires k c.loop-k-test.true in
    record {
      room = omega arith;
      made = λ d. listed_more (λ j. get_or from (c.args.first + j * c.args.step) d) c.args.items.now.items c.loop-k.list.items c.push_reserved.new.self.items k c.index-from-first.result
          (c.loop-k.invariant.made d) c.push_reserved.ensures.items (c.index-from-first.is ∙ get_or_default from (c.args.first + k * c.args.step) _ d inside);
    }

pub returns : goal.returns
returns g c =
    λ d. c.loop-k.invariant.made d ∙ ap (λ n. c.args.items.now.items ++ listed n (λ j. get_or c.args.from.now (c.args.first + j * c.args.step) d)) (omega arith)
