use Rattle.std.{proofs.Common.{◌∙◌, ◌+◌, ◌++◌, ap, get_or, arith}, proofs.lemmas.List.{get_or_default}}
use Rattle.arrays_core.{specs.Building.{listed}, proofs.Building.{listed_more}}
use Rattle.arrays_core.proofs.builder.extend_places.Goals as goal

pub loop-k-preserved : goal.loop-k-preserved
loop-k-preserved g c =
    let from = c.args.from.now in
    let k = c.loop-k.k in
    let places = c.args.places.now in
    record {
      room = omega arith;
      made = λ d. listed_more (λ j. get_or from (c.args.first + get_or places j 0) d) c.args.items.now.items c.loop-k.list.items c.push_reserved.new.self.items k c.index-from-first.result
          (c.loop-k.invariant.made d) c.push_reserved.ensures.items
          (c.index-from-first.is ∙ get_or_default from (c.args.first + get_or places k 0) _ d (c.requires k c.loop-k-test.true));
    }

pub returns : goal.returns
returns g c =
    λ d. c.loop-k.invariant.made d ∙ ap (λ n. c.args.items.now.items ++ listed n (λ j. get_or c.args.from.now (c.args.first + get_or c.args.places.now j 0) d)) (omega arith)
