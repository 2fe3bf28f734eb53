use Rattle.std.{proofs.Common.{◌≡◌, ◌∙◌, ◌-◌, ◌++◌, ap, get_or, take, drop, arith}, proofs.lemmas.List.{get_or_default, get_or-take, get_or-drop}}
use Rattle.arrays_core.{specs.Building.{listed}, proofs.Building.{listed_more}}
use Rattle.arrays_core.proofs.builder.extend_back.Goals as goal

pub loop-k-preserved : goal.loop-k-preserved
loop-k-preserved g c =
    let from = c.args.from.now in
    let first = c.min-end.result - c.args.count in
    let back = c.args.count - 1 - c.loop-k.k in
    let item = c.index-part-count.result in
    let there : get_or (take (c.min-end.result - first) (drop first from)) back item ≡ get_or from (c.args.last - c.loop-k.k) item =
    get_or-take (c.min-end.result - first) (drop first from) back item (omega arith) ∙ get_or-drop first from back item ∙ ap (λ n. get_or from n item) (omega arith) in
    record {
      room = omega arith;
      made = λ d. listed_more (λ j. get_or from (c.args.last - j) d) c.args.items.now.items c.loop-k.list.items c.push_reserved.new.self.items c.loop-k.k item
          (c.loop-k.invariant.made d) c.push_reserved.ensures.items (c.index-part-count.is ∙ there ∙ get_or_default from (c.args.last - c.loop-k.k) item d (omega arith));
    }

pub returns : goal.returns
returns g c = λ d. c.loop-k.invariant.made d ∙ ap (λ n. c.args.items.now.items ++ listed n (λ j. get_or c.args.from.now (c.args.last - j) d)) (omega arith)
