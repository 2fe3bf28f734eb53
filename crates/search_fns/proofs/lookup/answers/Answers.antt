use Rattle.{std.{proofs.Common.{◌∙◌, ap, map, length, rules}, specs.Ordering.{int_eq}, specs.List.{position_or_len}}, search_fns.proofs.Lookups.{mapped_more}}
use Rattle.search_fns.proofs.lookup.answers.Goals as goal

pub before-before-requires : goal.before-before-requires
before-before-requires g c = c.loop-item.invariant.finds

pub loop-item-preserved : goal.loop-item-preserved
loop-item-preserved g c = record {
  finds = c.loop-item.invariant.finds;
  found = mapped_more (λ x. g.A.Answer.gives (position_or_len (int_eq (g.T.Key.code x)) (map g.T.Key.code c.args.items.now)) (length c.args.items.now)) c.args.sought.now c.loop-item.item-index c.item-item.result c.loop-item.found.items c.push.new.self.items c.answer.result
      c.loop-item-test.true c.item-item.is c.loop-item.invariant.found (c.answer.ensures ∙ ap (λ n. g.A.Answer.gives n (length c.args.items.now)) c.before-before.ensures.is) (search rules) c.in_ok-push.ensures.items;
}
