use Rattle.std.{proofs.Common.{◌-◌, ◌∙◌, ap, sym, map, cond, Some, w64, arith, rules}, specs.Ordering.{int_eq}, specs.HashMap.{get}, proofs.lemmas.Cmp.{int_eq_equiv}, proofs.lemmas.Int.{to_z-of_z}, proofs.lemmas.List.{length-map}}
use Rattle.search_fns.proofs.Lookups.{key_at, one_more_first}
use Rattle.search_fns.proofs.lookup.first_place_map.Goals as goal

pub loop-before-preserved : goal.loop-before-preserved
loop-before-preserved g c =
    let long = length-map c.args.items.now g.T.Key.code in
    let x = g.T.Key.code c.index-items-before.result in
    one_more_first int_eq_equiv (map g.T.Key.code c.args.items.now) x (c.loop-before.before - 1) c.loop-before.before
    (get int_eq c.loop-before.places) (get int_eq c.insert.new.self) (omega arith) (omega arith) (sym (key_at g.T.Key.code c.args.items.now (c.loop-before.before - 1) c.index-items-before.result x (omega arith) c.index-items-before.is))
    c.loop-before.invariant
    (λ q. c.in_ok-insert.ensures.updates.0 q ∙ ap (λ z. cond (int_eq z q) (Some (c.loop-before.before - 1)) (get int_eq c.loop-before.places q)) (to_z-of_z w64 _ (search rules) ∙ c.key.ensures))
