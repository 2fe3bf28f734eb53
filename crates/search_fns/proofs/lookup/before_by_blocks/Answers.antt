use Rattle.std.{proofs.Common.{◌≡◌, ◌≤◌, ◌+◌, ◌-◌, ◌∙◌, ap, sym, length, map, take, drop, length-drop, arith}, specs.Ordering.{int_eq}, specs.List.{position_or_len}, proofs.lemmas.List.{take_all}}
use Rattle.search_fns.proofs.Lookups.{block_passed, keys_within}
use Rattle.search_fns.proofs.lookup.before_by_blocks.Goals as goal

pub loop-passed-preserved : goal.loop-passed-preserved
loop-passed-preserved g c =
    let inside : c.loop-passed.passed + 256 ≤ length c.args.items.now = omega arith in
    record {
      inside = inside;
      first = block_passed g.T.Key.code (int_eq (g.T.Key.code c.args.sought)) c.args.items.now c.loop-passed.passed 256 _ inside (omega arith) c.if-not-has_item.ensures c.loop-passed.invariant.first;
    }

rest_is : goal.returns
rest_is g c =
    let rest = drop c.loop-passed.passed c.args.items.now in
    let whole : take (length c.args.items.now - c.loop-passed.passed) rest ≡ rest = take_all _ rest (omega (arith, length-drop c.loop-passed.passed c.args.items.now)) in
    let first : c.before_item.result ≡ position_or_len (int_eq (g.T.Key.code c.args.sought)) (map g.T.Key.code rest) =
    c.before_item.ensures ∙ ap (λ ys. position_or_len (int_eq (g.T.Key.code c.args.sought)) (map g.T.Key.code ys)) whole in
    ap (λ n. c.loop-passed.passed + n) first ∙ sym c.loop-passed.invariant.first

pub returns : goal.returns
returns g c = rest_is g c

pub overflow_add-result : goal.overflow_add-result
overflow_add-result g c =
    let is : c.loop-passed.passed + c.before_item.result ≡ position_or_len (int_eq (g.T.Key.code c.args.sought)) (map g.T.Key.code c.args.items.now) = rest_is g c in
    let within = keys_within g.T.Key.code (int_eq (g.T.Key.code c.args.sought)) c.args.items.now in
    omega arith
