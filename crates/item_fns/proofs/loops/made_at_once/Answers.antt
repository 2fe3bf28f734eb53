use Rattle.std.{proofs.Common.{◌≡◌, ◌∙◌, ◌+◌, ◌<◌, ap, sym, length, get_or, map, arith, Ok, w64, rules}, specs.List.{range_with_len}, proofs.lemmas.Int.{to_z-of_z}, proofs.lemmas.List.{take_all}}
use Rattle.std.proofs.lemmas.List.FromFn.{length-map-range_with_len, get_or-map-range_with_len}
use Rattle.arrays_core.{specs.Items.{all_or_first_error}, proofs.Order.{front_more}}
use Rattle.item_fns.proofs.Doubts.{none_left, none_right}
use Rattle.item_fns.proofs.loops.made_at_once.Goals as goal

pub loop-place-preserved : goal.loop-place-preserved
loop-place-preserved g c =
    let number = g.P.AtPlaces.number c.args.function.now in
    let k = c.loop-place.place in
    let rs = map number (range_with_len 0 c.args.count) in
    let long : length rs ≡ c.args.count = length-map-range_with_len number 0 c.args.count in
    let z = c.step-result.result.0 in
    let old = c.loop-place.doubt in
    let new = c.step-result.result.1 in
    let below : k < length rs = omega arith in
    let entry : get_or rs k (Ok z) ≡ number k = get_or-map-range_with_len number 0 c.args.count k k (Ok z) (omega arith) (omega arith) in
    let items = rw (to_z-of_z w64 z (search rules)) at c.push_reserved.ensures.items in
    record {
      made = λ h. rw items (front_more rs k c.loop-place.results.items z below (entry ∙ c.step-result.ensures (none_right old new h)) (c.loop-place.invariant.made (none_left old new h)));
      long = c.push_reserved.ensures.len ∙ ap (λ n. n + 1) c.loop-place.invariant.long;
      room = omega (arith, c.push_reserved.ensures.capacity, c.loop-place.invariant.room);
    }

pub returns-then-doubt-eq0-clause-is : goal.returns-then-doubt-eq0-clause-is
returns-then-doubt-eq0-clause-is g c =
    let number = g.P.AtPlaces.number c.args.function.now in
    let rs = map number (range_with_len 0 c.args.count) in
    let long : length rs ≡ c.args.count = length-map-range_with_len number 0 c.args.count in
    ap all_or_first_error (sym (take_all c.loop-place.place rs (omega arith))) ∙ c.loop-place.invariant.made c.if-doubt-eq0.true
