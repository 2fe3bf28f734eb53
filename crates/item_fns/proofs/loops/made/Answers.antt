use Rattle.std.{proofs.Common.{◌≡◌, ◌∙◌, ◌+◌, ap, sym, length, map, arith, Ok, Err, w64, rules}, specs.List.{range_with_len}, proofs.lemmas.Int.{to_z-of_z}, proofs.lemmas.List.{take_all}}
use Rattle.std.proofs.lemmas.List.FromFn.{length-map-range_with_len, get_or-map-range_with_len}
use Rattle.arrays_core.{specs.Items.{all_or_first_error}, proofs.Order.{front_more, front_error}}
use Rattle.item_fns.proofs.Errors.{list_error}
use Rattle.item_fns.proofs.loops.made.Goals as goal

pub loop-place-preserved : goal.loop-place-preserved
loop-place-preserved g c =
    let number = g.P.AtPlaces.number c.args.function.now in
    let k = c.loop-place.place in
    let rs = map number (range_with_len 0 c.args.count) in
    let long : length rs ≡ c.args.count = length-map-range_with_len number 0 c.args.count in
    let z = c.in_ok-result.result in
    let here = get_or-map-range_with_len number 0 c.args.count k k (Ok z) (omega arith) (omega arith) ∙ sym c.in_ok-result.ensures in
    let items = rw (to_z-of_z w64 z (search rules)) at c.push_reserved.ensures.items in
    record {
      made = rw items (front_more rs k _ z (omega arith) here c.loop-place.invariant.made);
      long = c.push_reserved.ensures.len ∙ ap (λ n. n + 1) c.loop-place.invariant.long;
      room = omega (arith, c.push_reserved.ensures.capacity, c.loop-place.invariant.room);
    }

pub returns-in_err-result-clause-is : goal.returns-in_err-result-clause-is
returns-in_err-result-clause-is g c =
    let number = g.P.AtPlaces.number c.args.function.now in
    let k = c.loop-place.place in
    let rs = map number (range_with_len 0 c.args.count) in
    let long : length rs ≡ c.args.count = length-map-range_with_len number 0 c.args.count in
    let e = c.in_err-result.field-0.0 in
    let here = get_or-map-range_with_len number 0 c.args.count k k (Err e) (omega arith) (omega arith) ∙ sym c.in_err-result.ensures in
    list_error _ e _ (front_error rs k _ e (omega arith) here c.loop-place.invariant.made) c.from_residual-in_err-result.ensures

pub returns-clause-is : goal.returns-clause-is
returns-clause-is g c =
    let number = g.P.AtPlaces.number c.args.function.now in
    let rs = map number (range_with_len 0 c.args.count) in
    let long : length rs ≡ c.args.count = length-map-range_with_len number 0 c.args.count in
    ap all_or_first_error (sym (take_all c.loop-place.place rs (omega arith))) ∙ c.loop-place.invariant.made
