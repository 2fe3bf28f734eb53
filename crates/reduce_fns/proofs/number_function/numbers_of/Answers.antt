use Rattle.std.{proofs.Common.{◌≡◌, ◌∙◌, ◌+◌, ◌++◌, ◌∷◌, [], ap, sym, length, map, arith, Ok, Err, w64, SFits, rules}, specs.List.{range_with_len}, proofs.lemmas.List.{take_all}, proofs.lemmas.List.FromFn.{length-map-range_with_len, get_or-map-range_with_len}, proofs.lemmas.Int.{to_z-of_z}}
use Rattle.{arrays_core.{specs.Items.{all_or_first_error}, proofs.Order.{front_more, front_error}}, item_fns.proofs.Errors.{list_error}}
use Rattle.reduce_fns.proofs.number_function.numbers_of.Goals as goal

pub loop-place-preserved : goal.loop-place-preserved
loop-place-preserved g c =
    let f = g.F.NumberFunction.number c.args.function.now in
    let n = c.args.places in
    let z = c.in_ok-number.number in
    let rs = map f (range_with_len 0 n) in
    let long : length rs ≡ n = length-map-range_with_len f 0 n in
    let fits : SFits w64 z = search rules in
    let here = get_or-map-range_with_len f 0 n c.loop-place.place c.loop-place.place (Ok z) (omega arith) (omega arith) ∙ sym c.in_ok-number.ensures in
    let items : c.push.new.self.items ≡ c.loop-place.numbers.items ++ z ∷ [] = rw (to_z-of_z w64 _ fits) at c.in_ok-push.ensures.items in
    record {
      made = rw items (front_more rs c.loop-place.place c.loop-place.numbers.items z (omega arith) here c.loop-place.invariant.made);
      long = c.in_ok-push.ensures.len ∙ ap (λ n. n + 1) c.loop-place.invariant.long;
    }

pub returns-in_err-number-clause-is : goal.returns-in_err-number-clause-is
returns-in_err-number-clause-is g c =
    let f = g.F.NumberFunction.number c.args.function.now in
    let n = c.args.places in
    let rs = map f (range_with_len 0 n) in
    let e = c.in_err-number.field-0.0 in
    let long : length rs ≡ n = length-map-range_with_len f 0 n in
    let here = get_or-map-range_with_len f 0 n c.loop-place.place c.loop-place.place (Err e) (omega arith) (omega arith) ∙ sym c.in_err-number.ensures in
    list_error _ e _ (front_error rs c.loop-place.place c.loop-place.numbers.items e (omega arith) here c.loop-place.invariant.made)
    c.from_residual-in_err-number.ensures

pub returns-clause-is : goal.returns-clause-is
returns-clause-is g c =
    let rs = map (g.F.NumberFunction.number c.args.function.now) (range_with_len 0 c.args.places) in
    let long : length rs ≡ c.args.places = length-map-range_with_len (g.F.NumberFunction.number c.args.function.now) 0 c.args.places in
    ap all_or_first_error (sym (take_all c.loop-place.place rs (omega arith))) ∙ c.loop-place.invariant.made
