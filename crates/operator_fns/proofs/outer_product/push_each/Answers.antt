use Rattle.std.{proofs.Common.{◌≡◌, ◌∙◌, ◌++◌, ◌∷◌, [], append_assoc, ap, sym, length, get_or, map, arith, Ok, Err, pos, to_z, of_z, w64, rules}, proofs.lemmas.List.{length-map, get_or-map, take_all}, proofs.lemmas.Int.{to_z-of_z}}
use Rattle.{arrays_core.{specs.Items.{all_or_first_error, and_then}, proofs.Order.{front_more, front_error}}, operator_fns.proofs.OuterRows.{RowTo, left_error}}
use Rattle.operator_fns.proofs.outer_product.push_each.Goals as goal

pub returns-in_err-result : goal.returns-in_err-result
returns-in_err-result g c =
    let f = g.S.TwoNumbers.gives c.args.step.now c.args.left in
    let ys = c.args.right.now in
    let k = c.loop-number.number-index in
    let rs = map f ys in
    let long : length rs ≡ length ys = length-map ys f in
    let left : to_z w64 (of_z w64 c.args.left) ≡ c.args.left = to_z-of_z w64 _ c.ranges.left in
    let same : to_z w64 (of_z w64 (get_or ys k (pos 0))) ≡ get_or ys k (pos 0) = to_z-of_z w64 _ (search rules) in
    let e = c.in_err-result.field-0.0 in
    let here = get_or-map f ys k (pos 0) (Err e) c.loop-number-test.true ∙ (rw (same, left) at (sym c.in_err-result.ensures)) in
    let so_far : RowTo c.args.row.now.items rs k c.loop-number.row.items = rw left at c.loop-number.invariant.made in
    left_error _ e _ _ (ap (λ r. and_then r (λ more. Ok (c.args.row.now.items ++ more))) (front_error rs k so_far.new e (omega arith) here so_far.made))
    c.from_residual-in_err-result.ensures

pub loop-number-preserved : goal.loop-number-preserved
loop-number-preserved g c =
    let f = g.S.TwoNumbers.gives c.args.step.now c.args.left in
    let ys = c.args.right.now in
    let k = c.loop-number.number-index in
    let rs = map f ys in
    let long : length rs ≡ length ys = length-map ys f in
    let left : to_z w64 (of_z w64 c.args.left) ≡ c.args.left = to_z-of_z w64 _ c.ranges.left in
    let same : to_z w64 (of_z w64 (get_or ys k (pos 0))) ≡ get_or ys k (pos 0) = to_z-of_z w64 _ (search rules) in
    let z = c.in_ok-result.result in
    let z_same : to_z w64 (of_z w64 z) ≡ z = to_z-of_z w64 _ (search rules) in
    let gave : f (get_or ys k (pos 0)) ≡ Ok z = rw (same, left) at (sym c.in_ok-result.ensures) in
    let so_far : RowTo c.args.row.now.items rs k c.loop-number.row.items = rw left at c.loop-number.invariant.made in
    record {
      made = rw left (record {
        new = so_far.new ++ z ∷ [];
        made = front_more rs k so_far.new z (omega arith) (get_or-map f ys k (pos 0) (Ok z) c.loop-number-test.true ∙ gave) so_far.made;
        is = (rw z_same at c.push_reserved.ensures.items) ∙ ap (λ zs. zs ++ z ∷ []) so_far.is ∙ append_assoc c.args.row.now.items so_far.new (z ∷ []);
      });
      room = omega (arith, c.push_reserved.ensures.len, c.push_reserved.ensures.capacity, c.loop-number.invariant.room);
    }

pub returns : goal.returns
returns g c =
    let f = g.S.TwoNumbers.gives c.args.step.now c.args.left in
    let ys = c.args.right.now in
    let k = c.loop-number.number-index in
    let rs = map f ys in
    let long : length rs ≡ length ys = length-map ys f in
    let so_far : RowTo c.args.row.now.items rs k c.loop-number.row.items = rw (to_z-of_z w64 _ c.ranges.left) at c.loop-number.invariant.made in
    ap (λ r. and_then r (λ more. Ok (c.args.row.now.items ++ more))) (ap all_or_first_error (sym (take_all k rs (omega arith))) ∙ so_far.made)
    ∙ ap Ok (sym so_far.is)
