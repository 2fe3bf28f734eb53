use Rattle.std.{proofs.Common.{◌≡◌, ◌∙◌, ◌<◌, ◌+◌, ◌-◌, ◌*◌, ap, sym, get_or, length, drop, take, pos, arith, Ok, to_z, of_z, w64, rules}, proofs.lemmas.List.{get_or-take, get_or-drop, length-take, length-drop}, proofs.lemmas.Int.{to_z-of_z}}
use Rattle.item_fns.specs.Numbers.{dyadic_on_numbers}
use Rattle.operator_fns.proofs.{Meetings.{folded_last, one_more}, ProductSums.{row_high, in_rows, row_entry}}
use Rattle.operator_fns.proofs.row_folds.fold_columns.Goals as goal

pub loop-place-init : goal.loop-place-init
loop-place-init c =
    let f = dyadic_on_numbers c.args.fold in
    let g = dyadic_on_numbers c.args.each in
    let row = c.args.row.now in
    let rows = c.args.rows.now in
    let s = length c.args.folds.now in
    let n = length row in
    let p = (n - 1) * s in
    let part = take (length rows - p) (drop p rows) in
    let made : c.copy_from_slice.new.self ≡ c.meet.new.buffers.met.items = c.copy_from_slice.ensures.after ∙ c.as_slice.ensures.value in
    let number : to_z w64 (of_z w64 (get_or row (n - 1) (pos 0))) ≡ get_or row (n - 1) (pos 0) = to_z-of_z w64 _ (search rules) in
    record {
      long = c.copy_from_slice.ensures.len;
      folded = λ column below.
          let high : column + p < n * s = in_rows column s (n - 1) n below (omega (arith, c.requires.some)) in
          let entry : get_or part column (pos 0) ≡ get_or rows (column + p) (pos 0) =
          get_or-take (length rows - p) (drop p rows) column (pos 0) (omega (arith, c.requires.whole)) ∙ get_or-drop p rows column (pos 0) ∙ ap (λ i. get_or rows i (pos 0)) (omega arith) in
          let inside : column < length part = omega (arith, length-take (length rows - p) (drop p rows), length-drop p rows, c.requires.whole) in
          folded_last f (λ k. g (get_or row k (pos 0)) (get_or rows (column + k * s) (pos 0))) n (get_or c.copy_from_slice.new.self column (pos 0)) c.requires.some
          (ap (g (get_or row (n - 1) (pos 0))) (sym entry) ∙ (rw number at (c.in_ok-meet.ensures.each column inside)) ∙ ap (λ xs. Ok (get_or xs column (pos 0))) (sym made));
      below = omega (arith, c.requires.some);
    }

pub loop-place-preserved : goal.loop-place-preserved
loop-place-preserved c =
    let f = dyadic_on_numbers c.args.fold in
    let g = dyadic_on_numbers c.args.each in
    let row = c.args.row.now in
    let rows = c.args.rows.now in
    let s = length c.args.folds.now in
    let n = length row in
    let k = c.loop-place.place - 1 in
    let part = take (k * s + s - k * s) (drop (k * s) rows) in
    let met = c.meet-in-loop-place.new.buffers.met.items in
    let folds = c.loop-place.folds in
    let high = row_high k s n (omega (arith, c.loop-place.invariant.below)) in
    let long : length part ≡ s = length-take (k * s + s - k * s) (drop (k * s) rows) ∙ omega (arith, length-drop (k * s) rows, c.requires.whole) in
    let number : to_z w64 (of_z w64 (get_or row k (pos 0))) ≡ get_or row k (pos 0) = to_z-of_z w64 _ (search rules) in
    let upper : c.as_slice-in-loop-place.result.now ≡ met = c.as_slice-in-loop-place.ensures.value in
    let as_many : length c.as_slice-in-loop-place.result.now ≡ s = ap length upper ∙ c.in_ok-meet-2.ensures.long ∙ long in
    record {
      long = c.in_ok-put_row_over.ensures.long ∙ c.loop-place.invariant.long;
      folded = λ column below.
          one_more f (λ k. g (get_or row k (pos 0)) (get_or rows (column + k * s) (pos 0))) n c.loop-place.place (get_or folds column (pos 0)) (omega arith) (omega (arith, c.loop-place.invariant.below))
          (c.loop-place.invariant.folded column below) (get_or met column (pos 0)) (get_or c.put_row_over.new.below column (pos 0))
          (ap (g (get_or row k (pos 0))) (sym (row_entry rows (pos 0) s k column below)) ∙ (rw number at (c.in_ok-meet-2.ensures.each column (omega arith))))
          (ap (λ xs. f (get_or xs column (pos 0)) (get_or folds column (pos 0))) (sym upper) ∙ c.in_ok-put_row_over.ensures.is.each column (omega arith));
      below = omega (arith, c.loop-place.invariant.below);
    }
