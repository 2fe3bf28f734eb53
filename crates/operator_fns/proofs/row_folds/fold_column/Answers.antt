use Rattle.std.{proofs.Common.{◌≡◌, ◌∙◌, ◌++◌, ◌+◌, ◌*◌, ap, sym, get_or, length, drop, take, pos, arith, Ok, w64, rules}, proofs.lemmas.List.{take_at}, proofs.lemmas.Int.{to_z-of_z}}
use Rattle.{item_fns.{specs.Numbers.{dyadic_on_numbers}, specs.Folds.{folded}}, operator_fns.proofs.Meetings.{met_folded}}
use Rattle.operator_fns.proofs.row_folds.fold_column.Goals as goal

pub returns : goal.returns
returns c =
    let f = dyadic_on_numbers c.args.fold in
    let g = dyadic_on_numbers c.args.each in
    let row = c.args.row.now in
    let column = c.args.column.now in
    let below = c.put_row_over.new.below in
    let items = c.extend_from_slice.new.self.items in
    let z = c.in_ok-with_function.field-0 in
    let whole : items ≡ column = c.in_ok-extend_from_slice.ensures.items ∙ ap (λ xs. xs ++ column) c.clear.ensures.items in
    let old : c.as_mut_slice.result.now ≡ column = c.as_mut_slice.ensures.value ∙ whole in
    let long : length below ≡ length row = c.in_ok-put_row_over.ensures.long ∙ ap length old ∙ c.requires.long in
    let same : take c.extend_from_slice.new.self.len (below ++ drop (length below) items) ≡ below =
    take_at below (drop (length below) items) c.extend_from_slice.new.self.len (long ∙ sym (c.extend_from_slice.new.self.ok.0 ∙ ap length whole ∙ c.requires.long)) in
    let gave : folded f c.as_slice.result.now ≡ Ok z = sym c.with_function.ensures ∙ c.in_ok-with_function.was in
    rw (to_z-of_z w64 z (search rules))
    (met_folded f (λ k. g (get_or row k (pos 0)) (get_or column (0 + k * 1) (pos 0))) (length row) below (pos 0) long (λ k inside.
    (let place : 0 + k * 1 ≡ k = omega arith in ap (λ j. g (get_or row k (pos 0)) (get_or column j (pos 0))) place)
    ∙ ap (λ xs. g (get_or row k (pos 0)) (get_or xs k (pos 0))) (sym old)
    ∙ c.in_ok-put_row_over.ensures.is.each k inside)
    ∙ ap (folded f) (sym (c.as_slice.ensures.value ∙ same))
    ∙ gave)
