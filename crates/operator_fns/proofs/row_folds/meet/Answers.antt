use Rattle.std.{proofs.Common.{◌≡◌, ◌∙◌, ◌++◌, refl, ap, sym, get_or, length, drop, take, pos, arith, to_z, of_z, w64, rules}, proofs.lemmas.List.{take_at}, proofs.lemmas.Int.{to_z-of_z}}
use Rattle.item_fns.specs.Numbers.{dyadic_on_numbers}
use Rattle.operator_fns.proofs.row_folds.meet.Goals as goal

pub returns : goal.returns
returns c =
    let g = dyadic_on_numbers c.args.each in
    let row = c.args.row.now in
    let below = c.put_row_over.new.below in
    let items = c.extend_from_slice.new.self.items in
    let numbers = c.as_slice.result.now in
    let old : c.as_mut_slice.result.now ≡ row = c.as_mut_slice.ensures.value ∙ c.in_ok-extend_from_slice.ensures.items ∙ ap (λ xs. xs ++ row) c.clear-2.ensures.items in
    let long : length below ≡ length row = c.in_ok-put_row_over.ensures.long ∙ ap length old in
    let whole : length items ≡ length row = ap length (c.in_ok-extend_from_slice.ensures.items ∙ ap (λ xs. xs ++ row) c.clear-2.ensures.items) in
    let same : take c.extend_from_slice.new.self.len (below ++ drop (length below) items) ≡ below =
    take_at below (drop (length below) items) c.extend_from_slice.new.self.len (long ∙ sym (c.extend_from_slice.new.self.ok.0 ∙ whole)) in
    let number : to_z w64 (of_z w64 c.args.number) ≡ c.args.number = to_z-of_z w64 _ (search rules) in
    let as_many : length numbers ≡ length row = ap length c.as_slice.ensures.value ∙ sym c.resize.new.self.ok.0 ∙ c.in_ok-resize.ensures.len in
    rw same (record {
      long = long;
      each = λ column inside.
          let here : get_or numbers column (pos 0) ≡ c.args.number = ap (λ xs. get_or xs column (pos 0)) c.as_slice.ensures.value ∙ c.in_ok-resize.ensures.by_index.1 column (pos 0) refl (omega arith) inside ∙ number in
          ap (λ z. g z (get_or row column (pos 0))) (sym here)
          ∙ ap (λ xs. g (get_or numbers column (pos 0)) (get_or xs column (pos 0))) (sym old)
          ∙ c.in_ok-put_row_over.ensures.is.each column (omega arith);
    })
