use Rattle.std.{proofs.Common.{◌≡◌, ◌∙◌, ◌<◌, ◌++◌, ◌∷◌, [], ap, sym, length, get_or, take, drop, arith, Ok, Err, pos, to_z, of_z, w64, SFits, rules}, proofs.lemmas.Int.{to_z-of_z}, proofs.Math.Seq.{take-append_seam}}
use Rattle.scan_fns.{specs.declared.recalled_scan.Recalled.{Recalled}, specs.Prefixes.{fold_to}, proofs.LeftScans.{none_yet, one_more, first_error, result_before, results_end}, proofs.RecalledFolds.{next_recalled}}
use Rattle.item_fns.proofs.Errors.{list_error}
use Rattle.scan_fns.proofs.recalled_scan.recalled_folds.Goals as goal

pub loop-place-init : goal.loop-place-init
loop-place-init g c =
    let made = c.in_ok-results.ensures in
    record {
      so_far = none_yet (fold_to (g.S.TwoNumbers.gives c.args.step.now) c.args.lines.now.numbers.now c.args.lines.now.stride c.args.lines.now.count) c.args.lines.now.numbers.now c.in_ok-results.results made.items made.len
          (omega (arith, c.room_of.ensures.low, made.capacity));
      long = c.in_ok-recalled.ensures.len;
      room = omega (arith, c.in_ok-recalled.ensures.capacity);
      recalled = λ place h. absurd (let none = ap length c.in_ok-recalled.ensures.items in omega (arith, h, none));
    }

pub recalled_fold-requires-clause-results : goal.recalled_fold-requires-clause-results
recalled_fold-requires-clause-results g c place h =
    let rule = fold_to (g.S.TwoNumbers.gives c.args.step.now) c.args.lines.now.numbers.now c.args.lines.now.stride c.args.lines.now.count in
    let so_far = c.loop-place.invariant.so_far in
    let below : place < c.loop-place.place = omega (arith, h, c.deref.ensures.len, so_far.long) in
    result_before rule c.args.lines.now.numbers.now c.loop-place.place c.loop-place.results.items so_far.made (omega arith) place below
    ∙ ap (λ xs. Ok (get_or xs place (pos 0))) (sym c.deref.ensures.value)

pub returns-in_err-result-clause-is : goal.returns-in_err-result-clause-is
returns-in_err-result-clause-is g c =
    let rule = fold_to (g.S.TwoNumbers.gives c.args.step.now) c.args.lines.now.numbers.now c.args.lines.now.stride c.args.lines.now.count in
    let so_far = c.loop-place.invariant.so_far in
    let given : rule c.loop-place.place ≡ Err c.in_err-result.field-0.0 = sym (ap rule (omega (arith, c.deref.ensures.len, so_far.long))) ∙ sym c.in_err-result.ensures.is in
    list_error _ c.in_err-result.field-0.0 _ (first_error _ _ _ _ so_far (omega arith) (search rules) c.in_err-result.field-0.0 given) c.from_residual-in_err-result.ensures

pub loop-place-preserved : goal.loop-place-preserved
loop-place-preserved g c =
    let f = g.S.TwoNumbers.gives c.args.step.now in
    let zs = c.args.lines.now.numbers.now in
    let k = c.loop-place.place in
    let s = c.args.lines.now.stride in
    let n = c.args.lines.now.count in
    let rule = fold_to f zs s n in
    let before = c.loop-place.invariant in
    let fit : SFits w64 (get_or zs k (pos 0)) = search rules in
    let z = c.in_ok-result.result in
    let given : rule k ≡ Ok z = sym (ap rule (omega (arith, c.deref.ensures.len, before.so_far.long))) ∙ sym c.in_ok-result.ensures.is in
    let kept = c.recalled_fold.new.recalled in
    let long : length kept ≡ k = omega (arith, c.recalled_fold.ensures.long, c.deref_mut.ensures.len, before.long) in
    let entry : Recalled = record { number = to_z w64 (of_z w64 (get_or zs k (pos 0))); later = k } in
    let front : take c.loop-place.recalled.len (kept ++ drop (length kept) c.loop-place.recalled.items) ≡ kept =
    ap (λ m. take m (kept ++ drop (length kept) c.loop-place.recalled.items)) (omega (arith, long, before.long)) ∙ take-append_seam kept _ in
    let more : c.push_reserved-in-loop-place.new.self.items ≡ kept ++ entry ∷ [] = c.push_reserved-in-loop-place.ensures.items ∙ ap (λ ws. ws ++ entry ∷ []) front in
    record {
      so_far = one_more _ _ _ _ before.so_far (omega arith) fit z c.push_reserved.new.self given (search rules) c.push_reserved.ensures.items c.push_reserved.ensures.len
          (omega (arith, c.push_reserved.ensures.capacity));
      long = omega (arith, c.push_reserved-in-loop-place.ensures.len, before.long);
      room = omega (arith, c.push_reserved-in-loop-place.ensures.capacity, before.room);
      recalled = next_recalled f zs s n c.args.lines.now.apart c.args.lines.now.some kept c.push_reserved-in-loop-place.new.self.items entry c.recalled_fold.ensures.recalled
          ((to_z-of_z w64 _ fit) ∙ ap (λ i. get_or zs i (pos 0)) (sym long)) (sym long) more;
    }

pub returns-clause-is : goal.returns-clause-is
returns-clause-is g c = results_end _ _ _ _ c.loop-place.invariant.so_far (omega (arith, c.loop-place-test.false))
