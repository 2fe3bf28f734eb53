use Rattle.std.{proofs.Common.{◌≡◌, ◌∙◌, ◌+◌, ◌-◌, ◌%◌, ◌<◌, ap, sym, length, get_or, arith, Ok, pos, to_z, w64, SFits, rules, below_more}, specs.Int.{int_wrap}, proofs.lemmas.Int.{to_z-of_z}}
use Rattle.item_fns.proofs.Doubts.{none_left, none_right}
use Rattle.scan_fns.{proofs.LeftScans.{one_more}, proofs.NearTotals.{total_to, next_result}, proofs.Prefixes.{beside_depth}}
use Rattle.scan_fns.proofs.near_totals.push_line.Goals as goal

pub loop-place-preserved : goal.loop-place-preserved
loop-place-preserved c =
    let zs = c.args.numbers.now in
    let n = c.args.count in
    let k = c.loop-place.place in
    let first = c.len-first.result in
    let z = c.with_number-total.result in
    let below : k < length zs = omega (arith, c.loop-place-test.true, c.min.ensures, c.len-first.ensures) in
    let fit : SFits w64 (get_or zs k (pos 0)) = search rules in
    let read = to_z-of_z w64 (get_or zs k (pos 0)) fit in
    let begins : first % n ≡ 0 = ap (λ m. m % n) c.len-first.ensures ∙ c.requires.begins in
    let near : k < first + n = omega (arith, c.loop-place-test.true, c.min.ensures) in
    let row = beside_depth n k first c.requires.some begins c.loop-place.auto.place near in
    let is : z ≡ int_wrap w64 (total_to c.args.turned zs 1 n k) =
    next_result c.args.turned zs 1 n (omega arith) c.requires.some k (k - first) row (to_z w64 c.loop-place.total-bits) z
    (λ e. c.loop-place.invariant.fresh (omega (arith, c.loop-place.auto.place))) (λ h. c.loop-place.invariant.last (omega arith))
    (rw read at c.with_number-total.ensures) in
    record {
      so_far = one_more _ _ _ _ c.loop-place.invariant.so_far below fit z c.push_reserved.new.self (ap Ok (sym is)) (search rules)
          c.push_reserved.ensures.items c.push_reserved.ensures.len (omega (arith, c.push_reserved.ensures.capacity));
      fresh = λ h. absurd (let low = c.loop-place.auto.place in omega arith);
      last = λ h. to_z-of_z w64 _ (search rules) ∙ is ∙ ap (λ j. int_wrap w64 (total_to c.args.turned zs 1 n j)) (omega arith);
      near = λ h. below_more _ _ (c.loop-place.invariant.near (none_left _ _ h)) (λ low. rw read at c.beyond-doubt.ensures (none_right _ _ h));
    }

pub returns-clause-near : goal.returns-clause-near
returns-clause-near c = λ h k below low.
    c.loop-place.invariant.near h k (omega (arith, below, c.loop-place-test.false, c.min.ensures, c.len-first.ensures)) (omega (arith, low, c.len-first.ensures))
