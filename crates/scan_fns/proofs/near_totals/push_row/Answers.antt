use Rattle.std.{proofs.Common.{◌≡◌, ◌∙◌, ◌+◌, ◌-◌, ◌/◌, ◌%◌, ◌<◌, ap, sym, length, get_or, arith, Ok, pos, to_z, of_z, w64, SFits, rules, below_more}, specs.Int.{int_wrap}, proofs.lemmas.Int.{to_z-of_z}}
use Rattle.item_fns.proofs.Doubts.{none_left, none_right}
use Rattle.scan_fns.{specs.LinearScan.{depth}, proofs.LeftScans.{one_more}, proofs.Runs.{past_stride}, proofs.NearTotals.{total_to, next_result, result_is, row_depth}, proofs.near_totals.push_row.Goals.{In-loop-place}}
use Rattle.scan_fns.proofs.near_totals.push_row.Goals as goal

deep : (c : In-loop-place) → depth c.args.stride c.args.count c.loop-place.place ≡ c.len-first.result / c.args.stride % c.args.count
deep c =
    let begins : c.len-first.result % c.args.stride ≡ 0 = ap (λ n. n % c.args.stride) c.len-first.ensures ∙ c.requires.begins in
    let near : c.loop-place.place < c.len-first.result + c.args.stride = omega (arith, c.loop-place-test.true, c.min.ensures) in
    row_depth c.args.stride c.args.count c.loop-place.place c.len-first.result begins c.loop-place.auto.place near

pub total_before-before-requires-clause-enough : goal.total_before-before-requires-clause-enough
total_before-before-requires-clause-enough c = λ h.
    past_stride c.args.stride c.args.count c.requires.apart c.requires.some c.loop-place.place
    (omega (arith, deep (goal.at.total_before-before-requires-clause-enough c).In-loop-place, h))

pub loop-place-preserved : goal.loop-place-preserved
loop-place-preserved c =
    let row = deep (goal.at.loop-place-preserved c).In-loop-place in
    let zs = c.args.numbers.now in
    let s = c.args.stride in
    let n = c.args.count in
    let k = c.loop-place.place in
    let z = c.with_number.result in
    let before = c.total_before-before.result in
    let below : k < length zs = omega (arith, c.loop-place-test.true, c.min.ensures, c.len-first.ensures) in
    let fit : SFits w64 (get_or zs k (pos 0)) = search rules in
    let read = to_z-of_z w64 (get_or zs k (pos 0)) fit in
    let same : to_z w64 (of_z w64 before) ≡ before = to_z-of_z w64 before (search rules) in
    let is : z ≡ int_wrap w64 (total_to c.args.turned zs s n k) =
    next_result c.args.turned zs s n c.requires.apart c.requires.some k _ row before z c.total_before-before.ensures.first
    (λ h.
    let far = past_stride s n c.requires.apart c.requires.some k (omega (arith, row, h)) in
    (rw c.deref.ensures.value at (c.total_before-before.ensures.later h))
    ∙ result_is c.args.turned zs s n k (k - s) c.loop-place.results.items c.loop-place.invariant.so_far.made (omega (arith, far, c.requires.apart)) (omega (arith, below)))
    (rw (read, same) at c.with_number.ensures) in
    record {
      so_far = one_more _ _ _ _ c.loop-place.invariant.so_far below fit z c.push_reserved.new.self (ap Ok (sym is)) (search rules)
          c.push_reserved.ensures.items c.push_reserved.ensures.len (omega (arith, c.push_reserved.ensures.capacity));
      near = λ h. below_more _ _ (c.loop-place.invariant.near (none_left _ _ h)) (λ low. rw read at c.beyond-doubt.ensures (none_right _ _ h));
    }

pub returns-clause-near : goal.returns-clause-near
returns-clause-near c = λ h k below low.
    c.loop-place.invariant.near h k (omega (arith, below, c.loop-place-test.false, c.min.ensures, c.len-first.ensures)) (omega (arith, low, c.len-first.ensures))
