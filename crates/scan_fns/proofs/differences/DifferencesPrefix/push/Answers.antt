use Rattle.std.{proofs.Common.{◌≡◌, sym, ◌≤ℤ◌, ◌+ℤ◌, ◌-ℤ◌, if◌then◌else◌, arith, to_z, of_z, w64, SFits, rules}, specs.Int.{saturate_signed}, proofs.lemmas.Int.{ints, to_z-of_z}}
use Rattle.{item_fns.proofs.Within.{within_of, held_ok}, scan_fns.proofs.NextDifferences.{next_difference}}
use Rattle.scan_fns.proofs.differences.DifferencesPrefix.push.Goals as goal

pub returns-clause-next : goal.returns-clause-next
returns-clause-next c =
    let s = c.args.self.now in
    let x = c.args.number in
    let z = c.in_ok-total.total in
    let low_fits : SFits w64 s.low = search rules in
    let high_fits : SFits w64 s.high = search rules in
    let x_same : to_z w64 (of_z w64 x) ≡ x = to_z-of_z w64 x (search rules) in
    let low_is : c.saturating_sub.result ≡ saturate_signed w64 (x -ℤ s.high) = rw (x_same, (to_z-of_z w64 s.high high_fits)) at c.saturating_sub.ensures in
    let high_is : c.saturating_sub-2.result ≡ saturate_signed w64 (x -ℤ s.low) = rw (x_same, (to_z-of_z w64 s.low low_fits)) at c.saturating_sub-2.ensures in
    let above : s.low ≤ℤ x = omega (arith, ints, c.if-number-self.false) in
    let below : x ≤ℤ s.high = omega (arith, ints, c.if-number-self-2.false) in
    let is = held_ok (if s.is_added then s.total +ℤ x else s.total -ℤ x) z (sym (rw x_same at c.in_ok-total.ensures)) in
    rw (to_z-of_z w64 z (search rules), to_z-of_z w64 c.saturating_sub.result (search rules), to_z-of_z w64 c.saturating_sub-2.result (search rules), low_is, high_is)
    (record {
      is = λ v fits. next_difference s.total s.low s.high x z v s.is_added (within_of s.low low_fits) (within_of s.high high_fits) above below is.same fits;
    })
