use Rattle.std.{proofs.Common.{◌∙◌, ap, ◌+ℤ◌, ◌-ℤ◌, w64}, proofs.lemmas.Int.{wrapping_add_is, wrapping_sub_is}, specs.Int.{int_wrap}}
use Rattle.scan_fns.proofs.NearTotals.{wrap_added, wrap_taken}
use Rattle.scan_fns.proofs.near_totals.with_number.Goals as goal

pub returns-then-is_added : goal.returns-then-is_added
returns-then-is_added c = rw c.if-is_added.true (λ t e.
    wrapping_add_is w64 c.args.total c.args.number c.ranges.total c.ranges.number ∙ ap (λ s. int_wrap w64 (s +ℤ c.args.number)) e ∙ wrap_added t c.args.number)

pub returns-else-is_added : goal.returns-else-is_added
returns-else-is_added c = rw c.if-is_added.false (λ t e.
    wrapping_sub_is w64 c.args.total c.args.number c.ranges.total c.ranges.number ∙ ap (λ s. int_wrap w64 (s -ℤ c.args.number)) e ∙ wrap_taken t c.args.number)
