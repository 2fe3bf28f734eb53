use Rattle.{std.proofs.Common.{◌<◌, get_or, pos, ℕ}, scan_fns.specs.Prefixes.{IsUnit}}
use Rattle.scan_fns.proofs.unit_products.are_units.Given as goal

abbrev pub invariant-loop-number : goal.invariant-loop-number
invariant-loop-number l = l.bits < 2 → (k : ℕ) → k < l.number-index → IsUnit (get_or l.numbers k (pos 0))
