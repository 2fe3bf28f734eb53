use Rattle.{std.proofs.Common.{arith}, array_text.proofs.Decimals.{below_power}}
use Rattle.array_text.proofs.fields.few_digits.Goals as goal

pub overflow_mul-magnitude : goal.overflow_mul-magnitude
overflow_mul-magnitude c = omega (arith, below_power c.loop-byte.magnitude c.loop-byte.byte-index 17 c.loop-byte.invariant.small (omega arith))

pub overflow_add-magnitude : goal.overflow_add-magnitude
overflow_add-magnitude c = omega (arith, below_power c.loop-byte.magnitude c.loop-byte.byte-index 17 c.loop-byte.invariant.small (omega arith))

pub returns-clause-small : goal.returns-clause-small
returns-clause-small c = below_power c.loop-byte.magnitude c.loop-byte.byte-index 18 c.loop-byte.invariant.small (omega arith)
