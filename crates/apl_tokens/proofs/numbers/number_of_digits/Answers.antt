use Rattle.{std.proofs.Common.{arith}, apl_tokens.proofs.Decimals.{too_great}}
use Rattle.apl_tokens.proofs.numbers.number_of_digits.Goals as goal

pub returns-in_err-checked_mul : goal.returns-in_err-checked_mul
returns-in_err-checked_mul c =
    let past = c.in_err-checked_mul.ensures in
    rw c.from_residual.ensures (too_great c.args.is_negative c.loop-digit.magnitude c.args.digits.now c.loop-digit.digit-index (omega arith) (omega (arith, past)) c.loop-digit.invariant)

pub returns-in_err-magnitude : goal.returns-in_err-magnitude
returns-in_err-magnitude c =
    let past = c.in_err-magnitude.ensures in
    let product = c.in_ok-checked_mul.ensures.1 in
    rw c.from_residual-in_err-magnitude.ensures (too_great c.args.is_negative c.loop-digit.magnitude c.args.digits.now c.loop-digit.digit-index (omega arith) (omega (arith, past, product)) c.loop-digit.invariant)
