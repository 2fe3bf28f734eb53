use Rattle.{std.{proofs.Common.{ap, sym, arith}, specs.Prelude.{length}, proofs.lemmas.Fmt.{decimal_digit}}, array_text.proofs.Numerals.{digits_of_power}}
use Rattle.array_text.proofs.numbers.digits_in.Goals as goal

pub returns-in-Some-clause-value : goal.returns-in-Some-clause-value
returns-in-Some-clause-value c = sym (digits_of_power c.in-Some.power c.args.number c.ranges.number.fits c.in-Some.ensures.power_le c.in-Some.ensures.next_power_gt)

pub returns-in-None-clause-value : goal.returns-in-None-clause-value
returns-in-None-clause-value c = rw c.in-None.ensures.none (sym (ap length (decimal_digit 0 (omega arith))))
