use Rattle.{std.proofs.Common.{◌+◌, ◌∙◌, ap, sym}, array_text.proofs.Numerals.{number_text-minus, number_text-plus}}
use Rattle.array_text.proofs.numbers.width_of.Goals as goal

pub returns-then-number-lt0-clause-value : goal.returns-then-number-lt0-clause-value
returns-then-number-lt0-clause-value c = ap (λ n. n + 1) c.digits_in-digits.ensures.value ∙ sym (number_text-minus c.args.number _ c.ranges.number c.unsigned_abs.ensures.value c.if-number-lt0.true).1

pub returns-else-number-lt0-clause-value : goal.returns-else-number-lt0-clause-value
returns-else-number-lt0-clause-value c = c.digits_in-digits.ensures.value ∙ sym (number_text-plus c.args.number _ c.ranges.number c.unsigned_abs.ensures.value c.if-number-lt0.false).1
