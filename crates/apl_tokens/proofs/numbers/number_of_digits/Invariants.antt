use Rattle.{std.proofs.Common.{◌≡◌, drop}, apl_tokens.specs.Characters.{decimal_from}}
use Rattle.apl_tokens.proofs.numbers.number_of_digits.Given as goal

abbrev pub invariant-loop-digit : goal.invariant-loop-digit
invariant-loop-digit l = decimal_from l.magnitude (drop l.digit-index l.digits) ≡ decimal_from 0 l.digits
