use Rattle.{std.proofs.Common.{◌≡◌, ◌+◌, length, vec_capacity}, apl_tokens.specs.Reading.{GoesOn}}
use Rattle.apl_tokens.proofs.row_edit.more_numbers.Given as goal

abbrev pub invariant-loop : goal.invariant-loop
invariant-loop l = (length l.numbers.items ≡ length l.initial.numbers.items + l.counter) × (vec_capacity l.numbers ≡ vec_capacity l.initial.numbers) × GoesOn l.fn.text l.initial.numbers.items l.rest l.numbers.items
