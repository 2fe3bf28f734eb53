use Rattle.{std.{proofs.Common.{◌≡◌, ◌++◌, take}, specs.Prelude.{string_bytes}, specs.List.{join_by}}, array_text.specs.Text.{number_text, between_numbers}}
use Rattle.array_text.proofs.numbers.I64Printed.push_line.Given as goal

abbrev pub invariant-loop-earlier : goal.invariant-loop-earlier
invariant-loop-earlier l = string_bytes l.out ≡ string_bytes l.initial.out ++ join_by number_text between_numbers (take l.earlier l.numbers)
