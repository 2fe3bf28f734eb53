use Rattle.std.{proofs.Common.{◌≡◌, ◌+◌, drop}, specs.List.{prefix_len}, specs.Char.{is_ascii_digit}}
use Rattle.array_text.proofs.fields.digits_at.Given as goal

abbrev pub invariant-loop-offset : goal.invariant-loop-offset
invariant-loop-offset l = l.offset + prefix_len is_ascii_digit (drop l.offset l.bytes) ≡ prefix_len is_ascii_digit l.bytes
