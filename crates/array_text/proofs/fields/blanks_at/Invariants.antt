use Rattle.{std.{proofs.Common.{◌≡◌, ◌+◌, drop}, specs.List.{prefix_len}}, apl_tokens.specs.Characters.{is_blank}}
use Rattle.array_text.proofs.fields.blanks_at.Given as goal

abbrev pub invariant-loop-offset : goal.invariant-loop-offset
invariant-loop-offset l = l.offset + prefix_len is_blank (drop l.offset l.bytes) ≡ prefix_len is_blank l.bytes
