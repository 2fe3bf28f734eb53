use Rattle.{std.{proofs.Common.{◌≡◌, ◌+◌, ◌^◌, ◌<◌, drop}, specs.List.{prefix_len}, specs.Char.{is_ascii_digit}}, apl_tokens.specs.Characters.{decimal_from}}
use Rattle.array_text.proofs.fields.few_digits.Given as goal

abbrev pub invariant-loop-byte : goal.invariant-loop-byte
invariant-loop-byte l = record {
  digits : l.byte-index + prefix_len is_ascii_digit (drop l.byte-index l.bytes) ≡ prefix_len is_ascii_digit l.bytes;
  is : decimal_from l.magnitude (drop l.byte-index l.bytes) ≡ decimal_from 0 l.bytes;
  small : l.magnitude < 10 ^ l.byte-index;
}
