use Rattle.std.{proofs.Common.{◌≡◌, ◌++◌, take}, specs.Prelude.{encode_utf8_all, string_bytes}}
use Rattle.array_text.proofs.characters.CharPrinted.push_line.Given as goal

abbrev pub invariant-loop-character : goal.invariant-loop-character
invariant-loop-character l = string_bytes l.out ≡ string_bytes l.initial.out ++ encode_utf8_all (take l.character-index l.characters)
