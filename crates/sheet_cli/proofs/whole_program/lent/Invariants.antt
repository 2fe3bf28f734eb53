use Rattle.{std.proofs.Common.{◌≡◌, map, take, string_bytes}, clap.specs.Walk.{texts}}
use Rattle.sheet_cli.proofs.whole_program.lent.Given as goal

abbrev pub invariant-loop-word : goal.invariant-loop-word
invariant-loop-word l = texts l.words.items ≡ map string_bytes (take l.word-index l.all)
