use Rattle.std.proofs.Common.{◌≡◌, map, take, string_bytes}
use Rattle.cli_tests.proofs.known_host.ShelfHost.words.Given as goal

abbrev pub invariant-loop-word : goal.invariant-loop-word
invariant-loop-word l = map string_bytes l.all.items ≡ map (λ word. word.now) (take l.word-index l.self.words.now)
