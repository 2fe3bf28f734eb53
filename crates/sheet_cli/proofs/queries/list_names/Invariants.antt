use Rattle.{std.proofs.Common.{◌≡◌, take, string_bytes}, sheet_cli.specs.Answer.{names_text}}
use Rattle.sheet_cli.proofs.queries.list_names.Given as goal

abbrev pub invariant-loop-name : goal.invariant-loop-name
invariant-loop-name l = string_bytes l.text ≡ names_text (take l.name-index l.name-items)
