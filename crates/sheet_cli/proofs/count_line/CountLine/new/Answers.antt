use Rattle.std.{proofs.Common.{rules}, proofs.lemmas.Fmt.{length-decimal-le}}
use Rattle.sheet_cli.proofs.count_line.CountLine.new.Goals as goal

pub write_digits-start-requires : goal.write_digits-start-requires
write_digits-start-requires c = search (rules, length-decimal-le 20)
