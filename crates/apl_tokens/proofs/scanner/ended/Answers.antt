use Rattle.{std.{proofs.lemmas.Str.{is_utf8-from_IsUtf8}, proofs.Common.{subst}}, apl_tokens.specs.Scanning.{IsReading}}
use Rattle.apl_tokens.proofs.scanner.ended.Goals as goal

pub of_letters-requires : goal.of_letters-requires
of_letters-requires c = is_utf8-from_IsUtf8 _ (subst (λ s. IsReading c.args.text.now c.args.at s) c.in-Letters.is c.requires.reading).1
