use Rattle.std.{proofs.Common.{sym, subst, arith}, specs.Str.{IsUtf8}, proofs.lemmas.Str.{IsUtf8-encode}}
use Rattle.apl_tokens.proofs.scanner.begun.Goals as goal

pub returns-then-is_letter-clause-reading : goal.returns-then-is_letter-clause-reading
returns-then-is_letter-clause-reading c = (omega arith, subst IsUtf8 (sym c.requires.stands) (IsUtf8-encode c.args.c c.ranges.c.0))
