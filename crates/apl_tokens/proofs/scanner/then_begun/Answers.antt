use Rattle.std.{proofs.Common.{◌+◌}, specs.Char.{len_utf8}}
use Rattle.apl_tokens.{specs.Scanner.{ended, begun}, specs.Scanning.{all_spanned, scan_of}, proofs.Turns.{turns_on}}
use Rattle.apl_tokens.proofs.scanner.then_begun.Goals as goal

pub returns-clause-turns : goal.returns-clause-turns
returns-clause-turns c =
    turns_on c.args.text.now (c.args.at + len_utf8 c.args.c) c.begun.result c.begun.new.out.items (all_spanned c.args.out.now.items) (all_spanned c.ended.new.out.items) (ended c.args.at (scan_of c.args.text.now c.args.at c.args.scan)) (begun c.args.at c.args.c)
    c.in_ok-ended.ensures c.begun.ensures.turns
