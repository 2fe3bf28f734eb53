use Rattle.{std.{proofs.Common.{◌<◌, List, length, ap, arith}, proofs.lemmas.List.{length-map}}, apl_tokens.specs.Lexemes.{lexemes}}
use Rattle.apl_expr.proofs.Pairs.{strand_read}
use Rattle.apl_expr.proofs.parser.operand.Goals as goal

pub returns-in-Some-2 : goal.returns-in-Some-2
returns-in-Some-2 c =
    let some : 0 < length c.args.tokens.now = omega (arith, ap (λ (ts : List _). length ts) c.in-Some.ensures.cases.0) in
    let all = rw c.in-Some-2.is at c.in_ok-numbers.ensures in
    rw c.constant.ensures (rw c.literal.ensures.numbers (strand_read (lexemes c.args.tokens.now) c.in-Some-2.numbers.items (simp length-map some) all))
