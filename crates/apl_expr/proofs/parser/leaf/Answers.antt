use Rattle.{std.{proofs.Common.{rules, w64, SFits}, proofs.lemmas.Int.{to_z-of_z}}, apl_expr.specs.Grammar.{one, nums, ref, name}}
use Rattle.apl_expr.proofs.parser.leaf.Goals as goal

pub returns-in-Num : goal.returns-in-Num
returns-in-Num c = λ ts.
    let fits : SFits w64 c.in-Num.number = search rules in
    rw (c.in-Num.is, c.constant.ensures, to_z-of_z w64 c.in-Num.number fits) (nums one)

pub returns-in-Word : goal.returns-in-Word
returns-in-Word c = λ ts. rw (c.in-Word.is, c.name.ensures) (ref name)
