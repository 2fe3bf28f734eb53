use Rattle.{std.proofs.Common.{ap, sym, ◌∙◌, Some}, apl_expr.{specs.Trees.{Tree}, proofs.Rows.{index_made}}}
use Rattle.apl_expr.proofs.parser.index_closed.Goals as goal

pub returns : goal.returns
returns c =
    let whole = c.in_ok-whole.whole in
    ap (λ (e : Tree). Some e) (sym (index_made c.in_ok-operand.operand whole.positions c.args.index.operand c.args.index.positions.items c.args.position (c.in_ok-operand.ensures.ok ∙ c.in_ok-whole.ensures.operand) c.in_ok-whole.ensures.positions))
