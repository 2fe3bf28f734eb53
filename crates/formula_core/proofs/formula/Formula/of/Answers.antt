use Rattle.{std.proofs.Common.{refl}, apl_expr.specs.Trees.{tree_of}}
use Rattle.formula_core.{specs.Holdings.{nodes_of}, proofs.Planned.{made_new}, proofs.Rooted.{new_holdings}}
use Rattle.formula_core.proofs.formula.Formula.of.Goals as goal

pub returns : goal.returns
returns c =
    rw c.in_ok-new.ensures.ok
    (made_new c.lower_whole.new.names.items (nodes_of c.lower_whole.new.nodes.items) c.lower_whole.new.nodes.items (tree_of c.args.tree.now) c.in_ok-lower_whole.ensures.table refl
    (new_holdings c.lower_whole.new.nodes.items c.in_ok-lower_whole.ensures.anew))
