use Rattle.{std.proofs.Common.{ap}, apl_expr.specs.Trees.{tree_of}}
use Rattle.formula_core.{specs.declared.kept.Kept.{Kept}, specs.Holdings.{nodes_of, holding}, proofs.Rooted.{rooted_node, rooted_literal, rooted_name, nodes_pushed, none_worked_out, new_pushed}}
use Rattle.formula_core.specs.declared.table.Node.TheVariants as node
use Rattle.formula_core.proofs.formula.lower_whole.Goals as goal

pub returns-in-Node-clause-table : goal.returns-in-Node-clause-table
returns-in-Node-clause-table c =
    rooted_node c.lower.new.names.items (nodes_of c.lower.new.nodes.items) (tree_of c.args.tree.now) c.in-Node.field-0
    (rw (c.requires.names, c.requires.nodes, c.in-Node.is) at c.in_ok-lower.ensures.lowered)

pub returns-in_ok-push-in-Name-clause-table : goal.returns-in_ok-push-in-Name-clause-table
returns-in_ok-push-in-Name-clause-table c =
    rooted_name c.lower.new.names.items (nodes_of c.lower.new.nodes.items) (nodes_of c.push.new.self.items) (tree_of c.args.tree.now) c.in-Name.place
    (rw (c.requires.names, c.requires.nodes, c.in-Name.is) at c.in_ok-lower.ensures.lowered)
    (nodes_pushed c.lower.new.nodes.items c.push.new.self.items c.new.result (node.Name c.in-Name.place) c.in_ok-push-in-Name.ensures.items (ap (λ (k : Kept). k.node) c.new.ensures))

pub returns-in_ok-push-in-Literal-clause-table : goal.returns-in_ok-push-in-Literal-clause-table
returns-in_ok-push-in-Literal-clause-table c =
    rooted_literal c.lower.new.names.items (nodes_of c.lower.new.nodes.items) (nodes_of c.push-in-Literal.new.self.items) (tree_of c.args.tree.now) c.in-Literal.constant
    (rw (c.requires.names, c.requires.nodes, c.in-Literal.is) at c.in_ok-lower.ensures.lowered)
    (nodes_pushed c.lower.new.nodes.items c.push-in-Literal.new.self.items c.new-in-Literal.result (node.Constant c.in-Literal.constant) c.in_ok-push-in-Literal.ensures.items (ap (λ (k : Kept). k.node) c.new-in-Literal.ensures))

pub returns-in-Node-clause-anew : goal.returns-in-Node-clause-anew
returns-in-Node-clause-anew c = c.in_ok-lower.ensures.anew (none_worked_out c.args.nodes.now.items c.requires.nodes)

pub returns-in_ok-push-in-Name-clause-anew : goal.returns-in_ok-push-in-Name-clause-anew
returns-in_ok-push-in-Name-clause-anew c =
    new_pushed c.lower.new.nodes.items c.push.new.self.items c.new.result c.in_ok-push-in-Name.ensures.items (ap holding c.new.ensures) (c.in_ok-lower.ensures.anew (none_worked_out c.args.nodes.now.items c.requires.nodes))

pub returns-in_ok-push-in-Literal-clause-anew : goal.returns-in_ok-push-in-Literal-clause-anew
returns-in_ok-push-in-Literal-clause-anew c =
    new_pushed c.lower.new.nodes.items c.push-in-Literal.new.self.items c.new-in-Literal.result c.in_ok-push-in-Literal.ensures.items (ap holding c.new-in-Literal.ensures) (c.in_ok-lower.ensures.anew (none_worked_out c.args.nodes.now.items c.requires.nodes))
