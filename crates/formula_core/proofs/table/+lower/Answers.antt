use Rattle.std.{proofs.Common.{◌∙◌, List, Option, map, take, sym, ap, subst}, specs.Prelude.{IfOk}}
use Rattle.apl_expr.{specs.Trees.{Tree, Index, before_argument, between_arguments, tree_of, position_of, positions_of}, specs.declared.expr.Expr.{Expr}, proofs.Rows.{tree_index}}
use Rattle.formula_core.{specs.Holdings.{nodes_of}, specs.Tables.{IsLowered, ArePositionsLowered}, proofs.Tabled.{lowered_monad, lowered_dyad, lowered_index, as_lowered, pushed_anew, position_more, filled_position, empty_position}}
use Rattle.formula_core.proofs.table.+lower.Goals.{lower_positions-in-Some+in_ok-lower-in-Some, lower_positions-in-None}
use Rattle.formula_core.specs.declared.table.Node.TheVariants as node
use Rattle.formula_core.proofs.table.+lower.Goals as goal

pub lower-returns-in-Const-clause-lowered : goal.lower-returns-in-Const-clause-lowered
lower-returns-in-Const-clause-lowered t c =
    let names = c.args.names.now.items in
    let old = nodes_of c.args.nodes.now.items in
    subst (λ (u : Tree). IfOk c.lower_literal.result (λ o. IsLowered names names old old u o)) (sym (ap tree_of c.in-Const.is)) (c.lower_literal.ensures names old)

pub lower-returns-in-Name-clause-lowered : goal.lower-returns-in-Name-clause-lowered
lower-returns-in-Name-clause-lowered t c =
    let names = c.args.names.now.items in
    let old = nodes_of c.args.nodes.now.items in
    subst (λ (u : Tree). IfOk c.push_name.result (λ o. IsLowered names c.push_name.new.names.items old old u o)) (sym (ap tree_of c.in-Name.is)) (c.push_name.ensures old)

pub lower-returns-in_ok-positions-in-Index-clause-lowered : goal.lower-returns-in_ok-positions-in-Index-clause-lowered
lower-returns-in_ok-positions-in-Index-clause-lowered t c =
    let names = c.args.names.now.items in
    let names' = c.lower.new.names.items in
    let names'' = c.lower_positions.new.names.items in
    let old = nodes_of c.args.nodes.now.items in
    let mid = nodes_of c.lower.new.nodes.items in
    let last = nodes_of c.lower_positions.new.nodes.items in
    let array = c.in_ok-array-in-Index.array in
    let operands = c.in_ok-positions-in-Index.positions in
    let a = tree_of c.in-Index.array.value in
    let ps = map position_of c.in-Index.positions.items in
    let new = nodes_of c.push.new.nodes.items in
    let made = ap tree_of c.in-Index.is ∙ tree_index c.in-Index.array c.in-Index.positions in
    let lowered : ArePositionsLowered names' names'' mid last ps operands.items =
    subst (λ (xs : List (Option Expr)). ArePositionsLowered names' names'' mid last (map position_of xs) operands.items) c.deref-in-Index-2.ensures.value c.in_ok-positions-in-Index.ensures.lowered in
    subst (λ (u : Tree). IfOk c.push.result (λ o. IsLowered names names'' old new u o)) (sym made)
    (as_lowered names names'' old last new (node.Index array operands) (Index a (positions_of ps)) c.push.result c.push.ensures.nodes c.push.ensures.place
    (λ is. lowered_index names names' names'' old mid last new a ps array operands (subst (λ (e : Expr). IsLowered names names' old mid (tree_of e) array) c.deref-in-Index.ensures c.in_ok-array-in-Index.ensures.lowered) lowered is))

pub lower_before-returns-clause-lowered : goal.lower_before-returns-clause-lowered
lower_before-returns-clause-lowered t c =
    let names = c.args.names.now.items in
    let names' = c.lower.new.names.items in
    let old = nodes_of c.args.nodes.now.items in
    let mid = nodes_of c.lower.new.nodes.items in
    let right = c.in_ok-right.right in
    let f = c.args.function in
    let b = tree_of c.args.right.now in
    let new = nodes_of c.push.new.nodes.items in
    as_lowered names names' old mid new (node.Monad f right) (before_argument f b) c.push.result c.push.ensures.nodes c.push.ensures.place
    (λ is. lowered_monad names names' old mid new f b right c.in_ok-right.ensures.lowered is)

pub lower_between-returns-clause-lowered : goal.lower_between-returns-clause-lowered
lower_between-returns-clause-lowered t c =
    let names = c.args.names.now.items in
    let names' = c.lower.new.names.items in
    let names'' = c.lower-2.new.names.items in
    let old = nodes_of c.args.nodes.now.items in
    let mid = nodes_of c.lower.new.nodes.items in
    let last = nodes_of c.lower-2.new.nodes.items in
    let left = c.in_ok-left.left in
    let right = c.in_ok-right.right in
    let f = c.args.function in
    let a = tree_of c.args.sides.now.left in
    let b = tree_of c.args.sides.now.right in
    let new = nodes_of c.push.new.nodes.items in
    as_lowered names names'' old last new (node.Dyad f left right) (between_arguments f a b) c.push.result c.push.ensures.nodes c.push.ensures.place
    (λ is. lowered_dyad names names' names'' old mid last new f a b left right c.in_ok-left.ensures.lowered c.in_ok-right.ensures.lowered is)

pub lower-returns-in_ok-positions-in-Index-clause-anew : goal.lower-returns-in_ok-positions-in-Index-clause-anew
lower-returns-in_ok-positions-in-Index-clause-anew t c = pushed_anew c.push.result _ _ _ (λ h. c.in_ok-positions-in-Index.ensures.anew (c.in_ok-array-in-Index.ensures.anew h)) c.push.ensures.anew

pub lower_before-returns-clause-anew : goal.lower_before-returns-clause-anew
lower_before-returns-clause-anew t c = pushed_anew c.push.result _ _ _ c.in_ok-right.ensures.anew c.push.ensures.anew

pub lower_between-returns-clause-anew : goal.lower_between-returns-clause-anew
lower_between-returns-clause-anew t c = pushed_anew c.push.result _ _ _ (λ h. c.in_ok-right.ensures.anew (c.in_ok-left.ensures.anew h)) c.push.ensures.anew

pub lower_positions-loop-position-preserved : goal.lower_positions-loop-position-preserved
lower_positions-loop-position-preserved t c =
    let names = c.args.names.now.items in
    let old = nodes_of c.args.nodes.now.items in
    let xs = c.args.positions.now in
    let k = c.loop-position.position-index in
    let x = c.position-item.result in
    let os = c.loop-position.operands.items in
    record {
      lowered = position_more names c.match-position.names.items old (nodes_of c.match-position.nodes.items) xs k x os c.push.new.self.items c.match-position.operand c.loop-position-test.true c.position-item.is c.in_ok-push.ensures.items
          (elim c.match-position.branch [
            | lower_positions-in-Some+in_ok-lower-in-Some w ↦ rw (w.names-is, w.nodes-is, w.operand-is, w.in-Some.is)
                (filled_position names c.loop-position.names.items w.lower.new.names.items old (nodes_of c.loop-position.nodes.items) (nodes_of w.lower.new.nodes.items) (map position_of (take k xs)) os (tree_of w.in-Some.tree) w.in_ok-lower-in-Some.field-0
                c.loop-position.invariant.lowered w.in_ok-lower-in-Some.ensures.lowered)
            | lower_positions-in-None w ↦ rw (w.names-is, w.nodes-is, w.operand-is, w.in-None.is)
                (empty_position names c.loop-position.names.items old (nodes_of c.loop-position.nodes.items) (map position_of (take k xs)) os c.loop-position.invariant.lowered)
          ]);
      anew = λ h. elim c.match-position.branch [
        | lower_positions-in-Some+in_ok-lower-in-Some w ↦ rw w.nodes-is (w.in_ok-lower-in-Some.ensures.anew (c.loop-position.invariant.anew h))
        | lower_positions-in-None w ↦ rw w.nodes-is (c.loop-position.invariant.anew h)
      ];
    }
