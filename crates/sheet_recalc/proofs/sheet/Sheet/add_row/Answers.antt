use Rattle.{apl_expr.specs.Trees.{literal_of}, sheet_recalc.{specs.Changes.{AddRow}, proofs.Asked.{on_ok_map, if_err_map, at_first}}}
use Rattle.sheet_recalc.proofs.sheet.Sheet.add_row.Goals as goal

pub make_change-requires : goal.make_change-requires
make_change-requires c = (AddRow c.args.name (literal_of c.args.literal.now), at_first _ _ _ _ _ c.new.ensures c.in_ok-proposal.ensures.is)

pub returns-clause-ok : goal.returns-clause-ok
returns-clause-ok c = on_ok_map c.make_change.result _ _ (λ all. (all (AddRow c.args.name (literal_of c.args.literal.now)) (at_first _ _ _ _ _ c.new.ensures c.in_ok-proposal.ensures.is)).0) c.make_change.ensures.made

pub returns-clause-cost : goal.returns-clause-cost
returns-clause-cost c = on_ok_map c.make_change.result _ _ (λ all. (all (AddRow c.args.name (literal_of c.args.literal.now)) (at_first _ _ _ _ _ c.new.ensures c.in_ok-proposal.ensures.is)).1) c.make_change.ensures.made

pub returns-clause-ticks : goal.returns-clause-ticks
returns-clause-ticks c = on_ok_map c.make_change.result _ _ (λ all. (all (AddRow c.args.name (literal_of c.args.literal.now)) (at_first _ _ _ _ _ c.new.ensures c.in_ok-proposal.ensures.is)).2) c.make_change.ensures.made

pub returns-clause-refused : goal.returns-clause-refused
returns-clause-refused c = if_err_map c.make_change.result _ _ (λ cause why. why (AddRow c.args.name (literal_of c.args.literal.now)) (at_first _ _ _ _ _ c.new.ensures c.in_ok-proposal.ensures.is)) c.make_change.ensures.refused
