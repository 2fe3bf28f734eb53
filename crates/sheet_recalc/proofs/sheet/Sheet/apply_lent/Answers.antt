use Rattle.sheet_recalc.{specs.History.{change_of}, proofs.Asked.{on_ok_map, if_err_map, of_name}}
use Rattle.sheet_recalc.proofs.sheet.Sheet.apply_lent.Goals as goal

pub make_change-requires : goal.make_change-requires
make_change-requires c = (change_of c.args.change.now, of_name _ _ _ _ _ c.name_of.ensures c.in_ok-proposal.ensures.is)

pub returns-clause-ok : goal.returns-clause-ok
returns-clause-ok c = on_ok_map c.make_change.result _ _ (λ all. (all (change_of c.args.change.now) (of_name _ _ _ _ _ c.name_of.ensures c.in_ok-proposal.ensures.is)).0) c.make_change.ensures.made

pub returns-clause-cost : goal.returns-clause-cost
returns-clause-cost c = on_ok_map c.make_change.result _ _ (λ all. (all (change_of c.args.change.now) (of_name _ _ _ _ _ c.name_of.ensures c.in_ok-proposal.ensures.is)).1) c.make_change.ensures.made

pub returns-clause-ticks : goal.returns-clause-ticks
returns-clause-ticks c = on_ok_map c.make_change.result _ _ (λ all. (all (change_of c.args.change.now) (of_name _ _ _ _ _ c.name_of.ensures c.in_ok-proposal.ensures.is)).2) c.make_change.ensures.made

pub returns-clause-refused : goal.returns-clause-refused
returns-clause-refused c = if_err_map c.make_change.result _ _ (λ cause why. why (change_of c.args.change.now) (of_name _ _ _ _ _ c.name_of.ensures c.in_ok-proposal.ensures.is)) c.make_change.ensures.refused
