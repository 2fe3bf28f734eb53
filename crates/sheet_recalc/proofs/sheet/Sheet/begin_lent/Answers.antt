use Rattle.{std.proofs.Common.{arith}, sheet_recalc.{specs.History.{change_of}, proofs.Asked.{if_ok_map, if_err_map, of_name}}}
use Rattle.sheet_recalc.proofs.sheet.Sheet.begin_lent.Goals as goal

pub propose-requires : goal.propose-requires
propose-requires c = (change_of c.args.change.now, of_name _ _ _ _ _ c.name_of.ensures c.in_ok-proposal.ensures.is)

pub returns-clause-ok : goal.returns-clause-ok
returns-clause-ok c = if_ok_map c.propose.result _ _ (λ pending all. (all (change_of c.args.change.now) (of_name _ _ _ _ _ c.name_of.ensures c.in_ok-proposal.ensures.is)).0) c.propose.ensures.ok

pub returns-clause-steps : goal.returns-clause-steps
returns-clause-steps c = if_ok_map c.propose.result _ _ (λ pending all. (all (change_of c.args.change.now) (of_name _ _ _ _ _ c.name_of.ensures c.in_ok-proposal.ensures.is)).1) c.propose.ensures.ok

pub returns-clause-ticks : goal.returns-clause-ticks
returns-clause-ticks c = if_ok_map c.propose.result _ _ (λ pending is. omega (arith, is, c.in_ok-proposal.ensures.is.spent_is)) c.propose.ensures.ticks

pub returns-clause-refused : goal.returns-clause-refused
returns-clause-refused c = if_err_map c.propose.result _ _ (λ cause why. why (change_of c.args.change.now) (of_name _ _ _ _ _ c.name_of.ensures c.in_ok-proposal.ensures.is)) c.propose.ensures.refused
