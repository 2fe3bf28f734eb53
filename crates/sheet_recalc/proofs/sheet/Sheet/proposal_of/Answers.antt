use Rattle.sheet_recalc.proofs.Asked.{if_err_map}
use Rattle.sheet_recalc.proofs.sheet.Sheet.proposal_of.Goals as goal

pub returns-in-Define-clause-refused : goal.returns-in-Define-clause-refused
returns-in-Define-clause-refused c = rw c.in-Define.is (if_err_map c.definition.result _ _ (λ cause why. why c.in-Define.field-0) c.definition.ensures.refused)

pub returns-in-Data-clause-refused : goal.returns-in-Data-clause-refused
returns-in-Data-clause-refused c = rw c.in-Data.is (if_err_map c.stored.result _ _ (λ cause why. why c.in-Data.field-0) c.stored.ensures.refused)
