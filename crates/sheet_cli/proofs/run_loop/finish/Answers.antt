use Rattle.sheet_cli.{proofs.Devices.{Appends-keeps}, proofs.RunLemmas.{StopsAtEnd-flush, OnErr-from, OnOk-from}}
use Rattle.sheet_cli.proofs.run_loop.finish.Goals as goal

pub returns-clause-ok : goal.returns-clause-ok
returns-clause-ok g c = let a = c.in_ok-answer_last.ensures.ok in OnOk-from c.flush.result (a.0, Appends-keeps _ _ _ _ a.1 c.flush.ensures.bytes, a.2)

pub returns-clause-err : goal.returns-clause-err
returns-clause-err g c = let a = c.in_ok-answer_last.ensures.ok in OnErr-from c.flush.result (a.0, Appends-keeps _ _ _ _ a.1 c.flush.ensures.bytes, StopsAtEnd-flush _ _ _ _ a.2)
