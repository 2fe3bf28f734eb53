use Rattle.{std.{proofs.Common.{arith}, proofs.lemmas.Bool.{false≢true}}, sheet_recalc.proofs.Live.{live_empty}}
use Rattle.sheet_recalc.proofs.sheet.Sheet.new.Goals as goal

pub invariant_of-result : goal.invariant_of-result
invariant_of-result c = record { live = live_empty c.new.result.entries c.new-2.result.entries c.new.ensures.empty c.new-2.ensures.empty; few = omega arith; reached = λ is. absurd (false≢true is) }
