use Rattle.search_fns.proofs.DecodedRows.{IsOnTheWay}
use Rattle.search_fns.proofs.decode.decoded_at.Given as goal

abbrev pub invariant-loop-before : goal.invariant-loop-before
invariant-loop-before l = IsOnTheWay l.radices l.array l.index l.count l.before l.value
