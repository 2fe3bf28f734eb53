use Rattle.{std.proofs.Common.{◌≡◌, ℕ, ◌<◌, length, get_or, pos, drop}, arrays_core.specs.Shapes.{index_after}, search_fns.proofs.DecodedRows.{IsOnTheWay}}
use Rattle.search_fns.proofs.decode.add_rows.Given as goal

abbrev pub invariant-loop-before : goal.invariant-loop-before
invariant-loop-before l = record {
  long : length l.numbers.items ≡ l.width;
  spare : length l.spare.items ≡ l.width;
  made : (place : ℕ) → place < l.width → IsOnTheWay l.radices l.array (index_after (drop 1 l.array.shape) place) l.count l.before (get_or l.numbers.items place (pos 0));
}
