use Rattle.std.proofs.Common.{◌≡◌, ◌+◌, ◌*◌, length}
use Rattle.scan_fns.{specs.LinearScan.{depth}, specs.Prefixes.{fold_to}, specs.RecalledScan.{given_at, AreRecalled}}
use Rattle.scan_fns.proofs.recalled_scan.recalled_fold.Given as goal

abbrev pub invariant-loop : goal.invariant-loop
invariant-loop g l = record {
  back : l.here + l.counter * l.stride ≡ l.place;
  deep : depth l.stride l.count l.here + l.counter ≡ depth l.stride l.count l.place;
  still : given_at (g.S.TwoNumbers.gives l.step) l.numbers l.stride l.count l.here l.number ≡ fold_to (g.S.TwoNumbers.gives l.step) l.numbers l.stride l.count l.place;
  long : length l.recalled ≡ length l.results;
  recalled : AreRecalled (g.S.TwoNumbers.gives l.step) l.numbers l.stride l.count l.recalled;
}
