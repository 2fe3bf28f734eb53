use Rattle.{std.proofs.Common.{◌+◌, ◌≤◌}, scan_fns.specs.ResidueScan.{AreTheSame, rank}}
use Rattle.scan_fns.proofs.residue_scan.SidedLines.nearest.Given as goal

abbrev pub invariant-loop-found : goal.invariant-loop-found
invariant-loop-found l = record {
  same : AreTheSame l.self.numbers.now l.self.stride l.self.count (l.extent + 1) l.fn.start l.found;
  before : rank l.found ≤ rank l.fn.start;
}

abbrev pub decreases-loop-found : goal.decreases-loop-found
decreases-loop-found l = rank l.found
