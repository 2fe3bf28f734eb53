use Rattle.{std.proofs.Common.{◌≡◌, ◌≤◌, unsigned_abs, IfSome, length}, scan_fns.specs.ResidueScan.{IsBeside, from, rank, extent_at}}
use Rattle.scan_fns.proofs.residue_scan.SidedLines.residue_from.Given as goal

abbrev pub invariant-loop-found : goal.invariant-loop-found
invariant-loop-found l = record {
  same : from l.self.numbers.now l.self.stride l.self.count l.fn.start l.fn.number ≡ from l.self.numbers.now l.self.stride l.self.count l.found l.rest;
  beside : IsBeside l.self.numbers.now l.rest;
  before : rank l.found ≤ length l.divisors;
  within : IfSome l.found (λ place. extent_at l.self.numbers.now place ≤ unsigned_abs l.rest);
}

abbrev pub decreases-loop-found : goal.decreases-loop-found
decreases-loop-found l = rank l.found
