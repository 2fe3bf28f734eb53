use Rattle.{std.proofs.Common.{◌≡◌, ◌≤◌, length, vec_len, vec_capacity}, function_names.specs.declared.scalar.Scalar2.TheVariants.{Residue as ByResidue}}
use Rattle.{item_fns.specs.Numbers.{dyadic_on_numbers}, scan_fns.{specs.LinearScan.{AreResultsTo}, specs.Prefixes.{fold_to}, specs.ResidueScan.{AreDivisors}}}
use Rattle.scan_fns.proofs.residue_scan.SidedLines.residues.Given as goal

abbrev pub invariant-loop-place : goal.invariant-loop-place
invariant-loop-place l = record {
  so_far : AreResultsTo l.place (fold_to (dyadic_on_numbers ByResidue) l.self.numbers.now l.self.stride l.self.count) l.self.numbers.now l.results;
  long : vec_len l.divisors ≡ l.place;
  room : length l.self.numbers.now ≤ vec_capacity l.divisors;
  divisors : AreDivisors l.self.numbers.now l.self.stride l.self.count l.divisors.items;
}
