use Rattle.{std.proofs.Common.{◌≡◌, sym, subst, rules}, arrays_core.specs.Arrays.{ArrayValue}, function_names.specs.declared.along.Along.TheVariants.{Last}}
use Rattle.{index_region.specs.Patches.{PatchValue}, sum_rules.{specs.LineSums.{length_along}, specs.Totals.{AreAllAsLong, all_trees, StoodFor}}}
use Rattle.rule_tests.proofs.TwoLines.{summed_by_lines}
use Rattle.rule_tests.proofs.row_sums_tests.sums_with.Goals as goal

pub refresh_sums-requires-clause-sums : goal.refresh_sums-requires-clause-sums
refresh_sums-requires-clause-sums g c = record {
  changed = λ p is.
      let a = c.args.rows.now in
      let q = c.args.patch.now in
      let copied : c.expect.result ≡ q = search rules in
      let same : q ≡ p = cc in
      let trees = c.args.trees.now in
      let stood = summed_by_lines a trees c.requires.rows c.shape-sound.ensures.sound q c.requires.fits c.requires.long in
      subst (λ (r : PatchValue). AreAllAsLong (length_along Last c.patched.result.shape) trees × StoodFor Last (all_trees (length_along Last c.patched.result.shape) trees) r c.patched.result) same
      (subst (λ (x : ArrayValue). AreAllAsLong (length_along Last x.shape) trees × StoodFor Last (all_trees (length_along Last x.shape) trees) q x) (sym c.patched.ensures) stood);
  grew = λ tail is. absurd (let no : ⊥ = cc in no);
}
