use Rattle.std.{proofs.Common.{◌≡◌, ◌∙◌, false, true, length, replicate, ap, sym, arith, rules}, specs.Prelude.{if◌then◌else◌}, proofs.lemmas.Bool.Decides.{nat_tests}, proofs.lemmas.List.{length-replicate}}
use Rattle.index_region.specs.Arguments.{is_scalar}
use Rattle.structural_fns.proofs.axis_counts.check_axis_counts.Goals.{else-rank-gt0-via-then-rank-gt0+else-places-rank, else-rank-gt0-via-else-rank-gt0}
use Rattle.structural_fns.proofs.axis_counts.check_axis_counts.Goals as goal

pub returns-clause-long : goal.returns-clause-long
returns-clause-long c =
    let b = c.args.array.now in
    let rank : c.len-rank.result ≡ length b.shape = search rules in
    elim c.else-rank-gt0.branch [
      | else-rank-gt0-via-then-rank-gt0+else-places-rank w ↦
          let some : is_scalar b ≡ false = grind (arith, nat_tests) in
          let long : length c.args.counts.now.items ≡ length b.shape = omega (arith, rank, w.places.ensures.is, w.if-places-rank.false) in
          long ∙ sym (ap (λ t. length (if t then replicate (length c.args.counts.now.items) 1 else b.shape)) some)
      | else-rank-gt0-via-else-rank-gt0 w ↦
          let none : is_scalar b ≡ true = grind (arith, nat_tests) in
          sym (ap (λ t. length (if t then replicate (length c.args.counts.now.items) 1 else b.shape)) none ∙ length-replicate (length c.args.counts.now.items) 1)
    ]
