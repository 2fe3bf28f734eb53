use Rattle.std.{proofs.Common.{◌≡◌, ◌∙◌, ◌+◌, ◌-◌, ◌%◌, ◌<◌, ap, sym, w64, of_z, to_z, arith}, proofs.lemmas.Int.{of_z-to_z}}
use Rattle.item_fns.proofs.Differences.{with_pair}
use Rattle.item_fns.proofs.at_once.with_difference.Goals as goal

pub returns : goal.returns
returns c = λ n few h i j.
    let apart = (of_z w64 c.args.a + (18446744073709551616 - of_z w64 c.args.b)) % 18446744073709551616 in
    let small : apart < 18446744073709551616 = omega arith in
    let same : of_z w64 (to_z w64 apart) ≡ apart = of_z-to_z w64 apart small in
    ap (λ m. to_z w64 ((of_z w64 c.args.total + m) % 18446744073709551616)) (sym same)
    ∙ with_pair n c.args.total c.args.a c.args.b few h i j c.ranges.a c.ranges.b
