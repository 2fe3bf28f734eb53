use Rattle.std.{proofs.Common.{◌≡◌, ◌∙◌, ap, sym, length, get_or, arith, Ok, pos, w64, SFits, rules}, proofs.lemmas.Int.{to_z-of_z}}
use Rattle.{function_names.specs.declared.scalar.Scalar2.TheVariants.{Residue as ByResidue}, item_fns.specs.Numbers.{dyadic_on_numbers}}
use Rattle.scan_fns.{specs.Prefixes.{fold_to}, specs.ResidueScan.{from, IsDivisor}, proofs.LeftScans.{one_more, results_end}, proofs.RecalledFolds.{own_number}, proofs.Divisors.{at_place, next_divisors}}
use Rattle.scan_fns.proofs.residue_scan.SidedLines.residues.Goals as goal

pub loop-place-preserved : goal.loop-place-preserved
loop-place-preserved c =
    let lines = c.args.self.now in
    let f = dyadic_on_numbers ByResidue in
    let zs = lines.numbers.now in
    let s = lines.stride in
    let n = lines.count in
    let k = c.loop-place.place in
    let before = c.loop-place.invariant in
    let fit : SFits w64 (get_or zs k (pos 0)) = search rules in
    let z = c.residue_from-result.result in
    let given : (fold_to f zs s n) k ≡ Ok z =
    sym (own_number f zs s n lines.apart lines.some k) ∙ at_place zs s n lines.apart lines.some k (get_or zs k (pos 0))
    ∙ ap (λ q. from zs s n q (get_or zs k (pos 0))) (sym c.place_before-start.ensures.is) ∙ (rw (to_z-of_z w64 _ fit) at c.residue_from-result.ensures) in
    let held : length c.loop-place.divisors.items ≡ k = omega (arith, c.loop-place.divisors.ok.0, before.long) in
    let next : IsDivisor zs s n (length c.loop-place.divisors.items) c.next_divisor-divisor.result = rw (ap length c.deref-in-loop-place.ensures.value) at c.next_divisor-divisor.ensures in
    record {
      so_far = one_more _ _ _ _ before.so_far (omega (arith, c.loop-place-test.true)) fit z c.push_reserved.new.self given (search rules) c.push_reserved.ensures.items
          c.push_reserved.ensures.len
          (omega (arith, c.push_reserved.ensures.capacity));
      long = omega (arith, c.push_reserved-in-loop-place.ensures.len, before.long);
      room = omega (arith, c.push_reserved-in-loop-place.ensures.capacity, before.room);
      divisors = next_divisors zs s n c.loop-place.divisors.items c.push_reserved-in-loop-place.new.self.items c.next_divisor-divisor.result before.divisors next c.push_reserved-in-loop-place.ensures.items;
    }

pub returns-clause-is : goal.returns-clause-is
returns-clause-is c = results_end _ _ _ _ c.loop-place.invariant.so_far (omega (arith, c.loop-place-test.false))
