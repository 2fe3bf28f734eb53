use Rattle.std.{proofs.Common.{◌≡◌, ◌∙◌, ◌<◌, ap, sym, get_or, length, arith, pos, unsigned_abs, to_z, of_z, w64, rules}, proofs.lemmas.Int.{to_z-of_z}}
use Rattle.item_fns.specs.Numbers.{residue}
use Rattle.scan_fns.{specs.ResidueScan.{IsBeside, from, no_divisor}, proofs.OneSided.{rest_stays_beside}, proofs.Divisors.{divided}}
use Rattle.scan_fns.proofs.residue_scan.SidedLines.residue_from.Goals as goal

pub loop-found-preserved : goal.loop-found-preserved
loop-found-preserved c =
    let zs = c.args.self.now.numbers.now in
    let s = c.args.self.now.stride in
    let n = c.args.self.now.count in
    let place = c.in-Some.place in
    let x = get_or zs place (pos 0) in
    let w = c.loop-found.rest in
    let before = c.loop-found.invariant in
    let inside : place < length c.args.divisors.now = rw (c.in-Some.is) at before.before in
    let below : place < length zs = omega (arith, inside, c.requires.long) in
    let beside : IsBeside zs w = rw (c.loop-found.rest-is) at before.beside in
    let is : c.residue-rest.result ≡ residue x w = rw (to_z-of_z w64 x (search rules), c.loop-found.rest-is) at c.residue-rest.ensures.is in
    let rest = c.residue-rest.result in
    let out : to_z w64 (of_z w64 rest) ≡ rest = to_z-of_z w64 rest (search rules) in
    let d = get_or c.args.divisors.now place no_divisor in
    let divisor = c.requires.divisors place inside in
    let still = ap (from zs s n c.loop-found.found) c.loop-found.rest-is ∙ ap (λ q. from zs s n q w) c.in-Some.is in
    let goes_on = divided zs s n place d w divisor below beside (search rules) (rw (c.in-Some.is, c.loop-found.rest-is) at before.within) in
    let beside_rest : IsBeside zs rest = rw is (rest_stays_beside zs w place beside below) in
    let extent : c.unsigned_abs-in-Some.result ≡ unsigned_abs rest = rw out at c.unsigned_abs-in-Some.ensures.value in
    let further = c.nearest-found-in-Some.ensures in
    record {
      same = before.same ∙ still ∙ goes_on ∙ ap (from zs s n d.below) (sym is) ∙ further.same rest beside_rest (omega (arith, extent)) ∙ ap (from zs s n c.nearest-found-in-Some.result) (sym out);
      beside = rw out beside_rest;
      before = omega (arith, further.before, divisor.before, inside);
      within = rw (out, sym extent) further.within;
    }
