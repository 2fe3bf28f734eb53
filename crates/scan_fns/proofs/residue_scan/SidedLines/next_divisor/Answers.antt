use Rattle.std.{proofs.Common.{◌≡◌, ◌∙◌, ◌<◌, ap, sym, get_or, length, arith, pos, to_z, of_z, w64, rules, Some, IfSome}, proofs.lemmas.Int.{to_z-of_z}}
use Rattle.scan_fns.{specs.ResidueScan.{extent_at, from, AreTheSame}, proofs.Divisors.{passes, leads_on, nearer}}
use Rattle.scan_fns.proofs.residue_scan.SidedLines.next_divisor.Goals as goal

pub returns : goal.returns
returns c =
    let zs = c.args.self.now.numbers.now in
    let s = c.args.self.now.stride in
    let n = c.args.self.now.count in
    let place = length c.args.divisors.now in
    let read : to_z w64 (of_z w64 (get_or zs place (pos 0))) ≡ get_or zs place (pos 0) = to_z-of_z w64 _ (search rules) in
    let extent : c.extent_of-extent.result ≡ extent_at zs place = rw read at c.extent_of-extent.ensures.is in
    let some = c.extent_of-extent.ensures.some in
    let nearest = c.nearest-below.ensures in
    let below : AreTheSame zs s n (extent_at zs place) (Some place) c.nearest-below.result = λ w beside near.
    passes zs s n c.args.self.now.apart c.args.self.now.some place c.nearest-below.result w c.requires.more beside near
    (ap (λ q. from zs s n q w) (sym c.place_before.ensures.is) ∙ nearest.same w beside (omega (arith, near, extent, some))) in
    let near : IfSome c.nearest-below.result (λ b. extent_at zs b < extent_at zs place) = nearer _ _ _ c.nearest-below.result (omega (arith, extent, some)) nearest.within in
    record {
      extent = extent;
      below = below;
      before = omega (arith, nearest.before, c.place_before.ensures.before);
      before_far = omega (arith, c.far_from-far.ensures.before, nearest.before, c.place_before.ensures.before);
      far = leads_on zs s n place c.nearest-below.result c.far_from-far.result.0 below near c.far_from-far.ensures;
    }
