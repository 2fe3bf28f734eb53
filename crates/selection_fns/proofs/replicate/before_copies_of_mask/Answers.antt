use Rattle.std.{proofs.Common.{◌≡◌, ◌<◌, ◌≤◌, ◌∙◌, ap, sym, subst, length, get_or, map, pos, unsigned_abs, arith, w64, to_z, of_z}, proofs.lemmas.Int.{ints}, proofs.lemmas.List.{length-map, get_or-map, length-set}}
use Rattle.selection_fns.proofs.Copies.{copies_fit, mask_count, mask_step}
use Rattle.selection_fns.proofs.replicate.before_copies_of_mask.Goals as goal

pub loop-place-preserved : goal.loop-place-preserved
loop-place-preserved c =
    let zs = c.args.counts.now in
    let k = c.loop-place.place in
    let before = c.loop-place.before.items in
    let known = c.loop-place.invariant in
    let long = length-map zs unsigned_abs in
    let below : k < length zs = omega arith in
    let same : to_z w64 (of_z w64 (get_or zs k (pos 0))) ≡ get_or zs k (pos 0) = omega (arith, ints) in
    let count : c.unsigned_abs.result ≡ get_or (map unsigned_abs zs) k 0 = c.unsigned_abs.ensures.value ∙ ap unsigned_abs same ∙ sym (get_or-map unsigned_abs zs k (pos 0) 0 below) in
    let low : c.unsigned_abs.result ≤ 1 = subst (λ n. n ≤ 1) (sym (c.unsigned_abs.ensures.value ∙ ap unsigned_abs same)) (mask_count zs k c.requires.mask below) in
    let fit = copies_fit (map unsigned_abs zs) k _ known.made (omega arith) in
    let step = mask_step (map unsigned_abs zs) k c.loop-place.copies c.unsigned_abs.result before (omega arith) count low (omega arith) known.counted known.made in
    record { room = simp length-set known.room; counted = step.counted; made = step.made }
