use Rattle.std.{proofs.Common.{◌≡◌, ◌∙◌, ap, sym, get_or, map, pos, unsigned_abs, arith, w64, to_z, of_z}, proofs.lemmas.Int.{ints}, proofs.lemmas.List.{length-map, get_or-map}}
use Rattle.selection_fns.{proofs.Copies.{copies_fit, one_place_more}, proofs.replicate.before_copies_of_counts.Goals.{After-unsigned_abs}}
use Rattle.selection_fns.proofs.replicate.before_copies_of_counts.Goals as goal

-- the count of the place
count_is : (c : After-unsigned_abs) → c.unsigned_abs.result ≡ get_or (map unsigned_abs c.args.counts.now) c.loop-place.place 0
count_is c =
    let zs = c.args.counts.now in
    let k = c.loop-place.place in
    let same : to_z w64 (of_z w64 (get_or zs k (pos 0))) ≡ get_or zs k (pos 0) = omega (arith, ints) in
    c.unsigned_abs.ensures.value ∙ ap unsigned_abs same ∙ sym (get_or-map unsigned_abs zs k (pos 0) 0 (omega arith))

pub append_copies-requires : goal.append_copies-requires
append_copies-requires c =
    let zs = c.args.counts.now in
    let fit = copies_fit (map unsigned_abs zs) c.loop-place.place c.loop-place.before.items c.loop-place.invariant (omega (arith, length-map zs unsigned_abs)) in
    omega (arith, fit, count_is (goal.at.append_copies-requires c).After-unsigned_abs)

pub overflow_cast-unsigned_abs : goal.overflow_cast-unsigned_abs
overflow_cast-unsigned_abs c = omega (arith, append_copies-requires c)

pub loop-place-preserved : goal.loop-place-preserved
loop-place-preserved c =
    let zs = c.args.counts.now in
    one_place_more (map unsigned_abs zs) c.loop-place.place c.unsigned_abs.result c.loop-place.before.items c.append_copies.new.list.items
    (omega (arith, length-map zs unsigned_abs)) (count_is (goal.at.loop-place-preserved c).After-unsigned_abs) c.in_ok-append_copies.ensures c.loop-place.invariant
