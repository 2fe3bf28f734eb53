use Rattle.std.{proofs.Common.{◌<◌, ℕ, sym, subst, replicate, arith}, proofs.lemmas.List.{length-replicate, get_or-replicate}}
use Rattle.selection_fns.proofs.Copies.{one_place_more, one_count_fits, one_count_ends}
use Rattle.selection_fns.proofs.replicate.before_copies_of_one_count.Goals as goal

pub loop-place-preserved : goal.loop-place-preserved
loop-place-preserved c =
    let n = c.args.places in
    let count = c.args.count in
    let k = c.loop-place.place in
    let long = length-replicate n count in
    one_place_more (replicate n count) k count c.loop-place.before.items c.append_copies.new.list.items (omega arith) (sym (get_or-replicate n k count 0 (omega arith))) c.in_ok-append_copies.ensures c.loop-place.invariant

pub append_copies-requires : goal.append_copies-requires
append_copies-requires c = one_count_fits c.args.places c.args.count c.args.total c.loop-place.place c.loop-place.before.items c.requires.total c.requires.within c.loop-place-test.true c.loop-place.invariant

pub overflow_cast-count : goal.overflow_cast-count
overflow_cast-count c =
    let few = one_count_fits c.args.places c.args.count c.args.total c.loop-place.place c.loop-place.before.items c.requires.total c.requires.within c.loop-place-test.true c.loop-place.invariant in
    omega (arith, few)

pub returns-clause-long : goal.returns-clause-long
returns-clause-long c = one_count_ends c.args.places c.args.count c.args.total c.loop-place.place c.loop-place.before.items c.requires.total c.loop-place-test.false c.loop-place.invariant

pub returns-clause-is : goal.returns-clause-is
returns-clause-is c = λ i below.
    let long = one_count_ends c.args.places c.args.count c.args.total c.loop-place.place c.loop-place.before.items c.requires.total c.loop-place-test.false c.loop-place.invariant in
    c.loop-place.invariant.is i (subst (λ (n : ℕ). i < n) (sym long) below)
