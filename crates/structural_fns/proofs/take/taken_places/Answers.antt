use Rattle.std.{proofs.Common.{◌≡◌, ◌≤◌, ap, get_or, pos, subst, sym, ◌∙◌, append_assoc, unsigned_abs, arith, rules}, proofs.lemmas.List.{length_push}}
use Rattle.index_region.specs.Arguments.{numbers}
use Rattle.structural_fns.{specs.Take.{taken_place}, proofs.Counting.{CountAt, numbers_long, count_read, count_at, taken_more}, proofs.take.taken_places.Goals.{In-loop-k}}
use Rattle.structural_fns.proofs.take.taken_places.Goals as goal

-- the count and the index of this axis
here : (c : In-loop-k) → CountAt c.args.counts.now c.args.index.now c.loop-k.k
here c = let test = c.loop-k-test.true in count_at _ _ c.loop-k.k c.requires.within c.requires.inside (omega (arith, c.requires.long))

pub bounds-index-k : goal.bounds-index-k
bounds-index-k c = (here (goal.at.bounds-index-k c).In-loop-k).there

pub taken_place-requires-clause-count_within : goal.taken_place-requires-clause-count_within
taken_place-requires-clause-count_within c =
    subst (λ z. unsigned_abs z ≤ 1048576) (sym (count_read c.args.counts.now _ c.loop-k.k (search rules) c.number-count.ensures))
    (here (goal.at.taken_place-requires-clause-count_within c).In-loop-k).count

pub taken_place-requires-clause-index_within : goal.taken_place-requires-clause-index_within
taken_place-requires-clause-index_within c = let h = here (goal.at.taken_place-requires-clause-index_within c).In-loop-k in omega (arith, h.count, h.high)

pub loop-k-preserved : goal.loop-k-preserved
loop-k-preserved c =
    let k = c.loop-k.k in
    let long = numbers_long c.args.counts.now in
    let h = here (goal.at.loop-k-preserved c).In-loop-k in
    let more = taken_more c.args.axes.now (numbers c.args.counts.now) c.args.index.now k (omega arith) (omega (arith, c.requires.long)) h.there in
    let put : c.taken_place.result ≡ taken_place (get_or c.args.axes.now k 0) (get_or (numbers c.args.counts.now) k (pos 0)) (get_or c.args.index.now k 0) =
    c.taken_place.ensures ∙ ap (λ z. taken_place (get_or c.args.axes.now k 0) z (get_or c.args.index.now k 0)) (count_read c.args.counts.now _ k (search rules) c.number-count.ensures) in
    record {
      made = rw c.push_reserved.ensures.items (rw append_assoc (rw put (rw more at c.loop-k.invariant.made)));
      long = rw c.push_reserved.ensures.items (rw length_push (omega arith));
      inline = c.push_reserved.ensures.capacity ∙ c.loop-k.invariant.inline;
    }
