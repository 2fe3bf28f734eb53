use Rattle.std.{proofs.Common.{◌≡◌, ◌+◌, ◌≤◌, ap, get_or, pos, subst, sym, ◌∙◌, append_assoc, unsigned_abs, arith, rules}, proofs.lemmas.List.{length_push}}
use Rattle.index_region.specs.Arguments.{numbers}
use Rattle.structural_fns.{specs.Drop.{kept_place}, proofs.Counting.{LeftAt, numbers_long, count_read, left_at, kept_more}, proofs.drop_places.kept_places.Goals.{In-loop-k}}
use Rattle.structural_fns.proofs.drop_places.kept_places.Goals as goal

-- the index on this axis
left : (c : In-loop-k) → LeftAt c.args.counts.now c.args.array.now c.args.index.now c.loop-k.k
left c = let test = c.loop-k-test.true in left_at _ _ _ c.loop-k.k c.shape.ensures.sound.within.axes c.requires.long c.requires.within c.requires.inside (omega arith)

pub bounds-index-k : goal.bounds-index-k
bounds-index-k c = (left (goal.at.bounds-index-k c).In-loop-k).there

pub kept_place-requires : goal.kept_place-requires
kept_place-requires c =
    subst (λ z. get_or c.args.index.now c.loop-k.k 0 + unsigned_abs z ≤ 1048576) (sym (count_read c.args.counts.now _ c.loop-k.k (search rules) c.number-count.ensures))
    (left (goal.at.kept_place-requires c).In-loop-k).bound

pub push_reserved-requires : goal.push_reserved-requires
push_reserved-requires c = let h = left (goal.at.push_reserved-requires c).In-loop-k in grind arith

pub loop-k-preserved : goal.loop-k-preserved
loop-k-preserved c =
    let k = c.loop-k.k in
    let long = numbers_long c.args.counts.now in
    let h = left (goal.at.loop-k-preserved c).In-loop-k in
    let more = kept_more (numbers c.args.counts.now) c.args.index.now k (omega arith) h.there in
    let put : c.kept_place.result ≡ kept_place (get_or (numbers c.args.counts.now) k (pos 0)) (get_or c.args.index.now k 0) =
    c.kept_place.ensures ∙ ap (λ z. kept_place z (get_or c.args.index.now k 0)) (count_read c.args.counts.now _ k (search rules) c.number-count.ensures) in
    record {
      made = rw c.push_reserved.ensures.items (rw append_assoc (rw put (rw more at c.loop-k.invariant.made)));
      long = rw c.push_reserved.ensures.items (rw length_push (omega arith));
      inline = c.push_reserved.ensures.capacity ∙ c.loop-k.invariant.inline;
    }
