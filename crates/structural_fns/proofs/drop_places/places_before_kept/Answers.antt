use Rattle.std.{proofs.Common.{◌∙◌, ◌∷◌, [], ap, get_or, min, arith, rules, below_more}, proofs.lemmas.List.{get_or_append_left, get_or_push, length_push}}
use Rattle.{structural_fns.{specs.Drop.{kept_place}, proofs.Counting.{count_read}}}
use Rattle.structural_fns.proofs.drop_places.places_before_kept.Goals as goal

pub loop-k-preserved : goal.loop-k-preserved
loop-k-preserved c =
    let k = c.loop-k.k in
    let items = c.loop-k.before.items in
    let inv = c.loop-k.invariant in
    let read = count_read c.args.counts.now _ k (search rules) c.number-count.ensures in
    record {
      inline = c.push_reserved.ensures.capacity ∙ inv.inline;
      long = rw c.push_reserved.ensures.items (rw length_push (omega (arith, inv.long)));
      each = rw c.push_reserved.ensures.items (below_more _ _
          (λ j below. get_or_append_left items (c.skipped.result ∷ []) 0 j (omega (arith, inv.long, below)) ∙ inv.each j below)
          (get_or_push items c.skipped.result 0 k inv.long ∙ c.skipped.ensures ∙ ap (λ z. min (kept_place z 0) (get_or c.args.axes.now k 0)) read));
    }
