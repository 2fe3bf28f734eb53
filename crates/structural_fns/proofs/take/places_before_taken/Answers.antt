use Rattle.std.{proofs.Common.{◌∙◌, ◌-◌, ◌≤◌, ◌∷◌, [], ap, get_or, arith, rules, below_more}, proofs.lemmas.List.{get_or_append_left, get_or_push, length_push}}
use Rattle.{structural_fns.{specs.Take.{taken_place}, proofs.Counting.{count_read}}}
use Rattle.structural_fns.proofs.take.places_before_taken.Goals as goal

pub loop-k-preserved : goal.loop-k-preserved
loop-k-preserved c =
    let k = c.loop-k.k in
    let n = get_or c.as_slice-axes.result.now k 0 in
    let items = c.loop-k.before.items in
    let skipped = c.taken_place.result - 1 in
    let inv = c.loop-k.invariant in
    let read = count_read c.args.counts.now _ k (search rules) c.number-count.ensures in
    let few : c.unsigned_abs.result ≤ n = omega (arith, c.if-unsigned_abs-from.false, c.from.ensures) in
    record {
      inline = c.push_reserved.ensures.capacity ∙ inv.inline;
      long = rw c.push_reserved.ensures.items (rw length_push (omega (arith, inv.long)));
      there = below_more _ _ inv.there (rw (c.unsigned_abs.ensures.value, read) at few);
      each = rw c.push_reserved.ensures.items (below_more _ _
          (λ j below. get_or_append_left items (skipped ∷ []) 0 j (omega (arith, inv.long, below)) ∙ inv.each j below)
          (get_or_push items skipped 0 k inv.long ∙ ap (λ m. m - 1) (c.taken_place.ensures ∙ ap (λ z. taken_place n z 1) read)));
    }
