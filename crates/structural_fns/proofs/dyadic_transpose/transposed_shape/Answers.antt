use Rattle.std.{proofs.Common.{◌∙◌, arith, append_assoc}, proofs.lemmas.List.{length_push}, proofs.lemmas.List.FromFn.{length-map-range_with_len}}
use Rattle.structural_fns.{specs.DyadicTranspose.{axes_to, greatest_of, least_of, lengths_at, transposed_shape}, proofs.Counting.{too_many}, proofs.Entries.{range_more}}
use Rattle.structural_fns.proofs.dyadic_transpose.transposed_shape.Goals as goal

pub returns-then-rank-from-clause-beyond : goal.returns-then-rank-from-clause-beyond
returns-then-rank-from-clause-beyond c =
    λ t.
    let axes = axes_to c.args.axes.now in
    let long = length-map-range_with_len (λ j. least_of (lengths_at axes c.args.lengths.now j)) 1 (greatest_of axes) in
    too_many (transposed_shape axes c.args.lengths.now) t (omega (arith, long, c.greatest-rank.ensures, c.if-rank-from.true, c.from.ensures))

pub loop-axis-preserved : goal.loop-axis-preserved
loop-axis-preserved c =
    let more = range_more c.greatest-rank.result c.loop-axis.axis (omega arith) in
    record {
      made = rw c.push_reserved.ensures.items (rw append_assoc (rw c.least_length.ensures (rw more at c.loop-axis.invariant.made)));
      long = rw c.push_reserved.ensures.items (rw length_push (omega arith));
      inline = c.push_reserved.ensures.capacity ∙ c.loop-axis.invariant.inline;
    }
