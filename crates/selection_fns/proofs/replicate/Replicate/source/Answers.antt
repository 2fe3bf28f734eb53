use Rattle.std.{proofs.Common.{rules, ◌≡◌, length, ap, ◌∙◌}, specs.Prelude.{max}}
use Rattle.selection_fns.{specs.Replicate.{replicate_source}, proofs.Copies.{replicated_inside}, proofs.SourcePlaces.{replicate_inside}}
use Rattle.{index_region.specs.Sources.{Place}, function_names.specs.Axes.{axis_at}}
use Rattle.selection_fns.proofs.replicate.Replicate.source.Goals as goal

pub copied_index-at-requires-clause-inside : goal.copied_index-at-requires-clause-inside
copied_index-at-requires-clause-inside c =
    let along = c.args.self.along in
    let axes : c.as_slice.result.now ≡ c.args.array.now.shape = search rules in
    let rank : c.len.result ≡ max 1 (length c.args.array.now.shape) = search rules in
    rw (axes, c.axis_at-axis.ensures.is ∙ ap (λ n. axis_at n along) rank) (replicated_inside along c.args.counts.now c.args.array.now c.args.index.now c.requires)

pub returns-clause-inside : goal.returns-clause-inside
returns-clause-inside c =
    let index = c.args.index.now in
    let is : Place 1 c.copied_index-at.result.items ≡ replicate_source c.args.self.along c.args.counts.now c.args.array.now index = search rules in
    (replicate_inside c.args.self.along c.args.counts.now c.args.array.now index c.copied_index-at.result.items is c.requires, c.copied_index-at.ensures.inline)
