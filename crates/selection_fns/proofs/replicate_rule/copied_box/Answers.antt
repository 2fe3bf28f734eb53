use Rattle.std.{proofs.Common.{rules, ◌≡◌, ◌<◌, ℕ, length, get_or, ap, ◌∙◌, arith}, specs.Prelude.{max}, proofs.lemmas.List.{get_or_default}}
use Rattle.{function_names.specs.Axes.{axis_at}, index_region.{specs.Axes.{places_along}, proofs.Boxes.{fits_length}}}
use Rattle.selection_fns.{proofs.Copied.{copied_along}, proofs.Intervals.{interval_on}}
use Rattle.selection_fns.proofs.replicate_rule.copied_box.Goals as goal

pub bounds-shape-axis : goal.bounds-shape-axis
bounds-shape-axis c =
    let axis : c.axis_at-axis.result ≡ axis_at (max 1 (length c.args.array.now.shape)) c.args.along = search rules in
    rw axis (copied_along c.args.along c.args.counts.now c.args.array.now c.args.shape.now c.requires.checked).there

pub bounds-as_slice-axis : goal.bounds-as_slice-axis
bounds-as_slice-axis c =
    let long = fits_length c.args.region.now c.args.array.now.shape c.requires.fit in
    let below : c.axis_at-axis.result < length c.args.array.now.shape = search rules in
    let same : c.as_slice.result.now ≡ c.args.region.now = search rules in
    rw same (omega arith)

pub copied_interval-first-requires-clause-low : goal.copied_interval-first-requires-clause-low
copied_interval-first-requires-clause-low c =
    let same : c.as_slice.result.now ≡ c.args.region.now = search rules in
    rw same (interval_on c.args.region.now c.args.array.now.shape c.axis_at-axis.result c.requires.fit (search rules)).low

pub copied_interval-first-requires-clause-order : goal.copied_interval-first-requires-clause-order
copied_interval-first-requires-clause-order c =
    let same : c.as_slice.result.now ≡ c.args.region.now = search rules in
    rw same (interval_on c.args.region.now c.args.array.now.shape c.axis_at-axis.result c.requires.fit (search rules)).order

pub copied_interval-first-requires-clause-high : goal.copied_interval-first-requires-clause-high
copied_interval-first-requires-clause-high c =
    let same : c.as_slice.result.now ≡ c.args.region.now = search rules in
    let axes : c.as_slice-axes.result.now ≡ c.args.array.now.shape = search rules in
    rw (same, axes) (interval_on c.args.region.now c.args.array.now.shape c.axis_at-axis.result c.requires.fit (search rules)).high

pub copied_interval-first-requires-clause-few : goal.copied_interval-first-requires-clause-few
copied_interval-first-requires-clause-few c =
    let axes : c.as_slice-axes.result.now ≡ c.args.array.now.shape = search rules in
    let places : get_or c.args.array.now.shape c.axis_at-axis.result 0 ≡ places_along c.args.array.now.shape (axis_at (max 1 (length c.args.array.now.shape)) c.args.along) =
    get_or_default c.args.array.now.shape c.axis_at-axis.result 0 1 (search rules) ∙ ap (λ (k : ℕ). places_along c.args.array.now.shape k) (search rules) in
    rw (axes, places) (copied_along c.args.along c.args.counts.now c.args.array.now c.args.shape.now c.requires.checked).few
