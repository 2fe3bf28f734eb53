use Rattle.std.{proofs.Common.{◌≡◌, ◌∙◌, ◌%◌, ◌*◌, ℕ, ℤ, List, length, sym, ap}, proofs.lemmas.List.{length-map}}
use Rattle.{arrays_core.{specs.declared.item.Item.TheVariants.{Num}, specs.Shapes.{size}}, function_names.specs.Axes.{axis_at}}
use Rattle.sum_rules.{specs.LineSums.{line_length, line_step}, proofs.KeptSums.{kept_parts}, proofs.Lines.{whole_lines}}
use Rattle.sum_rules.proofs.line_sums.sums_of.Goals as goal

pub build-requires-clause-whole : goal.build-requires-clause-whole
build-requires-clause-whole c =
    let a = c.args.array.now in
    let numbers = c.in-Some.numbers.now in
    let shaped = c.as_slice-axes.ensures ∙ c.shape-shape.ensures.is in
    let axis : c.axis_at-axis.result ≡ axis_at (length a.shape) c.args.fold.along = c.axis_at-axis.ensures.is ∙ ap (λ (s : List ℕ). axis_at (length s) c.args.fold.along) shaped in
    let count : c.line_length-count.result ≡ line_length (axis_at (length a.shape) c.args.fold.along) a.shape = c.line_length-count.ensures ∙ (λ i. line_length (axis i) (shaped i)) in
    let step : c.line_step-step.result ≡ line_step (axis_at (length a.shape) c.args.fold.along) a.shape = c.line_step-step.ensures ∙ (λ i. line_step (axis i) (shaped i)) in
    let many : length numbers ≡ size a.shape = sym (length-map numbers (λ (z : ℤ). Num z)) ∙ ap length (sym c.in-Some.ensures.is.1) ∙ c.shape-shape.ensures.sound.one_item_a_place in
    (λ i. many i % (count i * step i)) ∙ whole_lines (axis_at (length a.shape) c.args.fold.along) a.shape (kept_parts c.args.fold a c.requires).there
