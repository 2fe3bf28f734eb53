use Rattle.{std.proofs.Common.{rules, ◌≡◌, ◌∙◌, true, length, remove, ap, sym, subst}, arrays_core.specs.declared.item.Kind.TheVariants.{Axis}}
use Rattle.{index_region.{specs.Checks.{check, limited}, specs.Answers.{IsFormAnswerTo}}, function_names.specs.Axes.{is_axis, axis_at}}
use Rattle.reduce_fns.specs.Reduce.{reduce_type, reduce_form}
use Rattle.reduce_fns.proofs.reduce.Reduce.form.Goals as goal

pub returns : goal.returns
returns c =
    let b = c.args.array.now in
    let axis = axis_at (length b.shape) c.args.self.along in
    let axes : c.as_slice-axes.result.now ≡ b.shape = c.as_slice-axes.ensures ∙ c.shape-shape.ensures.is in
    let meant : c.axis_at-axis.result ≡ axis = c.axis_at-axis.ensures.is ∙ ap (λ xs. axis_at (length xs) c.args.self.along) axes in
    let passed : is_axis (length b.shape) c.args.self.along ≡ true = search rules in
    let form : limited c.without_axis.result.items c.if-axes-axis-eq1.item_type ≡ reduce_form c.args.self.along b =
    ap (λ s. limited s c.if-axes-axis-eq1.item_type) (c.without_axis.ensures.is ∙ ap (λ xs. remove xs c.axis_at-axis.result) axes ∙ ap (remove b.shape) meant)
    ∙ ap (limited (remove b.shape axis)) ((search rules) ∙ ap (reduce_type b) meant)
    ∙ sym (ap (λ p. check p Axis (limited (remove b.shape axis) (reduce_type b axis))) passed) in
    subst (λ wanted. IsFormAnswerTo wanted c.limited-2.result) form c.limited-2.ensures
