use Rattle.{std.{proofs.Common.{rules, ◌≡◌, ◌<◌, Result, length, ap, subst, sym, ◌∙◌}, specs.Prelude.{max, sum}}, arrays_core.specs.declared.item.Kind.{Kind}}
use Rattle.{index_region.{specs.Checks.{Form, limited}, specs.Axes.{places_along}, specs.Answers.{IsFormAnswerTo}}, function_names.specs.Axes.{axis_at}}
use Rattle.selection_fns.{specs.Replicate.{times, counts_checked, replicated_shape}, proofs.Copies.{replicate_limited, replicate_beyond}}
use Rattle.selection_fns.proofs.replicate.Replicate.checked.Goals as goal

pub returns-in_err-copied : goal.returns-in_err-copied
returns-in_err-copied c =
    let a = c.args.counts.now in
    let b = c.args.array.now in
    let axis = axis_at (max 1 (length b.shape)) c.args.self.along in
    let places : c.places_along-places.result ≡ places_along b.shape axis = search rules in
    let pass : (rest : Result Form Kind) → counts_checked a (places_along b.shape axis) rest ≡ rest =
    subst (λ n. (rest : Result Form Kind) → counts_checked a n rest ≡ rest) places c.in_ok-check_counts.ensures.passed in
    let long : 1048576 < sum (times a (places_along b.shape axis)) = subst (λ n. 1048576 < sum (times a n)) places c.in_err-copied.ensures.beyond.1 in
    search (rules, replicate_beyond c.args.self.along a b (search rules) pass (search rules) long)

pub returns : goal.returns
returns c =
    let a = c.args.counts.now in
    let b = c.args.array.now in
    let axis = axis_at (max 1 (length b.shape)) c.args.self.along in
    let pass : (rest : Result Form Kind) → counts_checked a (places_along b.shape axis) rest ≡ rest =
    subst (λ n. (rest : Result Form Kind) → counts_checked a n rest ≡ rest) (search rules) c.in_ok-check_counts.ensures.passed in
    let is = replicate_limited c.args.self.along a b (search rules) pass in
    let shape : c.replicated_shape-shape.result.items ≡ replicated_shape a b.shape axis = search rules in
    let item_type : c.item_type.result ≡ b.item_type = search rules in
    subst (λ w. IsFormAnswerTo w c.limited.result) (ap (λ s. limited s c.item_type.result) shape ∙ ap (λ t. limited (replicated_shape a b.shape axis) t) item_type ∙ sym is) c.limited.ensures
