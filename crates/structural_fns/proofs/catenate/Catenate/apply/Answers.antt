use Rattle.{std.{proofs.Common.{◌≡◌, ◌∷◌, [], Ok, ap, sym, ◌∙◌, subst}, proofs.lemmas.Bool.{eqb-true, and_parts}}, arrays_core.specs.Arrays.{IsAnswerTo}}
use Rattle.function_names.specs.Axes.{is_axis, axis_at}
use Rattle.index_region.{specs.ArgumentLists.{of_two_arguments}, proofs.Arguments.{whole_of_two}, proofs.Passing.{two_arguments}}
use Rattle.structural_fns.{specs.Catenate.{joined_rank, catenate_form, catenate_item, catenate_whole}, proofs.JoinedRuns.{AreJoined, joined_runs}, proofs.catenate.Catenate.apply.Goals.{In_ok-shape}}
use Rattle.structural_fns.proofs.catenate.Catenate.apply.Goals as goal

-- there are two arguments
two : (c : In_ok-shape) → c.args.args.now ≡ c.index-args-0.result ∷ c.index-args-1.result ∷ []
two c = two_arguments c.args.args.now c.index-args-0.result c.index-args-1.result c.requires c.index-args-0.is c.index-args-1.is

-- the items of both sides in sequence
runs : (c : In_ok-shape) → AreJoined c.args.self.now.along c.index-args-0.result c.index-args-1.result c.in_ok-shape.shape.items
runs c =
    let along = c.args.self.now.along in
    let rank = c.joined_rank-rank.ensures.is in
    let first : axis_at (joined_rank c.index-args-0.result c.index-args-1.result) along ≡ 0 = sym (ap (λ n. axis_at n along) rank) ∙ eqb-true _ 0 (and_parts (is_axis c.joined_rank-rank.result along) _ (sym c.is_along_first.ensures ∙ c.if-is_along_first.true)).1 in
    joined_runs along _ _ _ _ (ap (of_two_arguments (catenate_form along)) (sym (two c)) ∙ c.in_ok-shape.ensures.0) first c.is_run.ensures.sound c.is_run-then-is_run.ensures.sound
    (λ h. sym rank ∙ c.is_run.ensures.is.0 c.if-is_run.true h) (λ h. sym rank ∙ c.is_run-then-is_run.ensures.is.0 c.if-is_run-2.true h)

pub joined_runs-requires-clause-one_item_a_place : goal.joined_runs-requires-clause-one_item_a_place
joined_runs-requires-clause-one_item_a_place c = (runs (goal.at.joined_runs-requires-clause-one_item_a_place c).In_ok-shape).as_many

pub returns-then-is_run-2 : goal.returns-then-is_run-2
returns-then-is_run-2 c =
    let here = (goal.at.returns-then-is_run-2 c).In_ok-shape in
    ap (of_two_arguments (catenate_whole c.args.self.now.along)) (two here) ∙ (runs here).whole ∙ ap (λ w. Ok w) (sym c.in_ok-runs.ensures)

pub returns : goal.returns
returns c = subst (λ w. IsAnswerTo w c.apply_rows.result) (whole_of_two (catenate_form c.args.self.now.along) (catenate_item c.args.self.now.along) c.args.args.now c.requires) c.apply_rows.ensures
