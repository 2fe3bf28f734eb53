use Rattle.{std.proofs.Common.{◌≡◌, ℕ, List, length, subst, sym, ap, ◌∙◌, arith}, function_names.specs.Axes.{axis_at}}
use Rattle.{index_region.proofs.Passing.{two_arguments}, change_core.specs.Sourced.{left_used, right_used}}
use Rattle.structural_fns.{specs.Catenate.{joined_places, catenate_form, catenate_source, side_box, catenate_left_box, catenate_right_box}, specs.Laws.JoinedAxes.{JoinedFacts, joined_facts}, proofs.Calls.{form_of_two, box_of_right}, proofs.catenate.CatenateAnnounced.box_of.Goals.{After-index-args-1}}
use Rattle.structural_fns.proofs.catenate.CatenateAnnounced.box_of.Goals as goal

-- the two arguments, and the shape of their result
facts : (c : After-index-args-1) → JoinedFacts c.args.self.now.along c.index-args-0.result c.index-args-1.result c.args.shape.now
facts c =
    let form = form_of_two (catenate_form c.args.self.now.along) c.args.args.now c.index-args-0.result c.index-args-1.result c.args.shape.now
    (two_arguments c.args.args.now c.index-args-0.result c.index-args-1.result c.requires.count c.index-args-0.is c.index-args-1.is) c.requires.checked in
    subst (λ (s : List ℕ). JoinedFacts c.args.self.now.along c.index-args-0.result c.index-args-1.result s) form.shaped (joined_facts c.args.self.now.along c.index-args-0.result c.index-args-1.result form.form form.is)

pub overflow_cast-shape : goal.overflow_cast-shape
overflow_cast-shape c = let few = (facts (goal.at.overflow_cast-shape c).After-index-args-1).few in omega arith

pub axis_at-axis-requires : goal.axis_at-axis-requires
axis_at-axis-requires c = (facts (goal.at.axis_at-axis-requires c).After-index-args-1).on_axis

pub side_box-requires-clause-rank : goal.side_box-requires-clause-rank
side_box-requires-clause-rank c = (facts (goal.at.side_box-requires-clause-rank c).After-index-args-1).few

pub side_box-requires-2-clause-rank : goal.side_box-requires-2-clause-rank
side_box-requires-2-clause-rank c = (facts (goal.at.side_box-requires-2-clause-rank c).After-index-args-1).few

pub side_box-requires-clause-there : goal.side_box-requires-clause-there
side_box-requires-clause-there c = rw c.axis_at-axis.ensures.is (facts (goal.at.side_box-requires-clause-there c).After-index-args-1).below

pub joined_places-before-requires : goal.joined_places-before-requires
joined_places-before-requires c = rw c.axis_at-axis.ensures.is (facts (goal.at.joined_places-before-requires c).After-index-args-1).below

pub side_box-requires-2-clause-there : goal.side_box-requires-2-clause-there
side_box-requires-2-clause-there c = rw c.axis_at-axis.ensures.is (facts (goal.at.side_box-requires-2-clause-there c).After-index-args-1).below

pub side_box-requires-clause-near : goal.side_box-requires-clause-near
side_box-requires-clause-near c = (facts (goal.at.side_box-requires-clause-near c).After-index-args-1).left

pub side_box-requires-2-clause-near : goal.side_box-requires-2-clause-near
side_box-requires-2-clause-near c = (facts (goal.at.side_box-requires-2-clause-near c).After-index-args-1).right

pub returns : goal.returns
returns c =
    let along = c.args.self.now.along in
    let a = c.index-args-0.result in
    let rank = length c.args.shape.now in
    let axis = axis_at rank along in
    let two = two_arguments c.args.args.now a c.index-args-1.result c.requires.count c.index-args-0.is c.index-args-1.is in
    let on : c.axis_at-axis.result ≡ axis = c.axis_at-axis.ensures.is in
    let before : c.joined_places-before.result ≡ joined_places rank axis a = c.joined_places-before.ensures.is ∙ ap (λ (k : ℕ). joined_places rank k a) on in
    c.side_box-2.ensures ∙ (λ i. side_box c.args.shape.now (on i) (before i) c.index-args-1.result c.args.region.now)
    ∙ sym (box_of_right (λ s l r. left_used (catenate_source along l r) (catenate_left_box along s l r)) (λ s l r. right_used (catenate_source along l r) (catenate_right_box along s l r))
    c.args.shape.now c.args.args.now a c.index-args-1.result c.args.which c.args.region.now two c.requires.below (omega arith))
