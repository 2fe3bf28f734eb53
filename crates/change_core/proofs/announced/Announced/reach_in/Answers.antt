use Rattle.std.{proofs.Common.{◌≡◌, ◌-◌, ◌+◌, ◌<◌, List, Option, Bool, false, arith, sym, ap, ◌∙◌, length, map, suc, get_or, drop}, proofs.lemmas.Bool.{cond-true}, proofs.lemmas.List.{length-map, get_or-map}}
use Rattle.change_core.{proofs.Steps.{anew_past, changed_past, anew_there, anew_by, fit_at, changed_ranks, anew_step, changed_step, moved_at}, specs.Reaches.{bounded, is_anew}, proofs.announced.Announced.reach_in.Given.{Over}}
use Rattle.change_core.proofs.announced.Announced.reach_in.Goals.{After-changed_box, in-Some+else-selects, in_default}
use Rattle.index_region.specs.Boxes.{Interval, join_boxes}
use Rattle.change_core.proofs.announced.Announced.reach_in.Goals as goal

pub loop-later-init : goal.loop-later-init
loop-later-init g c =
    let moves = map g.M.ChangedBox.changed c.args.moved.now in
    let past = sym (length-map c.args.moved.now g.M.ChangedBox.changed) in
    record {
      reached = changed_past c.args.shape.now (g.Self.Announced.uses c.args.self.now c.args.shape.now c.args.args.now) moves _ (omega (arith, past));
      kept = anew_past (g.Self.Announced.selectors c.args.self.now) moves _ (omega (arith, past));
    }

-- there are as many changes as selectors
count : (g : Over) (c : After-changed_box g) → length (map g.M.ChangedBox.changed c.args.moved.now) ≡ length (g.Self.Announced.selectors c.args.self.now)
count g c = length-map c.args.moved.now g.M.ChangedBox.changed ∙ c.requires.moves ∙ c.requires.count ∙ sym (g.met.Self.Announced.counted c.args.self.now)

-- the current box is the one at its index in the list of changes
there : (g : Over) (c : After-changed_box g) → let which = length c.args.moved.now - 1 - c.loop-later.later in let m = g.M.ChangedBox.changed c.index-moved-which.result in m ≡ get_or (map g.M.ChangedBox.changed c.args.moved.now) which m
there g c =
    let changed = g.M.ChangedBox.changed in
    let which = length c.args.moved.now - 1 - c.loop-later.later in
    ap changed c.index-moved-which.is ∙ sym (get_or-map changed c.args.moved.now which c.index-moved-which.result (changed c.index-moved-which.result) (omega (arith, c.loop-later-test.true)))

pub returns-then-selects : goal.returns-then-selects
returns-then-selects g c =
    let here = (goal.at.returns-then-selects g c).After-changed_box in
    let moves = map g.M.ChangedBox.changed c.args.moved.now in
    let m = g.M.ChangedBox.changed c.index-moved-which.result in
    let long = length-map c.args.moved.now g.M.ChangedBox.changed in
    sym (cond-true _ _ _ (anew_there (g.Self.Announced.selectors c.args.self.now) moves _ m c.in-Some.region.now (omega (arith, long, c.loop-later-test.true)) (count g here) (there g here) c.in-Some.ensures (sym c.selects.ensures ∙ c.if-selects.true)))

pub box_of-requires-clause-fit : goal.box_of-requires-clause-fit
box_of-requires-clause-fit g c =
    let here = (goal.at.box_of-requires-clause-fit g c).After-changed_box in
    let moves = map g.M.ChangedBox.changed c.args.moved.now in
    let m = g.M.ChangedBox.changed c.index-moved-which.result in
    fit_at c.args.args.now moves _ m c.in-Some.region.now (length-map c.args.moved.now g.M.ChangedBox.changed ∙ c.requires.moves) c.requires.fit (there g here) c.in-Some.ensures

pub join_boxes-reached-requires : goal.join_boxes-reached-requires
join_boxes-reached-requires g c =
    let uses = g.Self.Announced.uses c.args.self.now c.args.shape.now c.args.args.now in
    let moves = map g.M.ChangedBox.changed c.args.moved.now in
    let after = length c.args.moved.now - c.loop-later.later in
    changed_ranks c.args.shape.now (drop after uses) (drop after moves) c.box_of.result c.bounded-changed.result c.loop-later.reached c.bounded-changed.ensures c.loop-later.invariant.reached

pub loop-later-preserved : goal.loop-later-preserved
loop-later-preserved g c =
    let start = (goal.at.loop-later-preserved g c).After-changed_box in
    let selectors = g.Self.Announced.selectors c.args.self.now in
    let uses = g.Self.Announced.uses c.args.self.now c.args.shape.now c.args.args.now in
    let ms = map g.M.ChangedBox.changed c.args.moved.now in
    let shape = c.args.shape.now in
    let m = g.M.ChangedBox.changed c.index-moved-which.result in
    let long = length-map c.args.moved.now g.M.ChangedBox.changed in
    let which = length c.args.moved.now - 1 - c.loop-later.later in
    let from = length c.args.moved.now - (c.loop-later.later + 1) in
    let after = length c.args.moved.now - c.loop-later.later in
    let here : from ≡ which = omega arith in
    let next : after ≡ suc which = omega (arith, c.loop-later-test.true) in
    let below : which < length ms = omega (arith, long, c.loop-later-test.true) in
    let rest = c.loop-later.reached in
    let step = changed_step shape uses ms which from after m rest here next below (there g start) c.loop-later.invariant.reached in
    let kept : anew_by (get_or selectors which false) m false ≡ false → is_anew (drop from selectors) (drop from ms) ≡ false =
    λ h. anew_step selectors ms which from after m here next below (count g start) (there g start) h c.loop-later.invariant.kept in
    elim c.match-changed_box.branch [
      | in-Some+else-selects w ↦ record {
        reached = w.reached-is ∙ w.join_boxes-reached.ensures
            ∙ ap (λ (o : Option (List Interval)). join_boxes o rest) (w.bounded-changed.ensures ∙ ap (bounded shape) w.box_of.ensures)
            ∙ ap (λ (o : Option (List Interval)). join_boxes (moved_at shape uses which o) rest) (sym w.in-Some.ensures) ∙ step;
        kept = kept (λ i. anew_by (unselected w.selects.result _ w.selects.ensures w.if-selects.false i) (w.in-Some.ensures i) false);
      }
      | in_default w ↦ record {
        reached = w.reached-is ∙ ap (λ (o : Option (List Interval)). join_boxes (moved_at shape uses which o) rest) (sym w.in_default.ensures) ∙ step;
        kept = kept (ap (λ (o : Option (List Interval)). anew_by (get_or selectors which false) o false) w.in_default.ensures);
      }
    ]
  where
    unselected : (answer selects : Bool) → answer ≡ selects → answer ≡ false → selects ≡ false
    unselected answer selects e f = sym e ∙ f
