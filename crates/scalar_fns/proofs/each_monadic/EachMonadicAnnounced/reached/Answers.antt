use Rattle.{std.proofs.Common.{◌≡◌, ◌∙◌, List, map, sym, ap}, index_region.{specs.Boxes.{Interval}, proofs.Passing.{one_argument}}}
use Rattle.change_core.{specs.declared.reach.Reach.TheVariants.{Inside}, specs.Reaches.{as_reach}}
use Rattle.scalar_fns.{proofs.ReachedAtOnce.{one_passes, one_reach}, proofs.each_monadic.EachMonadicAnnounced.reached.Goals.{in-None, in-Some}}
use Rattle.scalar_fns.proofs.each_monadic.EachMonadicAnnounced.reached.Goals as goal

pub returns-clause-passes : goal.returns-clause-passes
returns-clause-passes g c = one_passes c.args._args.now c.requires.count

pub returns-clause-reach : goal.returns-clause-reach
returns-clause-reach g c =
    let changed = g.M.ChangedBox.changed in
    let box = changed c.index-moved-0.result in
    let is : c.match-changed_box.reach ≡ as_reach box = elim c.match-changed_box.branch [
      | in-None w ↦ w.reach-is ∙ sym (ap as_reach w.in-None.ensures)
      | in-Some w ↦ w.reach-is ∙ ap (λ (region : List Interval). Inside region) w.copy.ensures ∙ sym (ap as_reach w.in-Some.ensures)
    ] in
    is ∙ sym (one_reach c.args.self.now.function c.args._args.now (map changed c.args.moved.now) box c.requires.count (ap (map changed) (one_argument c.args.moved.now _ (c.requires.moves ∙ c.requires.count) c.index-moved-0.is)) c.requires.fit)
