use Rattle.{std.{proofs.Common.{◌≡◌, ◌∙◌, map, true, sym, ap, subst}, specs.Prelude.{is_some}}, index_region.proofs.Passing.{two_arguments}}
use Rattle.scalar_fns.{specs.EachDyadic.{KeepsPlaces}, proofs.ReachedAtOnce.{some_as, two_pass, two_reach}, proofs.each_dyadic.EachDyadicAnnounced.reached.Given.{Over}, proofs.each_dyadic.EachDyadicAnnounced.reached.Goals.{After-keep_places}}
use Rattle.scalar_fns.proofs.each_dyadic.EachDyadicAnnounced.reached.Goals as goal

-- the shortcut by the changed boxes applies
keeps : (g : Over) (c : After-keep_places g) → c.keep_places.result ≡ true
    → KeepsPlaces c.index-args-0.result c.index-args-1.result (is_some (g.M.ChangedBox.changed c.index-moved-0.result)) (is_some (g.M.ChangedBox.changed c.index-moved-1.result))
keeps g c holds =
    let left = c.is_some-left_changed.ensures ∙ some_as c.changed_box.result (g.M.ChangedBox.changed c.index-moved-0.result) c.changed_box.ensures in
    let right = c.is_some-right_changed.ensures ∙ some_as c.changed_box-2.result (g.M.ChangedBox.changed c.index-moved-1.result) c.changed_box-2.ensures in
    subst (λ b. KeepsPlaces c.index-args-0.result c.index-args-1.result (is_some (g.M.ChangedBox.changed c.index-moved-0.result)) b) right
    (subst (λ b. KeepsPlaces c.index-args-0.result c.index-args-1.result b c.is_some-right_changed.result) left (c.keep_places.ensures holds))

pub returns-clause-passes : goal.returns-clause-passes
returns-clause-passes g c =
    let here = (goal.at.returns-clause-passes g c).After-keep_places in
    let changed = g.M.ChangedBox.changed in
    two_pass c.args.args.now (map changed c.args.moved.now) _ _ _ _ (two_arguments c.args.args.now _ _ c.requires.count c.index-args-0.is c.index-args-1.is)
    (ap (map changed) (two_arguments c.args.moved.now _ _ (c.requires.moves ∙ c.requires.count) c.index-moved-0.is c.index-moved-1.is)) (keeps g here c.if-not-keep_places.false)

pub returns-clause-reach : goal.returns-clause-reach
returns-clause-reach g c =
    let here = (goal.at.returns-clause-reach g c).After-keep_places in
    let changed = g.M.ChangedBox.changed in
    c.joined.ensures
    ∙ sym (two_reach c.args.args.now (map changed c.args.moved.now) _ _ _ _ (two_arguments c.args.args.now _ _ c.requires.count c.index-args-0.is c.index-args-1.is)
    (ap (map changed) (two_arguments c.args.moved.now _ _ (c.requires.moves ∙ c.requires.count) c.index-moved-0.is c.index-moved-1.is)) (keeps g here c.if-not-keep_places.false) c.args.self.now.function c.requires.fit)
