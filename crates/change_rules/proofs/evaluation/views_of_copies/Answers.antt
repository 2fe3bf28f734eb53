use Rattle.std.proofs.Common.{◌≡◌, ◌∙◌}
use Rattle.change_rules.{proofs.Copied.{view_in, one_more_view}, proofs.evaluation.views_of_copies.Goals.{in-Some-Some, in_default}}
use Rattle.change_rules.proofs.evaluation.views_of_copies.Goals as goal

pub loop-which-preserved : goal.loop-which-preserved
loop-which-preserved c =
    let view : c.match-get.view ≡ c.index-args-which.result = elim c.match-get.branch [
      | in-Some-Some w ↦ w.view-is ∙ w.plain-view.ensures
          ∙ view_in c.loop-which.which c.args.args.now c.args.copies.now w.in-Some-Some.field-0.now w.in-Some-Some.array c.index-args-which.result c.requires w.in-Some-Some.ensures.lookup.0 w.in-Some-Some.ensures.lookup.1
          w.in-Some-Some.field-0-is c.loop-which-test.true c.index-args-which.is
      | in_default w ↦ w.view-is ∙ w.again-view.ensures
    ] in
    one_more_view c.loop-which.which c.args.args.now c.loop-which.views.items c.push.new.self.items c.match-get.view c.index-args-which.result c.loop-which-test.true c.loop-which.invariant c.in_ok-push.ensures.items view c.index-args-which.is
