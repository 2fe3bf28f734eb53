use Rattle.std.proofs.Common.{arith, sym, subst}
use Rattle.{item_fns.proofs.Doubts.{none_left, none_right}, scan_fns.{specs.NearTotals.{AreNear}, proofs.LeftScans.{more_lines, results_end}, proofs.NearTotals.{more_near}}}
use Rattle.scan_fns.proofs.near_totals.totals_beside.Goals as goal

pub loop-results-preserved : goal.loop-results-preserved
loop-results-preserved c =
    let is = c.push_line-doubt.ensures.is in
    record {
      lines = more_lines _ c.args.numbers.now c.args.count c.requires c.loop-results.results c.push_line-doubt.new.results (omega (arith, c.loop-results-test.true, c.len.ensures)) c.loop-results.invariant.lines is;
      near = λ h. subst (AreNear c.args.numbers.now 0) (sym is.long)
          (more_near c.args.numbers.now _ _ (c.loop-results.invariant.near (none_left _ _ h)) (c.push_line-doubt.ensures.near (none_right _ _ h)));
    }

pub returns-clause-is : goal.returns-clause-is
returns-clause-is c = results_end _ _ _ _ c.loop-results.invariant.lines.so_far (omega (arith, c.loop-results-test.false, c.len.ensures))
