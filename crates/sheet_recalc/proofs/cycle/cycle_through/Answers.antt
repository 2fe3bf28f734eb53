use Rattle.{std.{proofs.Common.{◌∙◌, List, [], ◌∷◌, ◌++◌, ℕ, ap, arith}, specs.Map.{keys_of}}, dep_order.proofs.Climbing.{chain_join}}
use Rattle.sheet_recalc.{specs.Names.{Refers}, specs.ProposedSheet.{outline_of, proposed_names}, proofs.Cycles.{number_within}}
use Rattle.sheet_recalc.proofs.cycle.cycle_through.Goals as goal

pub loop-next-smaller : goal.loop-next-smaller
loop-next-smaller c = omega (arith, c.step_from-next.ensures.later, number_within (keys_of c.args.found.now.entries) c.step_from-next.result)

pub loop-next-preserved : goal.loop-next-preserved
loop-next-preserved c =
    let o = outline_of c.args.proposed.now in
    let now = c.loop-next.invariant.walked in
    record {
      walked = (
        now.0 ++ c.loop-next.next ∷ [],
        c.in_ok-push-2.ensures.items ∙ ap (λ (names : List (List ℕ)). names ++ c.loop-next.next ∷ []) now.1,
        chain_join (Refers (proposed_names o)) o.name now.0 c.loop-next.next [] c.step_from-next.result now.2 c.step_from-next.ensures.refers,
      );
      hit = c.step_from-next.ensures.hit;
    }
