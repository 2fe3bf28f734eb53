use Rattle.std.{proofs.Common.{◌≡◌, ℕ, true, List, length, get_or, subst, arith, sym, ap, drop, ◌<◌, ◌∙◌}, specs.List.{Contains}, proofs.lemmas.List.{length-set, get_or_default, take_rest}, proofs.lemmas.Result.{IfOk-weaker}}
use Rattle.dep_order.{specs.TopologicalOrder.{Points, IsUnplaced}, specs.Reachability.{IsCycle}, proofs.Marks.{IsSome-from_none, apart, now_listed}, proofs.Chains.{IsChainTo, IsChainTo-push, cycle_from}}
use Rattle.dep_order.proofs.topological_order.cycle.Goals as goal

pub unwrap-node-requires : goal.unwrap-node-requires
unwrap-node-requires c =
    IsSome-from_none _ (λ all. let s = c.requires.stuck c.loop-seen.node c.loop-seen.invariant.left in apart c.args.placed.now s.0 (all s.0 s.1) s.2)
    c.missing.result c.missing.ensures.none

pub loop-seen-preserved : goal.loop-seen-preserved
loop-seen-preserved c =
    let v = c.loop-seen.invariant in
    let seen = c.loop-seen.seen.items in
    let within : c.loop-seen.node < length seen = omega (arith, v.left.0) in
    let left : IsUnplaced seen c.loop-seen.node = (within, get_or_default seen c.loop-seen.node true c.index.result.now within ∙ sym c.index.ensures ∙ c.loop-seen-test.true) in
    record {
      size = length-set seen c.loop-seen.node true ∙ v.size;
      left = rw c.unwrap-node.ensures at c.missing.ensures.left;
      seen = λ a p. subst (λ xs. Contains xs a) (sym c.in_ok-push.ensures.items) (now_listed seen c.loop-seen.node left c.loop-seen.path.items v.seen a p);
      leads = subst (λ xs. IsChainTo (Points c.args.graph.now) xs c.unwrap-node.result) (sym c.in_ok-push.ensures.items)
          (IsChainTo-push (Points c.args.graph.now) c.loop-seen.path.items c.loop-seen.node c.unwrap-node.result v.leads (rw c.unwrap-node.ensures at c.missing.ensures.points));
    }

pub returns : goal.returns
returns c =
    let R = Points c.args.graph.now in
    let start = c.first_at-start.result in
    let within = subst (λ (xs : List ℕ). start < length xs) c.deref.ensures.value c.first_at-start.ensures.within in
    let found = subst (λ (xs : List ℕ). get_or xs start 0 ≡ c.loop-seen.node) c.deref.ensures.value c.first_at-start.ensures.found in
    let real = cycle_from R c.loop-seen.path.items start c.loop-seen.node c.loop-seen.invariant.leads within found in
    IfOk-weaker c.to_vec.result _ _
    (λ v h. subst (IsCycle R) (sym (h (λ x y e. e) ∙ (take_rest c.deref-2.result.now start ∙ ap (λ xs. drop start xs) c.deref-2.ensures.value))) real)
    c.to_vec.ensures.items_if_clones_equal
