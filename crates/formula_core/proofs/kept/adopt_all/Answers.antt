use Rattle.std.{proofs.Common.{◌≡◌, ◌∙◌, ◌+◌, ◌-◌, ◌<◌, ◌≤◌, ◌∷◌, ◌++◌, [], List, length, take, sym, ap, arith, rules}, proofs.lemmas.List.{length-append, take_more, take_all}}
use Rattle.formula_core.{specs.declared.kept.Kept.{Kept}, specs.declared.kept.NodeChange.{NodeChange}, specs.Changes.{each_with}, specs.Holdings.{holding, node_taking, no_change, IsFit}, proofs.Adopted.{no_node, left_after}}
use Rattle.formula_core.proofs.kept.adopt_all.Goals as goal

pub loop-changes-preserved-then-can_be_lent :
    goal.loop-changes-preserved-then-can_be_lent
loop-changes-preserved-then-can_be_lent c =
    let all = c.loop-changes.changes.items in
    let n = c.len-place.result - 1 in
    let d = c.index-then-can_be_lent.result.now in
    let below : n < length all = search rules in
    let high : length all ≤ n + 1 = omega (arith, c.len-place.ensures, c.loop-changes.changes.ok.0) in
    let front : c.remove_last.new.changes.items ≡ take n all = c.remove_last.ensures ∙ ap (λ k. take (k - 1) all) (omega (arith, c.len-place.ensures, c.loop-changes.changes.ok.0)) in
    let last : all ≡ c.remove_last.new.changes.items ++ d ∷ [] =
    sym (take_all (n + 1) all high) ∙ take_more all n d below ∙ ap (λ e. take n all ++ e ∷ []) (sym c.index-then-can_be_lent.ensures) ∙ ap (λ (ds : List NodeChange). ds ++ d ∷ []) (sym front) in
    let place : n ≡ length c.remove_last.new.changes.items = omega (arith, below, high, ap (λ (ds : List NodeChange). length ds) last, length-append c.remove_last.new.changes.items (d ∷ [])) in
    left_after NodeChange Kept node_taking (λ d k. IsFit d (holding k)) no_change no_node all c.remove_last.new.changes.items d c.loop-changes.nodes.items n c.index_mut.result.now c.adopt_lent.new.self
    (each_with node_taking c.args.changes.now.items c.args.nodes.now.items) c.loop-changes.invariant last place c.index_mut.ensures.value c.adopt_lent.ensures

pub loop-changes-preserved-in-Some : goal.loop-changes-preserved-in-Some
loop-changes-preserved-in-Some c =
    let all = c.loop-changes.changes.items in
    let n = c.len-place.result - 1 in
    let place : n ≡ length c.pop.new.self.items =
    omega (arith, c.len-place.ensures, c.loop-changes.changes.ok.0, ap (λ (ds : List NodeChange). length ds) c.in-Some.ensures.items, length-append c.pop.new.self.items (c.in-Some.change ∷ [])) in
    left_after NodeChange Kept node_taking (λ d k. IsFit d (holding k)) no_change no_node all c.pop.new.self.items c.in-Some.change c.loop-changes.nodes.items n c.index_mut-in-Some.result.now c.adopt.new.self
    (each_with node_taking c.args.changes.now.items c.args.nodes.now.items) c.loop-changes.invariant c.in-Some.ensures.items place c.index_mut-in-Some.ensures.value c.adopt.ensures
