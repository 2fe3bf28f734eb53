use Rattle.std.{proofs.Common.{◌≡◌, ℕ, ◌<◌, slice_index, true, List, Bool, length, set, subst, arith, sym, nat_eq, ◌∙◌}, specs.List.{Contains, IsDistinct}, proofs.lemmas.List.{length-set}}
use Rattle.dep_order.{specs.TopologicalOrder.{Points, IsPlaced, IsUnplaced, IsHit}, proofs.Chains.{back_along}, proofs.Marks.{of_each, none_marked, now_listed, now_marked, still_once, IsDistinct-none, now_reach, points_from}}
use Rattle.dep_order.proofs.reachability.dependents.Goals as goal

pub loop-next-init : goal.loop-next-init
loop-next-init c =
    let marks = c.in_ok-marks.ensures.items_if_clones_equal (λ y e. e) in
    record {
      size = omega (arith, c.in_ok-marks.ensures.len);
      placed = λ a p. absurd (none_marked _ a (subst (λ ms. IsPlaced ms a) marks p));
      listed = λ i h. absurd (omega arith);
      once = subst (IsDistinct nat_eq) (sym c.new-found.ensures.items) IsDistinct-none;
      reach = λ a p. absurd (none_marked _ a (subst (λ ms. IsPlaced ms a) marks p));
    }

pub loop-next-preserved : goal.loop-next-preserved
loop-next-preserved c =
    let v = c.loop-next.invariant in
    let marks = c.loop-next.marks.items in
    let next = c.in-Some.next in
    let same : c.deref.result.now ≡ marks = c.deref.ensures.value in
    let left = subst (λ (ms : List Bool). IsUnplaced ms next) same c.in-Some.ensures.left in
    let hit = subst (λ (ms : List Bool). (b : ℕ) × Points c.args.graph.now next b × IsHit ms c.args.node b) same c.in-Some.ensures.hit in
    let more = c.in_ok-push.ensures.items in
    record {
      size = length-set marks next true ∙ v.size;
      placed = λ a p. subst (λ ys. Contains ys a) (sym more) (now_listed marks next left c.loop-next.found.items v.placed a p);
      listed = subst (λ ys. (i : ℕ) → i < length ys → IsPlaced (set marks next true) (slice_index ys i)) (sym more) (now_marked marks next left c.loop-next.found.items v.listed);
      once = subst (IsDistinct nat_eq) (sym more) (still_once marks next left c.loop-next.found.items v.listed v.once);
      reach = now_reach c.args.graph.now c.args.node marks next v.reach hit;
    }

pub returns-clause-reach : goal.returns-clause-reach
returns-clause-reach c = λ a h.
    c.loop-next.invariant.reach a (of_each (IsPlaced c.loop-next.marks.items) c.loop-next.found.items c.loop-next.invariant.listed a h)

pub returns-clause-all : goal.returns-clause-all
returns-clause-all c = λ a r.
    let none = subst (λ (ms : List Bool). (a b : ℕ) → a < length c.args.graph.now → Points c.args.graph.now a b → IsHit ms c.args.node b → IsPlaced ms a) c.deref.ensures.value c.in_default.ensures.none in
    c.loop-next.invariant.placed a
    (back_along (Points c.args.graph.now) (IsPlaced c.loop-next.marks.items) c.args.node (λ x y p h. none x y (points_from c.args.graph.now x y p) p h) a r.0 r.1)
