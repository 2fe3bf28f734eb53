use Rattle.std.{proofs.Common.{◌≡◌, ℕ, ◌<◌, slice_index, true, List, length, set, subst, arith, sym, take, nat_eq, Bool, ◌∙◌}, specs.List.{Contains, IsDistinct}, proofs.lemmas.List.{length-set}}
use Rattle.dep_order.{specs.TopologicalOrder.{Points, IsPlaced, IsUnplaced, IsStuck}, proofs.Marks.{none_marked, now_listed, now_marked, still_once, still_after, IsDistinct-none}}
use Rattle.dep_order.proofs.topological_order.order.Goals as goal

pub loop-first-init : goal.loop-first-init
loop-first-init c =
    record {
      size = omega (arith, c.in_ok-placed.ensures.len);
      placed = λ a p. absurd (none_marked _ a (subst (λ ms. IsPlaced ms a) (c.in_ok-placed.ensures.items_if_clones_equal (λ y e. e)) p));
      ordered = λ i h. absurd (omega arith);
      once = subst (IsDistinct nat_eq) (sym c.new-order.ensures.items) IsDistinct-none;
      after = λ i b h p. absurd (omega arith);
    }

pub loop-first-preserved : goal.loop-first-preserved
loop-first-preserved c =
    let v = c.loop-first.invariant in
    let marks = c.loop-first.placed.items in
    let node = c.in-Some-next_ready.node in
    let xs = c.loop-first.order.items in
    let same : c.deref-in-Some.result.now ≡ marks = c.deref-in-Some.ensures.value in
    let left = subst (λ (ms : List Bool). IsUnplaced ms node) same c.in-Some-next_ready.ensures.left in
    let ready = λ (b : ℕ) (p : Points c.args.graph.now node b). v.placed b (subst (λ (ms : List Bool). IsPlaced ms b) same (c.in-Some-next_ready.ensures.ready b p)) in
    let more = c.in_ok-push-in-Some-next_ready.ensures.items in
    record {
      size = length-set marks node true ∙ v.size;
      placed = λ a p. subst (λ ys. Contains ys a) (sym more) (now_listed marks node left xs v.placed a p);
      ordered = subst (λ ys. (i : ℕ) → i < length ys → IsPlaced (set marks node true) (slice_index ys i)) (sym more) (now_marked marks node left xs v.ordered);
      once = subst (IsDistinct nat_eq) (sym more) (still_once marks node left xs v.ordered v.once);
      after = subst (λ ys. (i b : ℕ) → i < length ys → Points c.args.graph.now (slice_index ys i) b → Contains (take i ys) b) (sym more) (still_after marks node left xs v.ordered c.args.graph.now v.after ready);
    }

pub cycle-requires-clause-stuck : goal.cycle-requires-clause-stuck
cycle-requires-clause-stuck c =
    subst (λ m. IsStuck c.args.graph.now m) (c.deref-in-Some.ensures.value ∙ sym c.deref-in-None.ensures.value) c.in-None.ensures.none
