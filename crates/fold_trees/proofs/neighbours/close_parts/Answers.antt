use Rattle.std.{proofs.Common.{◌≡◌, ◌∙◌, ℕ, ℤ, suc, ◌+◌, ◌-◌, ◌*◌, ◌/◌, ◌<◌, length, get_or, set, ap, sym, subst, arith}, proofs.lemmas.List.{length-set, get_or-set_other, get_or_read}, proofs.lemmas.Nat.{pow_pos}}
use Rattle.fold_trees.{proofs.LineEnds.{near_node, end_is, first_told, second_told, kept_up, kept_within}, proofs.PairEnds.{node_is, first_is, second_is}, proofs.neighbours.close_parts.Goals.{After-index-nodes-node-in-loop-half}, proofs.neighbours.close_parts.Given.{Over}}
use Rattle.fold_trees.specs.LineTrees.{segment, node_of, ArePartsKeptUpTo}
use Rattle.fold_trees.proofs.neighbours.close_parts.Goals as goal

-- the end of the joined part
ends : (g : Over) (c : After-index-nodes-node-in-loop-half g) → c.args.end ≡ (c.args.end / (2 * c.loop-half.half) - 1) * (2 * c.loop-half.half) + 2 * c.loop-half.half
ends g c = end_is c.args.end c.loop-half.half c.loop-half-test.true c.requires.some

-- its nodes lie in the list
inside : (g : Over) (c : After-index-nodes-node-in-loop-half g) → c.args.line.node + (c.args.end - c.loop-half.half) - 1 + c.loop-half.half / 2 < length c.loop-half.nodes
inside g c =
    let inv = c.loop-half.invariant in
    omega (arith, c.requires.nodes, inv.sized, near_node c.args.line c.args.end c.requires.near, ends g c, inv.half.1, pow_pos inv.half.0)

-- the node of the earlier half
earlier : (g : Over) (c : After-index-nodes-node-in-loop-half g) (x : ℕ → ℤ) → ArePartsKeptUpTo g.P.Part.tells c.args.end c.args.width c.args.line.count x (node_of g.P.Part.blank c.args.line c.args.nodes.now)
    → g.P.Part.tells c.index-nodes-node.result (segment x ((c.args.end / (2 * c.loop-half.half) - 1) * (2 * c.loop-half.half)) c.loop-half.half)
earlier g c x h =
    let nodes = c.loop-half.nodes in
    let inv = c.loop-half.invariant in
    let at = first_is c.args.line c.args.end c.loop-half.half inv.half.0 _ inv.half.1 (ends g c) c.requires.near in
    rw ((get_or_read nodes _ c.index-nodes-node.result (omega (arith, inside g c)) c.index-nodes-node.is g.P.Part.blank) ∙ sym (ap (λ k. get_or nodes k g.P.Part.blank) at))
    (first_told g.P.Part.blank g.P.Part.tells c.args.line nodes x c.args.end c.loop-half.half inv.half.0 inv.half.1 c.loop-half-test.true c.requires.some c.requires.below (inv.kept x h))

-- the node of the later half
later : (g : Over) (c : After-index-nodes-node-in-loop-half g) (x : ℕ → ℤ) → ArePartsKeptUpTo g.P.Part.tells c.args.end c.args.width c.args.line.count x (node_of g.P.Part.blank c.args.line c.args.nodes.now)
    → g.P.Part.tells c.index-nodes-node-in-loop-half.result (segment x ((c.args.end / (2 * c.loop-half.half) - 1) * (2 * c.loop-half.half) + c.loop-half.half) c.loop-half.half)
later g c x h =
    let nodes = c.loop-half.nodes in
    let inv = c.loop-half.invariant in
    let read = get_or_read nodes _ c.index-nodes-node-in-loop-half.result (inside g c) c.index-nodes-node-in-loop-half.is g.P.Part.blank in
    rw (read ∙ sym (ap (λ k. get_or nodes k g.P.Part.blank) (second_is c.args.line c.args.end c.loop-half.half inv.half.0 _ inv.half.1 (ends g c) c.requires.near)))
    (second_told g.P.Part.blank g.P.Part.tells c.args.line nodes x c.args.end c.loop-half.half inv.half.0 inv.half.1 c.loop-half-test.true c.requires.some c.requires.below (inv.kept x h))

pub join-requires-clause-here : goal.join-requires-clause-here
join-requires-clause-here g c =
    (segment c.requires.kept.0 ((c.args.end / (2 * c.loop-half.half) - 1) * (2 * c.loop-half.half)) c.loop-half.half, earlier g c c.requires.kept.0 c.requires.kept.1)

pub join-requires-clause-later : goal.join-requires-clause-later
join-requires-clause-later g c =
    (segment c.requires.kept.0 ((c.args.end / (2 * c.loop-half.half) - 1) * (2 * c.loop-half.half) + c.loop-half.half) c.loop-half.half, later g c c.requires.kept.0 c.requires.kept.1)

pub loop-half-preserved : goal.loop-half-preserved
loop-half-preserved g c =
    let here = (goal.at.loop-half-preserved g c).After-index-nodes-node-in-loop-half in
    let blank = g.P.Part.blank in
    let tells = g.P.Part.tells in
    let line = c.args.line in
    let end = c.args.end in
    let half = c.loop-half.half in
    let nodes = c.loop-half.nodes in
    let inv = c.loop-half.invariant in
    let s = c.join.result in
    let low = inv.half.0 in
    let node = line.node + (end - half) - 1 in
    let ends = ends g here in
    let at = node_is line end half low _ inv.half.1 ends c.requires.near in
    let within : node < length nodes = omega (arith, inside g here) in
    record {
      half = (suc low, ap (λ k. 2 * k) inv.half.1 ∙ grind arith);
      within = omega (arith, ends);
      kept = λ x h. subst (λ k. ArePartsKeptUpTo tells end (2 * half) line.count x (node_of blank line (set nodes k s))) at
          (kept_up blank tells line nodes x end half low inv.half.1 c.loop-half-test.true c.requires.some c.requires.below (inv.kept x h) s (omega (arith, c.requires.near))
          (subst (λ k. k < length nodes) (sym at) within) (c.join.ensures _ _ (earlier g here x h) (later g here x h)));
      others = λ q below. get_or-set_other nodes node q s blank (λ e. let no : ⊥ = omega (arith, e, below, ends, inv.half.1, pow_pos low) in no) ∙ inv.others q below;
      sized = length-set nodes node s ∙ inv.sized;
    }

pub returns-clause-kept : goal.returns-clause-kept
returns-clause-kept g c x h =
    let inv = c.loop-half.invariant in
    kept_within g.P.Part.tells c.args.end c.loop-half.half inv.half.0 c.args.line.count x (node_of g.P.Part.blank c.args.line c.loop-half.nodes) inv.half.1 c.loop-half-test.false (inv.kept x h)
