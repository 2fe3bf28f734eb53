use Rattle.std.{proofs.Common.{◌≡◌, ◌∙◌, ◌+◌, ◌-◌, ◌*◌, ◌^◌, ◌≤◌, ◌<◌, min, sym, ap, subst, get_or, length, arith}, proofs.lemmas.List.{get_or_default}, proofs.lemmas.Nat.{pow_pos}}
use Rattle.fold_trees.{specs.LineTrees.{slot_of, nth_node, segment, node_of}, proofs.LineParts.{least_part, half_level}}
use Rattle.fold_trees.proofs.line_tree.LineTree.part.Goals as goal

pub returns : goal.returns
returns g c =
    let tree = c.args.self.now in
    let from = c.args.from in
    let x = slot_of tree.line tree.numbers.now in
    let next = c.next_power_of_two-half.ensures in
    let long_is = c.min-long.ensures in
    let below = c.requires.from in
    let part = c.requires.part in
    let width_is = part.width_is in
    let positive = pow_pos part.level in
    let p = least_part from c.args.width c.min-long.result c.next_power_of_two-half.result part (omega (arith, long_is, below, width_is, positive)) (omega (arith, long_is))
    (next.power, next.lower_bound, next.upper_bound) in
    let two : 2 ≤ c.next_power_of_two-half.result =
    omega (arith, long_is, c.if-long-eq1.false, next.lower_bound, below, width_is, positive) in
    let more = half_level p.level c.next_power_of_two-half.result p.power two in
    let unit = 2 ^ more.0 in
    let size : c.next_power_of_two-half.result ≡ 2 * unit = more.1 in
    let at : from ≡ p.place * (2 * unit) = p.from_is ∙ ap (λ k. p.place * k) (sym p.power ∙ size) in
    let within = p.within in
    let enough = p.enough in
    let long : min (2 * unit) (tree.line.count - p.place * (2 * unit)) ≡ min c.args.width (tree.line.count - from) = omega (arith, size, at, within, enough, long_is, below) in
    let inside : p.place * (2 * unit) + unit < tree.line.count = omega (arith, at, size, next.upper_bound, long_is, two, enough, below) in
    let kept = c.requires.kept more.0 p.place (omega (arith, at)) (omega (arith, at, size, within)) inside in
    let first : 1 ≤ p.place * (2 * unit) + unit = let q = pow_pos more.0 in omega (arith, q) in
    let placed = c.nth_node.ensures ∙ ap (nth_node tree.line) (omega (arith, size, at)) in
    let listed : c.nth_node.result < length tree.nodes.now = omega (arith, c.requires.inside.nodes.node (p.place * (2 * unit) + unit) first inside, placed) in
    subst (λ s. g.P.Part.tells s (segment x from (min c.args.width (tree.line.count - from))))
    (sym (get_or_default tree.nodes.now c.nth_node.result c.index-self-nth_node.result g.P.Part.blank listed ∙ ap (λ k. get_or tree.nodes.now k g.P.Part.blank) placed))
    (subst (g.P.Part.tells ((node_of g.P.Part.blank tree.line tree.nodes.now) (p.place * (2 * unit) + unit))) (λ i. segment x (sym at i) (long i)) kept)
