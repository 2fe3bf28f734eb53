use Rattle.std.{proofs.Common.{◌≡◌, ◌∙◌, ℕ, ◌+◌, ◌-◌, ◌*◌, ◌/◌, ◌<◌, ◌∷◌, [], length, drop, get_or, ap, sym, subst, arith, rules}, proofs.lemmas.List.{take_at, get_or_append_left}}
use Rattle.fold_trees.{specs.LineTrees.{slot_of, nth_node, node_of, ArePartsKept}, proofs.LineEnds.{near_node, kept_beside_last}, proofs.neighbours.push_line.Goals.{After-deref_mut, then-last-eq1, else-last-eq1}, proofs.neighbours.push_line.Given.{Over}}
use Rattle.fold_trees.proofs.neighbours.push_line.Goals as goal

-- the nodes before the last one
before : (g : Over) (c : After-deref_mut g) (p : ℕ) → p < c.args.line.node + 2 * ((c.args.line.count - 1) / 2) → get_or c.deref_mut.result.now p g.P.Part.blank ≡ get_or c.push_fours.new.nodes.items p g.P.Part.blank
before g c p below =
    let long : length c.push_fours.new.nodes.items ≡ c.args.line.node + 2 * ((c.args.line.count - 1) / 2) = search rules in
    ap (λ ns. get_or ns p g.P.Part.blank) c.deref_mut.ensures.value
    ∙ elim c.if-last-eq1.branch [
      | then-last-eq1 w ↦
          ap (λ v. get_or v.items p g.P.Part.blank) w.nodes-is ∙ ap (λ ns. get_or ns p g.P.Part.blank) w.push_reserved.ensures.items
          ∙ get_or_append_left c.push_fours.new.nodes.items (w.of.result ∷ []) g.P.Part.blank p (omega (arith, long, below))
      | else-last-eq1 w ↦ ap (λ v. get_or v.items p g.P.Part.blank) w.nodes-is
    ]

pub renew-requires-clause-kept : goal.renew-requires-clause-kept
renew-requires-clause-kept g c =
    let line = c.args.line in
    kept_beside_last g.P.Part.tells (2 * ((c.args.line.count - 1) / 2)) line.count (slot_of line c.args.numbers.now) (node_of g.P.Part.blank line c.push_fours.new.nodes.items)
    (node_of g.P.Part.blank line c.deref_mut.result.now) c.requires.some (omega arith) (omega arith)
    (λ meeting some below. before g c (nth_node line meeting) (omega (arith, near_node line meeting c.requires.near, some, below)))
    c.push_fours.ensures.kept

pub returns-clause-kept : goal.returns-clause-kept
returns-clause-kept g c =
    let long : length c.renew.new.nodes ≡ c.if-last-eq1.nodes.len = c.renew.ensures.length ∙ c.deref_mut.ensures.len in
    subst (λ ns. ArePartsKept g.P.Part.tells c.args.line.count (slot_of c.args.line c.args.numbers.now) (node_of g.P.Part.blank c.args.line ns))
    (sym (take_at c.renew.new.nodes (drop (length c.renew.new.nodes) c.if-last-eq1.nodes.items) c.if-last-eq1.nodes.len long)) c.renew.ensures.kept

pub returns-clause-others : goal.returns-clause-others
returns-clause-others g c p below =
    let long : length c.renew.new.nodes ≡ c.if-last-eq1.nodes.len = c.renew.ensures.length ∙ c.deref_mut.ensures.len in
    ap (λ ns. get_or ns p g.P.Part.blank) (take_at c.renew.new.nodes (drop (length c.renew.new.nodes) c.if-last-eq1.nodes.items) c.if-last-eq1.nodes.len long)
    ∙ c.renew.ensures.others p (λ meeting some high e. let no : ⊥ = omega (arith, e, near_node c.args.line meeting c.requires.near, below) in no)
    ∙ before g (goal.at.returns-clause-others g c).After-deref_mut p (omega (arith, below)) ∙ c.push_fours.ensures.others p below
