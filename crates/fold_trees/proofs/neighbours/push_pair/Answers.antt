use Rattle.std.{proofs.Common.{◌≡◌, ◌∙◌, ℕ, ◌+◌, ◌<◌, ◌++◌, ◌∷◌, [], length, drop, get_or, ap, sym, subst, arith, rules}, proofs.lemmas.List.{take_at, length-append, get_or_append_left, get_or_push}}
use Rattle.fold_trees.{specs.LineTrees.{slot_of, nth_node, segment, node_of, ArePartsKeptUpTo}, proofs.LineEnds.{near_node, least_more}, proofs.neighbours.push_pair.Goals.{After-deref_mut}, proofs.neighbours.push_pair.Given.{Over}}
use Rattle.fold_trees.proofs.neighbours.push_pair.Goals as goal

-- the nodes that are pushed
pushed : (g : Over) (c : After-deref_mut g) → c.deref_mut.result.now ≡ (c.args.nodes.now.items ++ c.two_from-pair.result ∷ []) ++ c.two_from-pair.result ∷ []
pushed g c = c.deref_mut.ensures.value ∙ c.push_reserved-2.ensures.items ∙ ap (λ ns. ns ++ c.two_from-pair.result ∷ []) c.push_reserved.ensures.items

-- the earlier nodes
before : (g : Over) (c : After-deref_mut g) (p : ℕ) → p < c.args.line.node + c.args.from → get_or c.deref_mut.result.now p g.P.Part.blank ≡ get_or c.args.nodes.now.items p g.P.Part.blank
before g c p below =
    let s = c.two_from-pair.result in
    let nodes = c.args.nodes.now.items in
    let long : length nodes ≡ c.args.line.node + c.args.from = search rules in
    let inside : p < length nodes = omega (arith, long, below) in
    ap (λ ns. get_or ns p g.P.Part.blank) (pushed g c)
    ∙ get_or_append_left (nodes ++ s ∷ []) (s ∷ []) g.P.Part.blank p (omega (arith, inside, length-append nodes (s ∷ [])))
    ∙ get_or_append_left nodes (s ∷ []) g.P.Part.blank p inside

kept : (g : Over) (c : After-deref_mut g)
    → ArePartsKeptUpTo g.P.Part.tells (c.args.from + 2) 2 c.args.line.count (slot_of c.args.line c.args.numbers.now) (node_of g.P.Part.blank c.args.line c.deref_mut.result.now)
kept g c =
    let blank = g.P.Part.blank in
    let line = c.args.line in
    let from = c.args.from in
    let s = c.two_from-pair.result in
    let nodes = c.args.nodes.now.items in
    let now = c.deref_mut.result.now in
    let x = slot_of line c.args.numbers.now in
    let long : length nodes ≡ line.node + from = search rules in
    let here : node_of blank line now (from + 1) ≡ s =
    ap (λ k. get_or now k blank) (omega (arith, near_node line (from + 1) c.requires.near)) ∙ ap (λ ns. get_or ns (line.node + from) blank) (pushed g c)
    ∙ get_or_append_left (nodes ++ s ∷ []) (s ∷ []) blank (line.node + from) (omega (arith, long, length-append nodes (s ∷ [])))
    ∙ get_or_push nodes s blank (line.node + from) long in
    least_more g.P.Part.tells from line.count x (node_of blank line nodes) (node_of blank line now) c.requires.two (omega (arith, c.requires.full))
    (λ meeting some below. before g c (nth_node line meeting) (omega (arith, near_node line meeting c.requires.near, some, below)))
    (subst (λ t. g.P.Part.tells t (segment x from 2)) (sym here) c.two_from-pair.ensures) c.requires.kept

pub close_parts-requires-clause-width : goal.close_parts-requires-clause-width
close_parts-requires-clause-width g c = (0, omega arith)

pub close_parts-requires-clause-kept : goal.close_parts-requires-clause-kept
close_parts-requires-clause-kept g c = (slot_of c.args.line c.args.numbers.now, kept g c)

pub returns-clause-kept : goal.returns-clause-kept
returns-clause-kept g c =
    rw (take_at c.close_parts.new.nodes (drop (length c.close_parts.new.nodes) c.push_reserved-2.new.self.items) c.push_reserved-2.new.self.len (c.close_parts.ensures.length ∙ c.deref_mut.ensures.len))
    (c.close_parts.ensures.kept (slot_of c.args.line c.args.numbers.now) (kept g (goal.at.returns-clause-kept g c).After-deref_mut))

pub returns-clause-others : goal.returns-clause-others
returns-clause-others g c p below =
    rw (take_at c.close_parts.new.nodes (drop (length c.close_parts.new.nodes) c.push_reserved-2.new.self.items) c.push_reserved-2.new.self.len (c.close_parts.ensures.length ∙ c.deref_mut.ensures.len))
    (c.close_parts.ensures.others p below ∙ before g (goal.at.returns-clause-others g c).After-deref_mut p (omega (arith, below)))
