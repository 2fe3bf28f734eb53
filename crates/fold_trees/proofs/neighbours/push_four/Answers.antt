use Rattle.std.{proofs.Common.{◌≡◌, ◌∙◌, ℕ, ◌+◌, ◌<◌, ◌++◌, ◌∷◌, [], List, length, drop, get_or, ap, sym, subst, arith, rules}, proofs.lemmas.List.{take_at, length-append, get_or_append_left, get_or_push}}
use Rattle.fold_trees.{specs.LineTrees.{nth_node, slot_of, segment, node_of, ArePartsKeptUpTo}, proofs.LineEnds.{near_node}, proofs.Segments.{segment_split}, proofs.Fours.{four_more}, proofs.neighbours.push_four.Goals.{After-deref_mut}, proofs.neighbours.push_four.Given.{Over}}
use Rattle.fold_trees.proofs.neighbours.push_four.Goals as goal

-- the places of four more nodes
module _ {P : Type 0} (blank : P) (nodes : List P) (a b c d : P) where
  abbrev all : List P
  all = (((nodes ++ a ∷ []) ++ b ∷ []) ++ c ∷ []) ++ d ∷ []

  one : length (nodes ++ a ∷ []) ≡ length nodes + 1
  one = length-append nodes (a ∷ [])

  two : length ((nodes ++ a ∷ []) ++ b ∷ []) ≡ length nodes + 2
  two = length-append (nodes ++ a ∷ []) (b ∷ []) ∙ ap (λ k. k + 1) one ∙ omega arith

  three : length (((nodes ++ a ∷ []) ++ b ∷ []) ++ c ∷ []) ≡ length nodes + 3
  three = length-append ((nodes ++ a ∷ []) ++ b ∷ []) (c ∷ []) ∙ ap (λ k. k + 1) two ∙ omega arith

  up_to_three : (p : ℕ) → p < length nodes + 3 → get_or all p blank ≡ get_or (((nodes ++ a ∷ []) ++ b ∷ []) ++ c ∷ []) p blank
  up_to_three p h = get_or_append_left (((nodes ++ a ∷ []) ++ b ∷ []) ++ c ∷ []) (d ∷ []) blank p (omega (arith, h, three))

  up_to_two : (p : ℕ) → p < length nodes + 2 → get_or all p blank ≡ get_or ((nodes ++ a ∷ []) ++ b ∷ []) p blank
  up_to_two p h = up_to_three p (omega (arith, h)) ∙ get_or_append_left ((nodes ++ a ∷ []) ++ b ∷ []) (c ∷ []) blank p (omega (arith, h, two))

  up_to_one : (p : ℕ) → p < length nodes + 1 → get_or all p blank ≡ get_or (nodes ++ a ∷ []) p blank
  up_to_one p h = up_to_two p (omega (arith, h)) ∙ get_or_append_left (nodes ++ a ∷ []) (b ∷ []) blank p (omega (arith, h, one))

  old_ones : (p : ℕ) → p < length nodes → get_or all p blank ≡ get_or nodes p blank
  old_ones p h = up_to_one p (omega (arith, h)) ∙ get_or_append_left nodes (a ∷ []) blank p h

  first_one : (p : ℕ) → p ≡ length nodes → get_or all p blank ≡ a
  first_one p is = up_to_one p (omega (arith, is)) ∙ get_or_push nodes a blank p (sym is)

  second_one : (p : ℕ) → p ≡ length nodes + 1 → get_or all p blank ≡ b
  second_one p is = up_to_two p (omega (arith, is)) ∙ get_or_push (nodes ++ a ∷ []) b blank p (omega (arith, is, one))

  third_one : (p : ℕ) → p ≡ length nodes + 2 → get_or all p blank ≡ c
  third_one p is = up_to_three p (omega (arith, is)) ∙ get_or_push ((nodes ++ a ∷ []) ++ b ∷ []) c blank p (omega (arith, is, two))

-- the nodes that are pushed
pushed : (g : Over) (c : After-deref_mut g) → c.deref_mut.result.now ≡ all g.P.Part.blank c.args.nodes.now.items c.two_from-first.result c.join.result c.two_from-second.result c.two_from-second.result
pushed g c =
    c.deref_mut.ensures.value ∙ c.push_reserved-4.ensures.items
    ∙ ap (λ ns. ns ++ c.two_from-second.result ∷ []) (c.push_reserved-3.ensures.items
    ∙ ap (λ ns. ns ++ c.two_from-second.result ∷ []) (c.push_reserved-2.ensures.items
    ∙ ap (λ ns. ns ++ c.join.result ∷ []) c.push_reserved.ensures.items))

-- the earlier nodes
before : (g : Over) (c : After-deref_mut g) (p : ℕ) → p < c.args.line.node + c.args.from → get_or c.deref_mut.result.now p g.P.Part.blank ≡ get_or c.args.nodes.now.items p g.P.Part.blank
before g c p below =
    let long : length c.args.nodes.now.items ≡ c.args.line.node + c.args.from = search rules in
    ap (λ ns. get_or ns p g.P.Part.blank) (pushed g c)
    ∙ old_ones g.P.Part.blank c.args.nodes.now.items c.two_from-first.result c.join.result c.two_from-second.result c.two_from-second.result p (omega (arith, long, below))

kept : (g : Over) (c : After-deref_mut g)
    → ArePartsKeptUpTo g.P.Part.tells (c.args.from + 4) 4 c.args.line.count (slot_of c.args.line c.args.numbers.now) (node_of g.P.Part.blank c.args.line c.deref_mut.result.now)
kept g c =
    let blank = g.P.Part.blank in
    let tells = g.P.Part.tells in
    let line = c.args.line in
    let from = c.args.from in
    let x = slot_of line c.args.numbers.now in
    let a = c.two_from-first.result in
    let b = c.join.result in
    let d = c.two_from-second.result in
    let nodes = c.args.nodes.now.items in
    let now = c.deref_mut.result.now in
    let near = c.requires.near in
    let long : length nodes ≡ line.node + from = search rules in
    let here = λ (p : ℕ). ap (λ ns. get_or ns p blank) (pushed g c) in
    let first : node_of blank line now (from + 1) ≡ a = here (nth_node line (from + 1)) ∙ first_one blank nodes a b d d (nth_node line (from + 1)) (omega (arith, near_node line (from + 1) near, long)) in
    let both : node_of blank line now (from + 2) ≡ b = here (nth_node line (from + 2)) ∙ second_one blank nodes a b d d (nth_node line (from + 2)) (omega (arith, near_node line (from + 2) near, long)) in
    let second : node_of blank line now (from + 3) ≡ d = here (nth_node line (from + 3)) ∙ third_one blank nodes a b d d (nth_node line (from + 3)) (omega (arith, near_node line (from + 3) near, long)) in
    let joined : tells b (segment x from 4) = subst (tells b) (sym (segment_split x from 2 2)) (c.join.ensures (segment x from 2) (segment x (from + 2) 2) c.two_from-first.ensures c.two_from-second.ensures) in
    four_more tells from line.count x (node_of blank line nodes) (node_of blank line now) c.requires.four (omega (arith, c.requires.full))
    (λ meeting some below. before g c (nth_node line meeting) (omega (arith, near_node line meeting near, some, below)))
    (record {
      first = subst (λ t. tells t (segment x from 2)) (sym first) c.two_from-first.ensures;
      all = subst (λ t. tells t (segment x from 4)) (sym both) joined;
      last = subst (λ t. tells t (segment x (from + 2) 2)) (sym second) c.two_from-second.ensures;
    }) c.requires.kept

pub join-requires-clause-here : goal.join-requires-clause-here
join-requires-clause-here g c = (segment (slot_of c.args.line c.args.numbers.now) c.args.from 2, c.two_from-first.ensures)

pub join-requires-clause-later : goal.join-requires-clause-later
join-requires-clause-later g c = (segment (slot_of c.args.line c.args.numbers.now) (c.args.from + 2) 2, c.two_from-second.ensures)

pub close_parts-requires-clause-width : goal.close_parts-requires-clause-width
close_parts-requires-clause-width g c = (1, omega arith)

pub close_parts-requires-clause-kept : goal.close_parts-requires-clause-kept
close_parts-requires-clause-kept g c = (slot_of c.args.line c.args.numbers.now, kept g c)

pub returns-clause-kept : goal.returns-clause-kept
returns-clause-kept g c =
    rw (take_at c.close_parts.new.nodes (drop (length c.close_parts.new.nodes) c.push_reserved-4.new.self.items) c.push_reserved-4.new.self.len (c.close_parts.ensures.length ∙ c.deref_mut.ensures.len))
    (c.close_parts.ensures.kept (slot_of c.args.line c.args.numbers.now) (kept g (goal.at.returns-clause-kept g c).After-deref_mut))

pub returns-clause-others : goal.returns-clause-others
returns-clause-others g c p below =
    rw (take_at c.close_parts.new.nodes (drop (length c.close_parts.new.nodes) c.push_reserved-4.new.self.items) c.push_reserved-4.new.self.len (c.close_parts.ensures.length ∙ c.deref_mut.ensures.len))
    (c.close_parts.ensures.others p below ∙ before g (goal.at.returns-clause-others g c).After-deref_mut p (omega (arith, below)))
