use Rattle.std.{proofs.Common.{◌≡◌, ◌∙◌, ◌+◌, ◌∷◌, [], get_or, pos, ap, subst, arith, rules, to_z, of_z, w64}, proofs.lemmas.Int.{to_z-of_z}}
use Rattle.fold_trees.{specs.LineTrees.{slot_at, slot_of}, proofs.LineEnds.{near_slot}}
use Rattle.fold_trees.proofs.neighbours.two_from.Goals as goal

pub returns : goal.returns
returns g c =
    let line = c.args.line in
    let numbers = c.args.numbers.now in
    let from = c.args.from in
    let at = line.slot + from in
    let a0 : at ≡ slot_at line from = omega (arith, near_slot line from c.requires.near) in
    let a1 : at + 1 ≡ slot_at line (from + 1) = omega (arith, near_slot line (from + 1) c.requires.near) in
    let x0 : to_z w64 (of_z w64 (get_or numbers at (pos 0))) ≡ slot_of line numbers from = to_z-of_z w64 _ (search rules) ∙ ap (λ p. get_or numbers p (pos 0)) a0 in
    subst (g.P.Part.tells c.two.result) (λ i. x0 i ∷ (to_z-of_z w64 _ (search rules) ∙ ap (λ p. get_or numbers p (pos 0)) a1) i ∷ []) c.two.ensures
