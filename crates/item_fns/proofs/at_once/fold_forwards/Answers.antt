use Rattle.std.{proofs.Common.{◌≡◌, [], ◌∷◌, ℕ, take, ◌/◌, ◌≤◌, ◌∙◌, ◌+◌, ◌<◌, ◌++◌, ap, sym, subst, get_or, drop, length, pos, arith, Ok, to_z, of_z, w64, rules, below_more}, specs.List.{All, fold}, proofs.lemmas.Int.{to_z-of_z}, proofs.lemmas.List.{drop_more, drop_all, get_or_default, length-append, take-append-drop}}
use Rattle.arrays_core.specs.Limits.{most_places}
use Rattle.item_fns.{specs.Folds.{folded}, proofs.AtOnce.{halves}, proofs.Doubts.{below_left, below_right}}
use Rattle.item_fns.proofs.at_once.fold_forwards.Goals as goal
use Rattle.item_fns.proofs.at_once.fold_forwards.Goals.{then-first-second, else-first-second}

pub returns-then-doubt-limit : goal.returns-then-doubt-limit
returns-then-doubt-limit g c =
    let plain = g.S.AtOnce.plain c.args.step.now in
    let near = g.S.AtOnce.near c.args.step.now in
    let xs = c.split_at.result.0.now in
    let ys = c.split_at.result.1.now in
    let beside = c.fold_beside-left.ensures in
    let sure : c.if-first-second.doubt < g.S.AtOnce.LIMIT = omega (arith, c.LIMIT-limit.ensures, c.if-doubt-limit.true) in
    let read_left = to_z-of_z w64 c.fold_beside-left.result.0 (search rules) in
    let read_right = to_z-of_z w64 c.fold_beside-left.result.1 (search rules) in
    let numbers = c.args.numbers.now in
    let half = length numbers / 2 in
    let some : 0 < length xs = search rules in
    let few : length xs + length ys ≤ most_places = search rules in
    let halved : (length xs ≤ length ys) × (length ys ≤ length xs + 1) = (search rules, search rules) in
    let joined : xs ++ ys ≡ numbers = ap (λ ps. ps ++ ys) c.split_at.ensures.front ∙ ap (λ ps. take half numbers ++ ps) c.split_at.ensures.back ∙ take-append-drop half numbers in
    let finish : c.fold_beside-left.result.2 < g.S.AtOnce.LIMIT → to_z w64 c.if-first-second.right-bits ≡ fold plain (get_or ys 0 (pos 0)) (drop 1 ys) → ((k : ℕ) → k < length ys → near 1 (get_or ys k (pos 0))) → folded (g.S.AtOnce.gives c.args.step.now) numbers ≡ Ok (to_z w64 (of_z w64 c.plain.result)) =
    λ none right each.
    let first : All (near 1) xs = λ k d below. subst (near 1) (get_or_default xs k (pos 0) d below) (beside.near none k below).0 in
    let second : All (near 1) ys = λ k d below. subst (near 1) (get_or_default ys k (pos 0) d below) (each k below) in
    ap (folded (g.S.AtOnce.gives c.args.step.now)) (sym joined)
    ∙ halves (g.S.AtOnce.gives c.args.step.now) plain near (g.met.S.AtOnce.law c.args.step.now) xs ys some (omega (arith, some, halved.0)) (subst (λ n. n ≤ most_places) (sym (length-append xs ys)) few) first second
    ∙ ap Ok (sym (to_z-of_z w64 c.plain.result (search rules) ∙ (rw (read_left, right, beside.first) at c.plain.ensures))) in
    elim c.if-first-second.branch [
      | then-first-second w ↦
          let words = rw w.doubt-is at sure in
          let none : c.fold_beside-left.result.2 < g.S.AtOnce.LIMIT = below_left _ _ _ words in
          let end = get_or ys (length xs) (pos 0) in
          let read_end = to_z-of_z w64 end (search rules) in
          let last : near 1 end = rw read_end at w.word-doubt.ensures (below_right _ _ _ words) in
          let upto : (k : ℕ) → k < length xs + 1 → near 1 (get_or ys k (pos 0)) = below_more _ _ (λ k below. (beside.near none k below).1) last in
          let alone : drop (length xs) ys ≡ end ∷ [] = drop_more ys (length xs) (pos 0) w.if-first-second.true ∙ ap (λ rest. end ∷ rest) (drop_all (length xs + 1) ys (omega (arith, halved.1))) in
          let made : w.plain-right.result ≡ plain c.fold_beside-left.result.1 end = rw (read_right, read_end) at w.plain-right.ensures in
          let right = w.right-is ∙ to_z-of_z w64 w.plain-right.result (search rules) ∙ made ∙ sym (ap (fold plain c.fold_beside-left.result.1) alone) ∙ beside.second in
          finish none right (λ k below. upto k (omega (arith, below, halved.1)))
      | else-first-second w ↦
          let none : c.fold_beside-left.result.2 < g.S.AtOnce.LIMIT = rw w.doubt-is at sure in
          let right = w.right-is ∙ read_right ∙ sym (ap (fold plain c.fold_beside-left.result.1) (drop_all (length xs) ys (omega (arith, w.if-first-second.false)))) ∙ beside.second in
          finish none right (λ k below. (beside.near none k (omega (arith, below, w.if-first-second.false))).1)
    ]
