use Rattle.{std.{proofs.Common.{◌≡◌, ◌==◌, ◌∙◌, sym, arith, length, get_or}, proofs.lemmas.List.{get_or_default}}, arrays_core.specs.Building.{listed}}
use Rattle.scalar_fns.{proofs.Equalities.{of_items, told_beside_one, told_before_one, told_in_pairs}, specs.Characters.{told, AreTold}}
use Rattle.scalar_fns.proofs.characters.equalities.Goals as goal

pub returns-then-left-eq1 : goal.returns-then-left-eq1
returns-then-left-eq1 c =
    let equal = c.args.equal in
    let xs = c.args.left.now in
    let ys = c.args.right.now in
    let x = c.index-left-0.result in
    of_items c.told_each.result (λ zs. zs ≡ listed (length ys) (λ k. told equal (get_or ys k 0 == x))) (AreTold equal xs ys c.args.places)
    (λ zs made. told_beside_one equal xs ys c.args.places zs x (c.index-left-0.is ∙ get_or_default xs 0 x 0 (omega arith)) (omega arith) (c.requires.one (omega arith)) made) c.told_each.ensures

pub returns-then-right-eq1 : goal.returns-then-right-eq1
returns-then-right-eq1 c =
    let equal = c.args.equal in
    let xs = c.args.left.now in
    let ys = c.args.right.now in
    let y = c.index-right-0.result in
    of_items c.told_each-then-right-eq1.result (λ zs. zs ≡ listed (length xs) (λ k. told equal (get_or xs k 0 == y))) (AreTold equal xs ys c.args.places)
    (λ zs made. told_before_one equal xs ys c.args.places zs y (c.index-right-0.is ∙ get_or_default ys 0 y 0 (omega arith)) (omega arith) (c.requires.left_long c.if-left-eq1.false) made) c.told_each-then-right-eq1.ensures

pub returns-else-right-eq1 : goal.returns-else-right-eq1
returns-else-right-eq1 c =
    let equal = c.args.equal in
    let xs = c.args.left.now in
    let ys = c.args.right.now in
    of_items c.told_pairs.result (λ zs. zs ≡ listed (length xs) (λ k. told equal (get_or xs k 0 == get_or ys k 0))) (AreTold equal xs ys c.args.places)
    (λ zs made. told_in_pairs equal xs ys c.args.places zs (c.requires.left_long c.if-left-eq1.false ∙ sym (c.requires.right_long c.if-right-eq1.false)) (c.requires.left_long c.if-left-eq1.false) made)
    c.told_pairs.ensures
