use Rattle.{std.{proofs.Common.{◌≡◌, to_z, of_z, w64, rules, ◌||◌}, proofs.lemmas.Int.{to_z-of_z}}, item_fns.proofs.Associative.{any_true}}
use Rattle.fold_trees.proofs.JoinedTruths.{joined_truths}
use Rattle.fold_trees.proofs.truths.AnyTruePart.join.Goals as goal

pub returns : goal.returns
returns c xs ys h k =
    let here : to_z w64 (of_z w64 c.args.self.now.truth) ≡ c.args.self.now.truth = to_z-of_z w64 _ (search rules) in
    joined_truths (λ p q. p || q) any_true xs ys _ _ _ here (to_z-of_z w64 _ (search rules)) (to_z-of_z w64 _ (search rules)) c.joined.ensures.truth c.joined.ensures.none h k
