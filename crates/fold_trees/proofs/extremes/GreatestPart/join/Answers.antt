use Rattle.std.{proofs.Common.{◌≡◌, ap, sym, ◌∙◌, to_z, of_z, w64, rules, Ok}, specs.Int.{int_max}, proofs.lemmas.Int.{to_z-of_z}}
use Rattle.{item_fns.proofs.Associative.{maximum}, fold_trees.proofs.JoinedFolds.{joined_values}}
use Rattle.fold_trees.proofs.extremes.GreatestPart.join.Goals as goal

pub returns : goal.returns
returns c xs ys h k =
    let here : to_z w64 (of_z w64 c.args.self.now.number) ≡ c.args.self.now.number = to_z-of_z w64 _ (search rules) in
    let later : to_z w64 (of_z w64 c.args.later.now.number) ≡ c.args.later.now.number = to_z-of_z w64 _ (search rules) in
    let result : to_z w64 (of_z w64 c.max.result) ≡ int_max c.args.self.now.number c.args.later.now.number =
    to_z-of_z w64 _ (search rules) ∙ c.max.ensures.value ∙ (λ i. int_max (here i) (later i)) in
    joined_values _ maximum xs ys _ _ h k ∙ ap Ok (sym result)
