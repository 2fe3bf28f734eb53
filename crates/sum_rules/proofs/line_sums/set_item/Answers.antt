use Rattle.std.{proofs.Common.{◌∙◌, ℤ, map, ap, rules, w64}, proofs.lemmas.Int.{to_z-of_z}, proofs.lemmas.List.{map-set}}
use Rattle.{arrays_core.specs.declared.item.Item.TheVariants.{Num}, fold_trees.specs.FoldTrees.{FoldsValue}}
use Rattle.sum_rules.proofs.line_sums.set_item.Goals as goal

pub returns-in-Num-clause-items : goal.returns-in-Num-clause-items
returns-in-Num-clause-items c =
    ap (λ (t : FoldsValue). map (λ (z : ℤ). Num z) t.lines.numbers) c.set.ensures
    ∙ (rw (to_z-of_z w64 c.in-Num.number (search rules), c.in-Num.is) (map-set (λ z. Num z) c.args.trees.now.lines.numbers c.args.place c.in-Num.number))

pub returns-in-Num-clause-count : goal.returns-in-Num-clause-count
returns-in-Num-clause-count c = ap (λ (t : FoldsValue). t.lines.count) c.set.ensures

pub returns-in-Num-clause-step : goal.returns-in-Num-clause-step
returns-in-Num-clause-step c = ap (λ (t : FoldsValue). t.lines.step) c.set.ensures
