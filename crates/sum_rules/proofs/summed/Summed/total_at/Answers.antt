use Rattle.std.proofs.Common.{◌∙◌, ◌++◌, ◌∷◌, [], get_or, pos, sym, ap, rules}
use Rattle.fold_trees.{specs.FoldTrees.{IsReductionBy}, specs.ArrayLines.{numbers_of_line}}
use Rattle.sum_rules.{specs.Summed.{total_at}, specs.declared.summed.News.{News}, proofs.Folded.{folded_line, folded_longer, kept_total}}
use Rattle.sum_rules.proofs.summed.Summed.total_at.Goals as goal

pub returns-in-Nothing : goal.returns-in-Nothing
returns-in-Nothing g c =
    let s = c.args.self.now in
    let f = g.S.LineTotals.function s.sums.now in
    let t = g.S.LineTotals.trees s.sums.now in
    folded_line f t c.args.place s.some c.total.result c.total.ensures ∙ sym (ap (λ (n : News). total_at f t n s.shape.now.items c.args.place) c.in-Nothing.is)

pub returns-in-None : goal.returns-in-None
returns-in-None g c =
    let s = c.args.self.now in
    let f = g.S.LineTotals.function s.sums.now in
    let t = g.S.LineTotals.trees s.sums.now in
    folded_line f t c.args.place s.some c.total-in-None.result c.total-in-None.ensures
    ∙ kept_total f t c.in-Changed.totals s.shape.now.items c.args.place (sym c.in-None.is ∙ c.number_in.ensures)
    ∙ sym (ap (λ (n : News). total_at f t n s.shape.now.items c.args.place) c.in-Changed.is)

pub returns-in-Behind : goal.returns-in-Behind
returns-in-Behind g c =
    let s = c.args.self.now in
    let f = g.S.LineTotals.function s.sums.now in
    let t = g.S.LineTotals.trees s.sums.now in
    let z = get_or c.in-Behind.numbers.now c.args.place (pos 0) in
    let behind : IsReductionBy f (numbers_of_line t c.args.place ++ z ∷ []) c.total_behind.result = search rules in
    folded_longer f t c.in-Behind.numbers c.args.place c.total_behind.result behind ∙ sym (ap (λ (n : News). total_at f t n s.shape.now.items c.args.place) c.in-Behind.is)
