use Rattle.std.{proofs.Common.{◌∙◌, sym, arith, w64, SFits, rules}, proofs.lemmas.Int.{to_z-of_z}}
use Rattle.sum_rules.{specs.Summed.{total_at}, proofs.Folded.{one_failed, one_number}}
use Rattle.sum_rules.proofs.summed.Summed.all.Goals as goal

pub returns-in_ok-one-in-Ok : goal.returns-in_ok-one-in-Ok
returns-in_ok-one-in-Ok g c =
    let s = c.args.self.now in
    let fits : SFits w64 c.in-Ok.total = search rules in
    one_number s.shape.now.items (total_at (g.S.LineTotals.function s.sums.now) (g.S.LineTotals.trees s.sums.now) s.news s.shape.now.items) c.in-Ok.total c.in_ok-one-in-Ok.one c.write_at.new.self
    (omega (arith, c.if-places-ne1.false, c.requires)) (sym c.total_at.ensures ∙ c.in-Ok.is) c.in_ok-one-in-Ok.ensures (rw (to_z-of_z w64 _ fits) at c.write_at.ensures)

pub returns-in-Err : goal.returns-in-Err
returns-in-Err g c =
    let s = c.args.self.now in
    one_failed s.shape.now.items (total_at (g.S.LineTotals.function s.sums.now) (g.S.LineTotals.trees s.sums.now) s.news s.shape.now.items) c.in-Err.kind
    (omega (arith, c.if-places-ne1.false, c.requires)) (sym c.total_at.ensures ∙ c.in-Err.is)
