use Rattle.{std.{proofs.Common.{[], arith}, proofs.lemmas.List.{get_or_default}}, sum_rules.proofs.TreeLines.{line_below, line_told}}
use Rattle.sum_rules.proofs.line_totals.TreeALineLineTotals.total.Goals as goal

pub bounds-self-line : goal.bounds-self-line
bounds-self-line c = line_below c.args.self.now.count c.args.self.now.trees.now c.args.line c.args.self.now.each c.args.self.now.some c.requires

pub offset_bounds-self-line : goal.offset_bounds-self-line
offset_bounds-self-line c = record { fits = omega (arith, bounds-self-line c, c.type_inv.self.1.0.0.1.1) }

pub returns : goal.returns
returns c =
    let self = c.args.self.now in
    let told = get_or_default self.trees.now c.args.line c.index-self-line.result [] (line_below self.count self.trees.now c.args.line self.each self.some c.requires) in
    rw (line_told self.count self.trees.now c.args.line self.each self.some c.requires) (rw told at c.result.ensures)
