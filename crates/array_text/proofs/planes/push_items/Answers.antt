use Rattle.std.proofs.Common.{◌≡◌, ◌∙◌, length, arith}
use Rattle.array_text.proofs.Ranks.{of_rank_below_two, of_rank_two, of_rank_three, of_rank_four, size_of_rank_four}
use Rattle.array_text.proofs.planes.push_items.Goals as goal

pub returns-then-axes-lt2 : goal.returns-then-axes-lt2
returns-then-axes-lt2 g c = rw (of_rank_below_two g.T.Printed.line g.T.Printed.plane c.args.items.now c.args.axes.now c.if-axes-lt2.true) c.push_line.ensures

pub returns-then-axes-eq2 : goal.returns-then-axes-eq2
returns-then-axes-eq2 g c = rw (of_rank_two g.T.Printed.line g.T.Printed.plane c.args.items.now c.args.axes.now c.if-axes-eq2.true) c.push_plane.ensures

pub returns-then-axes-eq3 : goal.returns-then-axes-eq3
returns-then-axes-eq3 g c = rw (of_rank_three g.T.Printed.line g.T.Printed.plane c.args.items.now c.args.axes.now c.if-axes-eq3.true) c.push_planes.ensures

pub push_planes-requires-2-clause-shape : goal.push_planes-requires-2-clause-shape
push_planes-requires-2-clause-shape g c = c.requires.long ∙ size_of_rank_four c.args.axes.now (let most = c.requires.within.rank in omega arith)

pub returns : goal.returns
returns g c =
    let rank : length c.args.axes.now ≡ 4 = let most = c.requires.within.rank in omega arith in
    rw (of_rank_four g.T.Printed.line g.T.Printed.plane c.args.items.now c.args.axes.now rank) c.push_planes-2.ensures
