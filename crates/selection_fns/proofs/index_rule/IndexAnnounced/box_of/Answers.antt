use Rattle.selection_fns.{proofs.Positions.{tail_of}, proofs.ResultAxes.{has_axes}}
use Rattle.selection_fns.proofs.index_rule.IndexAnnounced.box_of.Goals as goal

pub indexed_box-requires-clause-one_an_axis : goal.indexed_box-requires-clause-one_an_axis
indexed_box-requires-clause-one_an_axis c =
    rw c.as_slice.ensures.is ((has_axes c.args.self.now.written.now c.args.args.now c.args.shape.now c.requires.count c.requires.checked).one_an_axis c.args.region.now (rw c.if-which-eq0.true at c.requires.fit))

pub indexed_box-requires-clause-few : goal.indexed_box-requires-clause-few
indexed_box-requires-clause-few c =
    let known = has_axes c.args.self.now.written.now c.args.args.now c.args.shape.now c.requires.count c.requires.checked in
    rw (tail_of c.args.args.now, known.axes) known.few

pub position_box-requires-clause-axes : goal.position_box-requires-clause-axes
position_box-requires-clause-axes c =
    rw (tail_of c.args.args.now) (has_axes c.args.self.now.written.now c.args.args.now c.args.shape.now c.requires.count c.requires.checked).axes
