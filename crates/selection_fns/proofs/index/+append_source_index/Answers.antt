use Rattle.std.{proofs.Common.{rules, ◌≡◌, ◌<◌, ◌+◌, length, drop, arith}, proofs.lemmas.List.{length_push, length-drop}}
use Rattle.selection_fns.{proofs.Positions.{split_written, split_empty, written_step, tail_of}, proofs.SourcePlaces.{written_inside}}
use Rattle.selection_fns.proofs.index.+append_source_index.Goals as goal

pub prove-unreachable-requires : goal.prove-unreachable-requires
prove-unreachable-requires t c =
    let some : 0 < length c.args.written.now = search rules in
    omega (arith, (split_empty c.args.axes.now c.args.written.now c.args.positions.now c.args.index.now c.requires.one_an_axis some c.if-not-written.true c.requires.inside).long)

pub prove-unreachable-requires-2 : goal.prove-unreachable-requires-2
prove-unreachable-requires-2 t c =
    search (rules, (split_written c.args.axes.now c.args.written.now c.args.positions.now c.args.index.now _ c.requires.one_an_axis c.requires.long c.if-not-written.false c.index-positions-0.is c.requires.inside).long)

pub index_in-requires-clause-inside : goal.index_in-requires-clause-inside
index_in-requires-clause-inside t c =
    search (rules, (split_written c.args.axes.now c.args.written.now c.args.positions.now c.args.index.now _ c.requires.one_an_axis c.requires.long c.if-not-written.false c.index-positions-0.is c.requires.inside).first)

pub append_source_index-requires-2 : goal.append_source_index-requires-2
append_source_index-requires-2 t c =
    let p = c.index-positions-0.result in
    let others = (split_written c.args.axes.now c.args.written.now c.args.positions.now c.args.index.now p c.requires.one_an_axis c.requires.long c.if-not-written.false c.index-positions-0.is c.requires.inside).others in
    let step = written_step c.args.axes.now c.args.written.now c.args.positions.now c.requires.one_an_axis c.requires.long c.if-not-written.false in
    let long = step.long in
    let on = step.on c.requires.on in
    let more : length c.push_reserved-2.new.self.items ≡ length c.args.at.now.items + 1 = rw c.push_reserved-2.ensures.items (length_push c.args.at.now.items c.index_in.result) in
    let some : 0 < length c.args.written.now = search rules in
    let parted : c.split_at.result.1.now ≡ drop (length p.shape) c.args.index.now = search rules in
    (search rules, (search rules, (rw (tail_of c.args.written.now) (simp length-drop (omega arith)), (search rules, (rw (tail_of c.args.written.now, tail_of c.args.positions.now) long, (rw (tail_of c.args.axes.now, tail_of c.args.written.now, tail_of c.args.positions.now) on, rw (tail_of c.args.axes.now, tail_of c.args.written.now, tail_of c.args.positions.now, parted) others))))))

pub returns-clause-inside : goal.returns-clause-inside
returns-clause-inside t c =
    let axes = c.args.axes.now in
    let written = c.args.written.now in
    let args = c.args.positions.now in
    let index = c.args.index.now in
    let p = c.index-positions-0.result in
    let parted : c.split_at.result.1.now ≡ drop (length p.shape) index = search rules in
    let rest = rw (tail_of axes, tail_of written, tail_of args, parted) at c.append_source_index-2.ensures.inside in
    written_inside axes written args index p c.requires.one_an_axis c.requires.long c.if-not-written.false c.index-positions-0.is c.shape.ensures.sound c.requires.on c.requires.inside rest
