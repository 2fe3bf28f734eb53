use Rattle.{std.proofs.Common.{rules}, selection_fns.proofs.Indexed.{has_passed}}
use Rattle.selection_fns.proofs.index.Index.index_of.Goals as goal

pub append_source_index-requires-clause-room : goal.append_source_index-requires-clause-room
append_source_index-requires-clause-room c = search (rules, (has_passed c.args.array.now c.args.self.now.written.now c.args.positions.now c.args.index.now c.requires.count c.requires.place).one_an_axis)

pub append_source_index-requires-clause-one_an_axis : goal.append_source_index-requires-clause-one_an_axis
append_source_index-requires-clause-one_an_axis c = search (rules, (has_passed c.args.array.now c.args.self.now.written.now c.args.positions.now c.args.index.now c.requires.count c.requires.place).one_an_axis)
