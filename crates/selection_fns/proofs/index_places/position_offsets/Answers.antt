use Rattle.index_region.proofs.Numbers.{numbers_read}
use Rattle.selection_fns.proofs.index_places.position_offsets.Goals as goal

pub index_offsets-requires-clause-on : goal.index_offsets-requires-clause-on
index_offsets-requires-clause-on c = rw (numbers_read c.args.position.now c.in-Some.indices.now c.in-Some.ensures.is.1) at c.requires.on

pub returns-in-Some : goal.returns-in-Some
returns-in-Some c = rw (numbers_read c.args.position.now c.in-Some.indices.now c.in-Some.ensures.is.1) c.index_offsets.ensures
