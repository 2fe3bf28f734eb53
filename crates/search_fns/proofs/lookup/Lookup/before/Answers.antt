use Rattle.{std.{proofs.Common.{arith}, specs.Ordering.{int_eq}}, search_fns.proofs.Lookups.{keys_within}}
use Rattle.search_fns.proofs.lookup.Lookup.before.Goals as goal

pub returns-in-Plain-clause-within : goal.returns-in-Plain-clause-within
returns-in-Plain-clause-within g c = let w = keys_within g.T.Key.code (int_eq (g.T.Key.code c.args.sought)) c.args.items.now in omega arith

pub returns-in-Table-clause-within : goal.returns-in-Table-clause-within
returns-in-Table-clause-within g c = let w = keys_within g.T.Key.code (int_eq (g.T.Key.code c.args.sought)) c.args.items.now in omega arith

pub returns-in-Map-clause-within : goal.returns-in-Map-clause-within
returns-in-Map-clause-within g c = let w = keys_within g.T.Key.code (int_eq (g.T.Key.code c.args.sought)) c.args.items.now in omega arith
