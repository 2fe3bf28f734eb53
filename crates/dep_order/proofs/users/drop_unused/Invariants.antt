use Rattle.{std.proofs.Common.{◌↔◌, drop}, dep_order.specs.Users.{Uses, HasNoEmptyBut}}
use Rattle.dep_order.proofs.users.drop_unused.Given as goal

abbrev pub invariant-loop-reference : goal.invariant-loop-reference
invariant-loop-reference g l = record {
  same : (a b : _) → Uses g.N.PartialEq.eq l.users.entries a b ↔ Uses g.N.PartialEq.eq l.fn.users.entries a b;
  used : HasNoEmptyBut g.N.PartialEq.eq l.fn.users.entries l.references → HasNoEmptyBut g.N.PartialEq.eq l.users.entries (drop l.reference-index l.references);
}
