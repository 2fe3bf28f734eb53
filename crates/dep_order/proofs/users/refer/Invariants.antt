use Rattle.{std.{proofs.Common.{◌≡◌, ◌⊎◌, ◌↔◌, ◌++◌, take}, specs.List.{Contains}}, dep_order.specs.Users.{Uses, HasRoomFor, IsReadyFor, HasNoEmptyBut}}
use Rattle.dep_order.proofs.users.refer.Given as goal

abbrev pub invariant-loop-reference : goal.invariant-loop-reference
invariant-loop-reference g l = record {
  room : HasRoomFor g.N.PartialEq.eq l.users.entries l.references;
  used : HasNoEmptyBut g.N.PartialEq.eq l.users.entries (l.before ++ l.references);
  uses : (a b : _) → Uses g.N.PartialEq.eq l.users.entries a b ↔ (Uses g.N.PartialEq.eq l.fn.users.entries a b × ((a ≡ l.node) → Contains (take l.reference-index l.before) b → ⊥));
}

abbrev pub invariant-loop-reference-2 : goal.invariant-loop-reference-2
invariant-loop-reference-2 g l = record {
  ready : IsReadyFor g.N.PartialEq.eq l.users.entries l.node l.references;
  used : HasNoEmptyBut g.N.PartialEq.eq l.users.entries (l.before ++ l.references);
  uses : (a b : _) → Uses g.N.PartialEq.eq l.users.entries a b ↔ ((Uses g.N.PartialEq.eq l.fn.users.entries a b × ((a ≡ l.node) → Contains l.before b → ⊥)) ⊎ ((a ≡ l.node) × Contains (take l.reference-index l.references) b));
}
