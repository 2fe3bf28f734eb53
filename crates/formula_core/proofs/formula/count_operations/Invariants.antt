use Rattle.{std.{proofs.Common.{◌≡◌, ◌≤◌, take}, specs.List.{count_by}}, formula_core.specs.Tables.{applies}}
use Rattle.formula_core.proofs.formula.count_operations.Given as goal

abbrev pub invariant-loop-kept : goal.invariant-loop-kept
invariant-loop-kept l = record { counted : l.count ≡ count_by (λ k. applies k.node) (take l.kept-index l.nodes); within : l.count ≤ l.kept-index }
