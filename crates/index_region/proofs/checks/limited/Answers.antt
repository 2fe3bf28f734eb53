use Rattle.{std.{proofs.Common.{List, ℕ, subst, sym}, proofs.lemmas.Bool.{both_ways}}, arrays_core.specs.Shapes.{IsWithinLimits}}
use Rattle.index_region.proofs.Passing.{limited_passes, limited_fails}
use Rattle.index_region.proofs.checks.limited.Goals as goal

pub returns-then-is_within_limits : goal.returns-then-is_within_limits
returns-then-is_within_limits c =
    let within = subst (λ (shape : List ℕ). IsWithinLimits shape) c.as_slice.ensures (c.is_within_limits.ensures.0 c.if-is_within_limits.true) in
    (limited_passes c.args.shape.items c.args.item_type within, c.requires, within)

pub returns-else-is_within_limits : goal.returns-else-is_within_limits
returns-else-is_within_limits c =
    limited_fails c.args.shape.items c.args.item_type
    (λ within. both_ways _ c.if-is_within_limits.false (c.is_within_limits.ensures.1 (subst (λ (shape : List ℕ). IsWithinLimits shape) (sym c.as_slice.ensures) within)))
