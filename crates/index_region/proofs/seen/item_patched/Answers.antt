use Rattle.{std.proofs.Common.{sym, ◌∙◌, ap, List, ℕ, ◌-◌}, arrays_core.specs.Shapes.{index_after}, index_region.proofs.Patched.{some_is, none_is}}
use Rattle.index_region.proofs.seen.item_patched.Goals as goal

pub returns-in-Some-clause-is : goal.returns-in-Some-clause-is
returns-in-Some-clause-is c = some_is c.args.array.now c.args.patch.now c.args.position c.as_slice.result.now c.in-Some.item c.requires.low c.requires.high (c.as_slice.ensures ∙ c.index_of_position-index.ensures.is ∙ ap (λ (s : List ℕ). index_after s (c.args.position - 1)) c.shape.ensures.is) (sym c.in-Some.is ∙ c.at_patched.ensures.is)

pub returns-clause-is : goal.returns-clause-is
returns-clause-is c = none_is c.args.array.now c.args.patch.now c.args.position c.as_slice.result.now c.fill.result c.requires.low c.requires.high (c.as_slice.ensures ∙ c.index_of_position-index.ensures.is ∙ ap (λ (s : List ℕ). index_after s (c.args.position - 1)) c.shape.ensures.is) (sym c.in-None.is ∙ c.at_patched.ensures.is)
