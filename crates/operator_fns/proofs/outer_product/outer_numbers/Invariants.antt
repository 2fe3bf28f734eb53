use Rattle.{std.proofs.Common.{◌≡◌, take, Ok}, arrays_core.specs.Items.{all_or_first_error}, operator_fns.specs.OuterResults.{outer_results}}
use Rattle.operator_fns.proofs.outer_product.outer_numbers.Given as goal

abbrev pub invariant-loop-number : goal.invariant-loop-number
invariant-loop-number g l = all_or_first_error (outer_results (g.S.TwoNumbers.gives l.step) (take l.number-index l.left) l.right) ≡ Ok l.numbers.items
