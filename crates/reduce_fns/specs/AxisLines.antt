-- Folds of the lines along an axis.
use Rattle.std.specs.Prelude.{ℕ, ℤ, pos, List, Result}
use Rattle.arrays_core.{specs.declared.item.ItemType.TheVariants.{Nums}, specs.declared.item.Kind.{Kind}, specs.Arrays.{ArrayValue, collect}, specs.Shapes.{places_before}}
use Rattle.item_fns.{specs.Items.{number_item}, specs.Folds.{strided, folded, line_start}}
use Rattle.reduce_fns.specs.declared.axis_lines.AxisLines.{AxisLines}

-- the fold of the line that belongs to a place of the result
abbrev pub fold_at : (ℤ → ℤ → Result ℤ Kind) → AxisLines → ℕ → Result ℤ Kind
fold_at f lines place = folded f (strided (pos 0) lines.numbers.now (line_start lines.stride lines.count place) lines.stride lines.count)

-- the array of the folds of the lines
abbrev pub line_folds : (ℤ → ℤ → Result ℤ Kind) → AxisLines → (shape : List ℕ) → Result ArrayValue Kind
line_folds f lines shape = collect Nums shape (λ index. number_item (fold_at f lines (places_before shape index)))
