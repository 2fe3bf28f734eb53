-- The growth of the lines of an array.
use Rattle.std.specs.Prelude.{◌≡◌, ℕ, ◌-◌, ◌/◌, ◌<◌, ℤ, max, List, length, map}
use Rattle.arrays_core.{specs.declared.item.Item.TheVariants.{Num}, specs.declared.item.ItemType.TheVariants.{Nums}, specs.Shapes.{size, IsWithinLimits}}
use Rattle.function_names.specs.declared.scalar.Scalar2.{Scalar2}
use Rattle.index_region.specs.Tails.{TailValue, FitsTail}
use Rattle.fold_trees.{specs.ArrayLines.{with_lines, with_places}, specs.FoldTrees.{FoldsValue, AreFoldedBehind, AreFoldedNext}}
use Rattle.sum_rules.{specs.LineSums.{SummedValue, line_length, line_step}, specs.declared.new_lines.Growth.{Growth}, specs.declared.new_lines.Growth.TheVariants.{Lines, Places}}

-- the tail of an array of numbers, with the function that folds its lines and their axis
pub record NewLinesValue : Type 0 where
  pub function : Scalar2
  pub axis : ℕ
  pub tail : TailValue

-- the numbers of new lines, or of one more place of each line
abbrev pub new_numbers : Growth → List ℤ
new_numbers (Lines t) = t.lines.numbers
new_numbers (Places p) = p.places.numbers

-- the function that folds the lines
abbrev pub function_of : Growth → Scalar2
function_of (Lines t) = t.function
function_of (Places p) = p.function

-- the growth to this shape by these numbers
abbrev pub lines_behind : (axis : ℕ) → List ℕ → Growth → NewLinesValue
lines_behind axis shape g = record { function = function_of g; axis = axis; tail = record { item_type = Nums; shape = shape; items = map (λ z. Num z) (new_numbers g) } }

-- new lines come after all others along an axis that is not the first; along the first axis each line gets one more place
abbrev pub AreNew : (axis : ℕ) → List ℕ → Growth → Type 0
AreNew axis shape (Lines t) = (0 < axis) × ((t.lines.count ≡ line_length axis shape) × ((t.lines.step ≡ line_step axis shape) × (t.lines.old_lines ≡ size shape / line_length axis shape - length t.lines.numbers / line_length axis shape)))
AreNew axis shape (Places p) = (axis ≡ 0) × (p.places.count ≡ max 1 (line_length axis shape - 1))

-- a growth is consistent with the new shape
pub record AreNewLinesOf (axis : ℕ) (shape : List ℕ) (g : Growth) : Type 0 where
  pub within : IsWithinLimits shape
  pub some : 0 < size shape
  pub there : axis < length shape
  pub new : AreNew axis shape g

-- the trees can take the growth
abbrev pub FitsTrees : FoldsValue → Growth → Type 0
FitsTrees t (Lines m) = AreFoldedBehind t m
FitsTrees t (Places m) = AreFoldedNext t m

-- the trees after the growth
abbrev pub trees_grown : FoldsValue → Growth → FoldsValue
trees_grown t (Lines m) = record { function = t.function; lines = with_lines t.lines m.lines.numbers }
trees_grown t (Places m) = record { function = t.function; lines = with_places t.lines m.places.numbers }

-- the growth fits the sums: same function, same axis, and a tail of their array
pub record FitsSums (s : SummedValue) (l : NewLinesValue) : Type 0 where
  pub function : l.function ≡ s.function
  pub axis : l.axis ≡ s.axis
  pub tail : FitsTail s.array l.tail
