-- The trees of the lines of an array, for each function that has trees.
use Rattle.std.specs.Prelude.{◌≡◌, ℕ, ◌^◌, ◌<◌, ◌≤◌, Bool, true, false, ℤ, List, map, Result}
use Rattle.arrays_core.{specs.declared.item.Item.TheVariants.{Num}, specs.declared.item.Kind.{Kind}}
use Rattle.item_fns.{specs.Items.{number_item}, specs.RightFold.{fold_right}}
use Rattle.function_names.{specs.declared.scalar.Scalar2.{Scalar2}, specs.declared.scalar.Scalar2.TheVariants.{Plus, Times, Maximum, Minimum, And, Or}}
use Rattle.fold_trees.specs.ArrayLines.{TreesValue, NewTreesValue, NewPlacesValue, FitBehind, FitNext}

-- the result is the reduction of these numbers by a function
abbrev pub IsReductionBy : Scalar2 → List ℤ → Result ℤ Kind → Type 0
IsReductionBy f numbers result = number_item result ≡ fold_right f (map (λ z. Num z) numbers)

-- a count is at most the number of binary digits of a number; 0 has none
abbrev pub IsWithinDigitsOf : (number count : ℕ) → Type 0
IsWithinDigitsOf number count = (digits : ℕ) → number < 2 ^ digits → count ≤ digits

-- the functions whose folds are stored as trees
abbrev pub has_trees : Scalar2 → Bool
has_trees Plus = true
has_trees Times = true
has_trees Maximum = true
has_trees Minimum = true
has_trees And = true
has_trees Or = true
has_trees _ = false

-- the lines of an array, and the function that folds them
pub record FoldsValue : Type 0 where
  pub function : Scalar2
  pub lines : TreesValue

-- the lines that an array grows by
pub record NewFoldsValue : Type 0 where
  pub function : Scalar2
  pub lines : NewTreesValue

-- one more place of each line
pub record NextFoldsValue : Type 0 where
  pub function : Scalar2
  pub places : NewPlacesValue

-- the new lines fit after lines that the same function folds
pub record AreFoldedBehind (t : FoldsValue) (more : NewFoldsValue) : Type 0 where
  pub function : more.function ≡ t.function
  pub lines : FitBehind t.lines more.lines

-- the new places fit after lines that the same function folds
pub record AreFoldedNext (t : FoldsValue) (more : NextFoldsValue) : Type 0 where
  pub function : more.function ≡ t.function
  pub places : FitNext t.lines more.places
