-- The trees of the lines of an array, by function.
use Rattle.function_names.specs.declared.scalar.Scalar2.TheVariants.{Plus, Times, Maximum, Minimum, And, Or}
use Rattle.fold_trees.{specs.FoldTrees.{FoldsValue, NewFoldsValue, NextFoldsValue}, specs.declared.fold_trees.Trees.{Trees}, specs.declared.fold_trees.Lines.{Lines}, specs.declared.fold_trees.Places.{Places}}
use Rattle.fold_trees.specs.declared.fold_trees.Trees.TheVariants as trees
use Rattle.fold_trees.specs.declared.fold_trees.Lines.TheVariants as lines
use Rattle.fold_trees.specs.declared.fold_trees.Places.TheVariants as places

-- the function and the lines of the trees
abbrev pub folds_of : Trees → FoldsValue
folds_of (trees.Sum t) = record { function = Plus; lines = t }
folds_of (trees.Product t) = record { function = Times; lines = t }
folds_of (trees.Greatest t) = record { function = Maximum; lines = t }
folds_of (trees.Least t) = record { function = Minimum; lines = t }
folds_of (trees.AllTrue t) = record { function = And; lines = t }
folds_of (trees.AnyTrue t) = record { function = Or; lines = t }

abbrev pub new_folds_of : Lines → NewFoldsValue
new_folds_of (lines.Sum t) = record { function = Plus; lines = t }
new_folds_of (lines.Product t) = record { function = Times; lines = t }
new_folds_of (lines.Greatest t) = record { function = Maximum; lines = t }
new_folds_of (lines.Least t) = record { function = Minimum; lines = t }
new_folds_of (lines.AllTrue t) = record { function = And; lines = t }
new_folds_of (lines.AnyTrue t) = record { function = Or; lines = t }

abbrev pub next_folds_of : Places → NextFoldsValue
next_folds_of (places.Sum t) = record { function = Plus; places = t }
next_folds_of (places.Product t) = record { function = Times; places = t }
next_folds_of (places.Greatest t) = record { function = Maximum; places = t }
next_folds_of (places.Least t) = record { function = Minimum; places = t }
next_folds_of (places.AllTrue t) = record { function = And; places = t }
next_folds_of (places.AnyTrue t) = record { function = Or; places = t }
