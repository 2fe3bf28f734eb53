use Rattle.item_fns.proofs.Associative.{maximum, minimum, both_true, any_true}
use Rattle.scan_fns.proofs.NextOutcomes.{less, less_or_equal, equal, greater_or_equal, greater, not_equal, not_both, neither}
use Rattle.scan_fns.proofs.number_scan.number_folds.Goals as goal

pub returns-in-Plus-clause-is : goal.returns-in-Plus-clause-is
returns-in-Plus-clause-is c = rw c.in-Plus.is c.running_sums.ensures.is

pub returns-in-Minus-clause-is : goal.returns-in-Minus-clause-is
returns-in-Minus-clause-is c = rw c.in-Minus.is c.running_differences.ensures.is

pub returns-in-Times-clause-is : goal.returns-in-Times-clause-is
returns-in-Times-clause-is c = rw c.in-Times.is c.running_products.ensures.is

pub running_folds-requires : goal.running_folds-requires
running_folds-requires c = maximum

pub returns-in-Maximum-clause-is : goal.returns-in-Maximum-clause-is
returns-in-Maximum-clause-is c = rw c.in-Maximum.is c.running_folds.ensures.is

pub running_folds-requires-in-Minimum : goal.running_folds-requires-in-Minimum
running_folds-requires-in-Minimum c = minimum

pub returns-in-Minimum-clause-is : goal.returns-in-Minimum-clause-is
returns-in-Minimum-clause-is c = rw c.in-Minimum.is c.running_folds-in-Minimum.ensures.is

pub running_folds-requires-in-And : goal.running_folds-requires-in-And
running_folds-requires-in-And c = both_true

pub returns-in-And-clause-is : goal.returns-in-And-clause-is
returns-in-And-clause-is c = rw c.in-And.is c.running_folds-in-And.ensures.is

pub running_folds-requires-in-Or : goal.running_folds-requires-in-Or
running_folds-requires-in-Or c = any_true

pub returns-in-Or-clause-is : goal.returns-in-Or-clause-is
returns-in-Or-clause-is c = rw c.in-Or.is c.running_folds-in-Or.ensures.is

pub truth_folds-requires : goal.truth_folds-requires
truth_folds-requires c = less

pub returns-in-Less-clause-is : goal.returns-in-Less-clause-is
returns-in-Less-clause-is c = rw c.in-Less.is c.truth_folds.ensures.is

pub truth_folds-requires-in-LessOrEqual : goal.truth_folds-requires-in-LessOrEqual
truth_folds-requires-in-LessOrEqual c = less_or_equal

pub returns-in-LessOrEqual-clause-is : goal.returns-in-LessOrEqual-clause-is
returns-in-LessOrEqual-clause-is c = rw c.in-LessOrEqual.is c.truth_folds-in-LessOrEqual.ensures.is

pub truth_folds-requires-in-Equal : goal.truth_folds-requires-in-Equal
truth_folds-requires-in-Equal c = equal

pub returns-in-Equal-clause-is : goal.returns-in-Equal-clause-is
returns-in-Equal-clause-is c = rw c.in-Equal.is c.truth_folds-in-Equal.ensures.is

pub truth_folds-requires-in-GreaterOrEqual : goal.truth_folds-requires-in-GreaterOrEqual
truth_folds-requires-in-GreaterOrEqual c = greater_or_equal

pub returns-in-GreaterOrEqual-clause-is : goal.returns-in-GreaterOrEqual-clause-is
returns-in-GreaterOrEqual-clause-is c = rw c.in-GreaterOrEqual.is c.truth_folds-in-GreaterOrEqual.ensures.is

pub truth_folds-requires-in-Greater : goal.truth_folds-requires-in-Greater
truth_folds-requires-in-Greater c = greater

pub returns-in-Greater-clause-is : goal.returns-in-Greater-clause-is
returns-in-Greater-clause-is c = rw c.in-Greater.is c.truth_folds-in-Greater.ensures.is

pub truth_folds-requires-in-NotEqual : goal.truth_folds-requires-in-NotEqual
truth_folds-requires-in-NotEqual c = not_equal

pub returns-in-NotEqual-clause-is : goal.returns-in-NotEqual-clause-is
returns-in-NotEqual-clause-is c = rw c.in-NotEqual.is c.truth_folds-in-NotEqual.ensures.is

pub truth_folds-requires-in-Nand : goal.truth_folds-requires-in-Nand
truth_folds-requires-in-Nand c = not_both

pub returns-in-Nand-clause-is : goal.returns-in-Nand-clause-is
returns-in-Nand-clause-is c = rw c.in-Nand.is c.truth_folds-in-Nand.ensures.is

pub truth_folds-requires-in-Nor : goal.truth_folds-requires-in-Nor
truth_folds-requires-in-Nor c = neither

pub returns-in-Nor-clause-is : goal.returns-in-Nor-clause-is
returns-in-Nor-clause-is c = rw c.in-Nor.is c.truth_folds-in-Nor.ensures.is

pub returns-in-Divide-clause-is : goal.returns-in-Divide-clause-is
returns-in-Divide-clause-is c = rw c.in-Divide.is c.recalled_folds.ensures.is

pub returns-in-Power-clause-is : goal.returns-in-Power-clause-is
returns-in-Power-clause-is c = rw c.in-Power.is c.recalled_folds-in-Power.ensures.is

pub returns-in-Residue-clause-is : goal.returns-in-Residue-clause-is
returns-in-Residue-clause-is c = rw c.in-Residue.is c.residue_folds.ensures.is
