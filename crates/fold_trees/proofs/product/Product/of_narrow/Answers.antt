use Rattle.{std.{proofs.Common.{arith}, proofs.lemmas.Int.{ints}}, fold_trees.proofs.JoinedProducts.{tells_same}}
use Rattle.fold_trees.proofs.product.Product.of_narrow.Goals as goal

pub returns : goal.returns
returns c = tells_same _ _ c.requires.ordered (omega (arith, ints)) (omega (arith, ints)) (omega (arith, ints)) (omega (arith, ints)) (omega (arith, ints))
