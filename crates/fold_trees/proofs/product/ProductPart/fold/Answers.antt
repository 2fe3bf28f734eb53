use Rattle.{std.proofs.Common.{◌∙◌}, fold_trees.{specs.Products.{products_of}, proofs.ProductEndings.{some_folded}}}
use Rattle.fold_trees.proofs.product.ProductPart.fold.Goals as goal

pub returns : goal.returns
returns c xs h more = c.product.ensures (products_of xs) h.tells ∙ some_folded xs more h.numbers
