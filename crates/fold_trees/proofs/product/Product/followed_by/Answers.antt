use Rattle.fold_trees.proofs.JoinedProducts.{far_joined}
use Rattle.fold_trees.proofs.product.Product.followed_by.Goals as goal

pub returns-then-is_far : goal.returns-then-is_far
returns-then-is_far c earlier rest h k = far_joined c.args.self.now c.args.later.now earlier rest (c.is_far.ensures c.if-is_far.true) h k
