use Rattle.{std.{proofs.Common.{◌≡◌, sym, subst, true}, proofs.lemmas.List.Elements.{All-append}}, item_fns.specs.Numbers.{is_number}}
use Rattle.fold_trees.{specs.Products.{TellsProducts, products_of}, proofs.JoinedProducts.{products_append}}
use Rattle.fold_trees.proofs.product.ProductPart.join.Goals as goal

pub returns : goal.returns
returns c xs ys h k = record {
  numbers = All-append (λ z. is_number z ≡ true) xs ys h.numbers k.numbers;
  tells = subst (TellsProducts c.followed_by.result) (sym (products_append xs ys)) (c.followed_by.ensures (products_of xs) (products_of ys) h.tells k.tells);
}
