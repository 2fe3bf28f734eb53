use Rattle.{std.{proofs.Common.{ap, sym, ◌∙◌, arith, inl, inr, Ok}, proofs.lemmas.Int.{ints, clamps}}, item_fns.proofs.Within.{Within}}
use Rattle.fold_trees.{specs.Products.{kept_products, product_told}, proofs.ProductEndings.{told_within}}
use Rattle.fold_trees.proofs.product.Product.product.Goals as goal

pub returns : goal.returns
returns c products h =
    let least : Within (kept_products c.args.self.now).least = record { low = omega (arith, ints); high = omega (arith, ints) } in
    let greatest : Within (kept_products c.args.self.now).greatest = record { low = omega (arith, ints); high = omega (arith, ints) } in
    elim h.is [
      | inl same ↦
          ap Ok (omega (arith, ints))
          ∙ sym (told_within (kept_products c.args.self.now) least greatest)
          ∙ ap product_told same
      | inr far ↦ let beyond = far.1.as_they_are in absurd (omega (arith, ints, clamps))
    ]
