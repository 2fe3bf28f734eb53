use Rattle.std.{proofs.Common.{◌≡◌, sym, ◌*ℤ◌, Ok, to_z, of_z, w64, rules}, proofs.lemmas.Int.{to_z-of_z}}
use Rattle.{item_fns.{specs.Numbers.{number_or_limit}, proofs.Within.{held_ok}}, scan_fns.proofs.NextProducts.{next_product}}
use Rattle.scan_fns.proofs.products.ProductsPrefix.push.Goals as goal

pub returns-clause-next : goal.returns-clause-next
returns-clause-next c =
    let s = c.args.self.now in
    let x = c.args.number in
    let z = c.in_ok-total.total in
    let x_same : to_z w64 (of_z w64 x) ≡ x = to_z-of_z w64 x (search rules) in
    let held : number_or_limit (s.total *ℤ x) ≡ Ok z = sym (rw ((to_z-of_z w64 s.total (search rules)), x_same) at c.in_ok-total.ensures) in
    rw (to_z-of_z w64 z (search rules), (held_ok (s.total *ℤ x) z held).same)
    (record {
      is = λ v fits. next_product s.total x v s.margin.below s.margin.above c.divided.result.below c.divided.result.above s.margin.low s.margin.high (rw x_same at (c.divided.ensures v fits));
    })
