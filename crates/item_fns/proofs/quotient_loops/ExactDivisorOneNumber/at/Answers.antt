use Rattle.std.{proofs.Common.{◌≡◌, ◌∙◌, ◌*ℤ◌, sym, ap, Ok, to_z, of_z, w64, rules}, proofs.lemmas.Int.{to_z-of_z}}
use Rattle.item_fns.proofs.Quotients.{exact}
use Rattle.item_fns.proofs.quotient_loops.ExactDivisorOneNumber.at.Goals as goal

pub returns-in-Some : goal.returns-in-Some
returns-in-Some c =
    let guess = c.wrapping_shr-guess.result in
    let divisor = c.args.self.now.divisor in
    let product = c.in-Some.product in
    let read_guess : to_z w64 (of_z w64 guess) ≡ guess = to_z-of_z w64 guess (search rules) in
    let read_divisor : to_z w64 (of_z w64 divisor) ≡ divisor = to_z-of_z w64 divisor (search rules) in
    let read_product : to_z w64 (of_z w64 product) ≡ product = to_z-of_z w64 product (search rules) in
    let told : product ≡ to_z w64 (of_z w64 guess) *ℤ to_z w64 (of_z w64 divisor) = search rules in
    let made : guess *ℤ divisor ≡ c.args.a = sym (rw (read_guess, read_divisor) at told) ∙ sym read_product ∙ ap (to_z w64) c.if-product-a.true ∙ to_z-of_z w64 c.args.a c.ranges.a in
    sym (exact c.args.a divisor guess c.args.self.now.two c.ranges.a made ∙ ap Ok (sym read_guess))
