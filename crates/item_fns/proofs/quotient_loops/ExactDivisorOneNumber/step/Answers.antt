use Rattle.std.{proofs.Common.{◌≡◌, ◌∙◌, ◌%◌, ◌<◌, ◌≤ℤ◌, ℤ, pos, negsuc, ap, sym, subst, Ok, arith, to_z, of_z, w64, rules}, proofs.Math.Nat.{div-le_self}, proofs.lemmas.Int.{ints, to_z-of_z}}
use Rattle.item_fns.{specs.Numbers.{quotient}, proofs.Doubts.{same_bits}, proofs.Quotients.{exact_difference}}
use Rattle.item_fns.proofs.quotient_loops.ExactDivisorOneNumber.step.Goals as goal

lower_bits : (d : ℤ) → pos 2 ≤ℤ d → d ≤ℤ pos 2147483647 → pos (of_z w64 d % 4294967296) ≡ d
lower_bits (pos n) two most = let same : n % 4294967296 ≡ n = omega (arith, ints, most) in ap pos same
lower_bits (negsuc n) two most = absurd (omega (arith, ints, two))

pub returns : goal.returns
returns c = λ none.
    let divisor = c.args.self.now.divisor in
    let low = c.cast_unsigned-divisor.result % 4294967296 in
    let moved = c.wrapping_shr-moved.result in
    let by = c.wrapping_shr-by.result in
    let guess = c.cast_signed-guess.result in
    let same_a : to_z w64 (of_z w64 c.args.a) ≡ c.args.a = to_z-of_z w64 c.args.a c.ranges.a in
    let same_divisor : to_z w64 (of_z w64 divisor) ≡ divisor = to_z-of_z w64 divisor (search rules) in
    let read_guess : to_z w64 (of_z w64 guess) ≡ guess = to_z-of_z w64 guess (search rules) in
    let unsigned : c.cast_unsigned-divisor.result ≡ of_z w64 divisor = rw same_divisor at c.cast_unsigned-divisor.ensures in
    let is : pos low ≡ divisor = ap (λ n. pos (n % 4294967296)) unsigned ∙ lower_bits divisor c.args.self.now.two c.args.self.now.greatest in
    let two = rw (sym is) at c.args.self.now.two in
    let most = rw (sym is) at c.args.self.now.greatest in
    let high : moved < 4294967296 = omega (arith, c.wrapping_shr-moved.ensures, div-le_self) in
    let less : by < 4294967296 = omega (arith, c.wrapping_shr-by.ensures, div-le_self) in
    let bits = same_bits _ _ none ∙ c.cast_unsigned-3.ensures ∙ ap (of_z w64) same_a in
    let gives = exact_difference c.args.a low moved by (omega (arith, ints, two)) (omega (arith, ints, most)) high less c.ranges.a bits in
    subst (λ (d : ℤ). quotient c.args.a d ≡ Ok (to_z w64 (of_z w64 guess))) is (gives ∙ ap Ok (sym c.cast_signed-guess.ensures ∙ sym read_guess))
