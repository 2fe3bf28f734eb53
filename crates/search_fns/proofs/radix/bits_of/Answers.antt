use Rattle.std.proofs.Common.{◌≡◌, ◌%◌, ◌*◌, ◌^◌, arith, w64, ◌∙◌, ap, sym}
use Rattle.std.{specs.Int.{trailing_zeros}, proofs.Math.Nat.{mod-eq_of_lt}, proofs.lemmas.Nat.{pow_below}}
use Rattle.search_fns.proofs.PowerRadices.{trailing_of_power}
use Rattle.search_fns.proofs.radix.bits_of.Goals.{else-bits-gt0-via-then-bits-gt0+then-bits-lt63+else-bits-power, else-bits-gt0-via-then-bits-gt0+else-bits-lt63, else-bits-gt0-via-else-bits-gt0}
use Rattle.search_fns.proofs.radix.bits_of.Goals as goal

pub returns-else-bits-gt0-clause-none : goal.returns-else-bits-gt0-clause-none
returns-else-bits-gt0-clause-none c = λ b some few is.
    let power_is : c.in_ok-power.power ≡ 2 ^ b = grind (arith, c.try_from.ensures, c.in_ok-power.ensures, is) in
    let exponent : trailing_zeros w64 c.in_ok-power.power ≡ b = ap (trailing_zeros w64) power_is ∙ trailing_of_power b (omega arith) in
    let word = pow_below b 64 (omega arith) in
    elim c.else-bits-gt0.branch [
      | else-bits-gt0-via-then-bits-gt0+then-bits-lt63+else-bits-power w ↦
          w.if-bits-power.false (ap (λ k. 1 * 2 ^ k % 2 ^ 64) exponent ∙ ap (λ n. n % 2 ^ 64) (omega arith) ∙ mod-eq_of_lt word ∙ sym power_is)
      | else-bits-gt0-via-then-bits-gt0+else-bits-lt63 w ↦ absurd (omega (arith, w.if-bits-lt63.false, exponent))
      | else-bits-gt0-via-else-bits-gt0 w ↦ absurd (omega (arith, w.if-bits-gt0.false, exponent))
    ]
