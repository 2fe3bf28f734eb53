use Rattle.std.{proofs.Common.{◌≡◌, ◌∙◌, ap, sym, ◌<◌, ◌≤ℤ◌, ◌<ℤ◌, ◌/◌, min, pos, unsigned_abs, arith, w64, rules}, proofs.lemmas.Int.{ints, to_z-of_z}}
use Rattle.scan_fns.proofs.NextProducts.{by_none, by_above, by_below}
use Rattle.scan_fns.proofs.products.Margin.divided.Goals as goal

pub returns : goal.returns
returns c =
    let s = c.args.self.now in
    let x = c.args.number in
    let size : c.unsigned_abs-size.result ≡ unsigned_abs x = rw (to_z-of_z w64 x (search rules)) at c.unsigned_abs-size.ensures.value in
    let above : pos 0 ≤ℤ x = grind (arith, ints, c.if-number-lt0.false) in
    let some : 0 < unsigned_abs x = omega (arith, size, c.if-size-eq0.false) in
    λ v _. by_above s.below s.above x v c.quotient-below.result c.quotient-above.result above some (c.quotient-below.ensures ∙ ap (λ n. s.below / n) size)
    (c.quotient-above.ensures ∙ ap (λ n. s.above / n) size)

pub returns-then-number-lt0 : goal.returns-then-number-lt0
returns-then-number-lt0 c =
    let s = c.args.self.now in
    let x = c.args.number in
    let size : c.unsigned_abs-size.result ≡ unsigned_abs x = rw (to_z-of_z w64 x (search rules)) at c.unsigned_abs-size.ensures.value in
    let less : x <ℤ pos 0 = grind (arith, ints, c.if-number-lt0.true) in
    λ v fits. by_below s.below s.above x v c.quotient-above.result c.min.result less fits (c.quotient-above.ensures ∙ ap (λ n. s.above / n) size)
    (c.min.ensures ∙ ap (λ n. min n c.unsigned_abs.result) (c.quotient-below.ensures ∙ ap (λ n. s.below / n) size) ∙ ap (min (s.below / unsigned_abs x)) c.unsigned_abs.ensures.value)

pub returns-then-size-eq0 : goal.returns-then-size-eq0
returns-then-size-eq0 c =
    let s = c.args.self.now in
    let x = c.args.number in
    let size : c.unsigned_abs-size.result ≡ unsigned_abs x = rw (to_z-of_z w64 x (search rules)) at c.unsigned_abs-size.ensures.value in
    λ v fits. by_none s.below s.above x v c.whole.result.below c.whole.result.above (sym size ∙ c.if-size-eq0.true) (c.whole.ensures v fits)
