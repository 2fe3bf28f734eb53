use Rattle.std.{proofs.Common.{◌∙◌, sym, ap, Ok, w64}, proofs.lemmas.Int.{to_z-of_z}}
use Rattle.item_fns.{specs.Numbers.{power}, proofs.Powers.{power_of_one, power_of_zero_is, even_power, odd_power, far_exponent}, proofs.Signs.{by_bits}}
use Rattle.item_fns.proofs.numbers.power.Goals as goal

pub returns-then-a-eq1 : goal.returns-then-a-eq1
returns-then-a-eq1 c = sym (ap (λ a. power a c.args.b) (by_bits c.args.a 1 c.ranges.a c.if-a-eq1.true) ∙ power_of_one c.args.b)

pub returns-then-b-eq0 : goal.returns-then-b-eq0
returns-then-b-eq0 c =
    sym (ap (λ a. power a c.args.b) (by_bits c.args.a _ c.ranges.a c.if-a-eqminus1.true) ∙ even_power c.args.b (rw (to_z-of_z w64 c.args.b c.ranges.b) at c.if-b-eq0.true))

pub returns-else-b-eq0 : goal.returns-else-b-eq0
returns-else-b-eq0 c =
    sym (ap (λ a. power a c.args.b) (by_bits c.args.a _ c.ranges.a c.if-a-eqminus1.true) ∙ odd_power c.args.b (rw (to_z-of_z w64 c.args.b c.ranges.b) at c.if-b-eq0.false))

pub returns-then-a-eq0 : goal.returns-then-a-eq0
returns-then-a-eq0 c =
    ap Ok (to_z-of_z w64 c.truth.result (record { sfits = c.truth.type_inv }) ∙ c.truth.ensures)
    ∙ sym (ap (λ a. power a c.args.b) (by_bits c.args.a 0 c.ranges.a c.if-a-eq0.true) ∙ power_of_zero_is c.args.b (rw (to_z-of_z w64 c.args.b c.ranges.b) at c.if-b-lt0.false))

pub returns-in-Err : goal.returns-in-Err
returns-in-Err c =
    let same = to_z-of_z w64 c.args.b c.ranges.b in
    sym (far_exponent c.args.a c.args.b c.if-a-eq0.false c.if-a-eq1.false c.if-a-eqminus1.false (rw same at c.if-b-lt0.false) (rw same at c.in-Err.ensures))
