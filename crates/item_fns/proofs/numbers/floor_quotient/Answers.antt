use Rattle.std.{proofs.Common.{◌≡◌, ◌∙◌, ◌-ℤ◌, ℤ, sym, ap, SomeIff, pos, arith, of_z, w64, SFits, int_div, rules}, specs.Int.{CanDivide, IsNonZero}, proofs.lemmas.Int.{to_z-of_z}}
use Rattle.item_fns.{specs.Numbers.{residue, number_or_limit}, proofs.Residues.{whole_quotient}, proofs.Floors.{IsOneAbove, not_zero, one_above, held_below, held_ok}, proofs.Signs.{zero_of_bits, some_iff_rest}, proofs.numbers.floor_quotient.Goals.{After-in_range-quotient, After-residue}}
use Rattle.item_fns.proofs.numbers.floor_quotient.Goals as goal

has_bits : (b : ℤ) → SFits w64 b → (b ≡ pos 0 → ⊥) → IsNonZero w64 b
has_bits b fits some = let bits : of_z w64 b ≡ 0 → ⊥ = λ e. some (zero_of_bits b fits e) in omega arith

-- the quotient that is rounded toward zero
first : (c : After-in_range-quotient) → c.in_range-quotient.result ≡ number_or_limit (int_div c.args.a c.args.b)
first c =
    let a = c.args.a in
    let b = c.args.b in
    let divided : SomeIff c.checked_div.result (CanDivide w64 a b) (int_div a b) = rw (to_z-of_z w64 a c.ranges.a, to_z-of_z w64 b c.ranges.b) at c.checked_div.ensures in
    c.in_range-quotient.ensures (int_div a b) (some_iff_rest c.checked_div.result _ _ _ (has_bits b c.ranges.b c.requires) divided)

-- the residue of the division
rest : (c : After-residue) → c.residue.result ≡ residue c.args.b c.args.a
rest c = rw (to_z-of_z w64 c.args.b c.ranges.b, to_z-of_z w64 c.args.a c.ranges.a) at c.residue.ensures.is

-- if the residue is not 0, the floor is one less
one : (c : After-residue) → (of_z w64 c.residue.result ≡ 0 → ⊥) → IsOneAbove c.args.a c.args.b
one c some =
    one_above c.args.a c.args.b c.requires (rw (to_z-of_z w64 c.args.a c.ranges.a, to_z-of_z w64 c.args.b c.ranges.b) at c.if-a-b.false) (λ e. some (ap (of_z w64) (rest c ∙ e)))

pub returns-then-residue-eq0 : goal.returns-then-residue-eq0
returns-then-residue-eq0 c =
    let here = goal.at.returns-then-residue-eq0 c in
    let fits : SFits w64 c.residue.result = record { sfits = c.residue.type_inv } in
    first here.After-in_range-quotient ∙ ap number_or_limit
    (whole_quotient c.args.a c.args.b (not_zero c.args.b c.requires) (sym (rest here.After-residue) ∙ zero_of_bits c.residue.result fits c.if-residue-eq0.true))

pub returns-in_err-quotient : goal.returns-in_err-quotient
returns-in_err-quotient c =
    let here = goal.at.returns-in_err-quotient c in
    let floor = one here.After-residue c.if-residue-eq0.false in
    let beyond = ap number_or_limit floor.floor ∙ held_below floor.magnitude _ (ap number_or_limit (sym floor.quotient) ∙ sym (first here.After-in_range-quotient) ∙ c.in_err-quotient.was) in
    rw beyond (search rules)

pub returns : goal.returns
returns c =
    let here = goal.at.returns c in
    let floor = one here.After-residue c.if-residue-eq0.false in
    let q_is = held_ok (int_div c.args.a c.args.b) c.in_ok-quotient.field-0 (sym (first here.After-in_range-quotient) ∙ c.in_ok-quotient.was) in
    let less = c.in_range.ensures (c.in_ok-quotient.field-0 -ℤ pos 1) (rw (to_z-of_z w64 c.in_ok-quotient.field-0 (search rules)) at c.checked_sub.ensures) in
    less ∙ ap (λ z. number_or_limit (z -ℤ pos 1)) (q_is ∙ floor.quotient) ∙ ap number_or_limit (sym floor.floor)
