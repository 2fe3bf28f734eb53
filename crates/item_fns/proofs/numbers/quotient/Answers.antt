use Rattle.std.{proofs.Common.{◌≡◌, ◌∙◌, sym, ap, Ok, to_z, of_z, w64, SFits, int_div, int_rem, rules}, proofs.lemmas.Int.{to_z-of_z}}
use Rattle.item_fns.{proofs.Residues.{quotient_whole, quotient_broken}, proofs.Quotients.{no_remainder, no_residue, no_bits}, proofs.Signs.{is_not_zero}, proofs.Within.{held}}
use Rattle.item_fns.proofs.numbers.quotient.Goals as goal

pub returns-then-a-b-ne0 : goal.returns-then-a-b-ne0
returns-then-a-b-ne0 c =
    let a = c.args.a in
    let b = c.args.b in
    let some = is_not_zero b c.if-b-eq0.false in
    sym (quotient_broken a b some (λ e. (rw (to_z-of_z w64 a c.ranges.a, to_z-of_z w64 b c.ranges.b) at c.if-a-b-ne0.true) (ap (of_z w64) (no_remainder a b some e))))

pub returns : goal.returns
returns c =
    let a = c.args.a in
    let b = c.args.b in
    let same_a : to_z w64 (of_z w64 a) ≡ a = to_z-of_z w64 a c.ranges.a in
    let same_b : to_z w64 (of_z w64 b) ≡ b = to_z-of_z w64 b c.ranges.b in
    let bits : of_z w64 (int_rem a b) ≡ 0 = rw (same_a, same_b) at c.if-a-b-ne0.false in
    let whole = quotient_whole a b (is_not_zero b c.if-b-eq0.false) (no_residue a b c.if-b-eq0.false (no_bits a b c.if-b-eq0.false c.ranges.b bits)) in
    let fits : SFits w64 (int_div a b) = search rules in
    rw (same_a, same_b) (ap Ok (to_z-of_z w64 (int_div a b) fits) ∙ sym (whole ∙ held (int_div a b) fits))
