use Rattle.std.{proofs.Common.{◌≡◌, ◌∙◌, rules, inl, inr, ◌+ℤ◌, to_z, of_z, w64, SFits, int_rem}, proofs.lemmas.Int.{to_z-of_z}}
use Rattle.item_fns.{specs.Numbers.{residue}, proofs.Signs.{zero_of_bits}, proofs.Residues.{corrected, as_it_is}, proofs.Rests.{rest_by}, proofs.numbers.residue.Goals.{else-rest-ne0-via-then-rest-ne0+else-rest-a, else-rest-ne0-via-else-rest-ne0}}
use Rattle.item_fns.proofs.numbers.residue.Goals as goal

pub returns-then-rest-a : goal.returns-then-rest-a
returns-then-rest-a c =
    let a = c.args.a in
    let b = c.args.b in
    let rest = c.wrapping_rem-rest.result in
    let same_a : to_z w64 (of_z w64 a) ≡ a = to_z-of_z w64 a c.ranges.a in
    let same_rest : to_z w64 (of_z w64 rest) ≡ rest = to_z-of_z w64 rest (record { sfits = c.wrapping_rem-rest.type_inv }) in
    let is : rest ≡ int_rem b a = rw (same_a, to_z-of_z w64 b c.ranges.b) at c.wrapping_rem-rest.ensures in
    let sum_fits : SFits w64 (to_z w64 (of_z w64 rest) +ℤ to_z w64 (of_z w64 a)) = search rules in
    let value = to_z-of_z w64 _ sum_fits ∙ (rw (same_rest, same_a) (corrected a b rest c.if-a-eq0.false is c.if-rest-ne0.true (rw (same_rest, same_a) at c.if-rest-a.true))) in
    record { is = value; rest = rest_by a b _ value }

pub returns-else-rest-ne0 : goal.returns-else-rest-ne0
returns-else-rest-ne0 c =
    let a = c.args.a in
    let b = c.args.b in
    let rest = c.wrapping_rem-rest.result in
    let rest_fits : SFits w64 rest = record { sfits = c.wrapping_rem-rest.type_inv } in
    let same_a : to_z w64 (of_z w64 a) ≡ a = to_z-of_z w64 a c.ranges.a in
    let same_rest : to_z w64 (of_z w64 rest) ≡ rest = to_z-of_z w64 rest rest_fits in
    let is : rest ≡ int_rem b a = rw (same_a, to_z-of_z w64 b c.ranges.b) at c.wrapping_rem-rest.ensures in
    let value : to_z w64 (of_z w64 rest) ≡ residue a b = same_rest ∙ elim c.else-rest-ne0.branch [
      | else-rest-ne0-via-then-rest-ne0+else-rest-a w ↦
          as_it_is a b rest c.if-a-eq0.false is (inr (rw (same_rest, same_a) at w.if-rest-a.false))
      | else-rest-ne0-via-else-rest-ne0 w ↦
          as_it_is a b rest c.if-a-eq0.false is (inl (zero_of_bits rest rest_fits w.if-rest-ne0.false))
    ] in
    record { is = value; rest = rest_by a b _ value }
