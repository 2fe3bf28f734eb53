use Rattle.std.{proofs.Common.{◌≡◌, ◌+◌, List, [], ◌∷◌, ◌++◌, length, length-append, ap, ◌∙◌, arith, rules, w64, SFits}, specs.Prelude.{ℤ}, proofs.lemmas.Int.{to_z-of_z}}
use Rattle.apl_tokens.proofs.EditBytes.{one_more_number}
use Rattle.apl_tokens.proofs.row_edit.more_numbers.Goals as goal

pub loop-preserved : goal.loop-preserved
loop-preserved c =
    let fits : SFits w64 c.in_ok-number.number = search rules in
    let pushed : c.push_reserved.new.self.items ≡ c.loop.numbers.items ++ c.in_ok-number.number ∷ [] = c.push_reserved.ensures.items ∙ ap (λ (k : ℤ). c.loop.numbers.items ++ k ∷ []) (to_z-of_z w64 c.in_ok-number.number fits) in
    let longer : length c.push_reserved.new.self.items ≡ length c.loop.numbers.items + 1 = ap (λ (ns : List ℤ). length ns) pushed ∙ length-append c.loop.numbers.items (c.in_ok-number.number ∷ []) in (
      omega (arith, longer, c.loop.invariant.0),
      c.push_reserved.ensures.capacity ∙ c.loop.invariant.1,
      one_more_number c.args.text.now c.loop.rest.now c.in_ok-after_blank.field-0.now c.in_ok-number.after.now c.args.numbers.now.items c.loop.numbers.items c.push_reserved.new.self.items c.in_ok-number.number c.loop.invariant.2 c.in_ok-after_blank.ensures c.in_ok-number.ensures pushed,
    )
