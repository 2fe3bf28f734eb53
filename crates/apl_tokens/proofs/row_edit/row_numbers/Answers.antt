use Rattle.std.{proofs.Common.{◌≡◌, length, sym, ◌∙◌, rules, w64, SFits}, proofs.lemmas.Bool.{eqb-true}, proofs.lemmas.Int.{to_z-of_z}}
use Rattle.apl_tokens.proofs.EditBytes.{one_number}
use Rattle.apl_tokens.proofs.row_edit.row_numbers.Goals as goal

pub returns-then-is_empty-clause-reads : goal.returns-then-is_empty-clause-reads
returns-then-is_empty-clause-reads c =
    let fits : SFits w64 c.in_ok-first.first = search rules in
    let none : length c.in_ok-first.rest.now ≡ 0 = eqb-true (length c.in_ok-first.rest.now) 0 (sym c.is_empty.ensures ∙ c.if-is_empty.true) in
    rw (to_z-of_z w64 c.in_ok-first.first fits) (one_number c.args.text.now c.in_ok-first.rest.now c.in_ok-first.first c.in_ok-first.ensures none)
