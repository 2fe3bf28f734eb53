use Rattle.{std.{proofs.Common.{◌≡◌, ◌++◌, sym, ◌∙◌}, specs.Prelude.{codes}}, apl_tokens.{specs.NumberEdits.{row_numbers_of}, proofs.EditBytes.{row_read}}}
use Rattle.apl_tokens.proofs.row_edit.number_row.Goals as goal

pub returns-clause-row : goal.returns-clause-row
returns-clause-row c =
    let begun : c.args.text.now ≡ codes ")ROW " ++ c.in_ok-rest.rest.now = sym c.as_bytes.ensures.value ∙ c.in_ok-rest.ensures in
    (row_read c.in-Some.front.name (row_numbers_of c.in_ok-numbers.numbers) c.args.text.now c.in_ok-rest.rest.now c.in-Some.front.rest.now begun c.in-Some.ensures c.in_ok-numbers.ensures.reads, c.in_ok-numbers.ensures.several)
