use Rattle.std.{proofs.Common.{Ok, ◌∷◌, rules, w64, SFits}, proofs.lemmas.Int.{to_z-of_z}, proofs.lemmas.List.{length-map}, proofs.lemmas.Result.{err_from_is_err_and}}
use Rattle.apl_tokens.specs.Lexemes.{lexemes, Named, Sign}
use Rattle.apl_expr.{specs.Lines.{open_word, IsCommand}, specs.Changes.{IsChangeOf}, proofs.Changes.{exits}, proofs.Commands.{open_none, open_ok, open_err}}
use Rattle.apl_expr.proofs.command.open.Goals as goal

pub returns-in_default : goal.returns-in_default
returns-in_default c = open_none (lexemes c.args.rest.now) (simp length-map c.requires) c.in_default.ensures

pub returns-in_err-change : goal.returns-in_err-change
returns-in_err-change c =
    let p = err_from_is_err_and c.from_residual.result c.from_residual.ensures.1 in
    exits (IsCommand (Sign 0x29 ∷ Named open_word ∷ lexemes c.args.rest.now)) c.from_residual.result c.in_err-change.field-0.0 p.0 p.1 p.2
    (open_err (lexemes c.args.rest.now) (simp length-map c.requires) _ _ c.in-Some.ensures c.in_err-change.field-0.0 c.in_err-change.ensures)

pub returns : goal.returns
returns c =
    let fits : SFits w64 c.in-Some.slot = search rules in
    let change : IsChangeOf (lexemes c.in-Some.tokens.now) (Ok c.in_ok-change-2.change.value) = rw c.in_ok-change-2.ensures.ok c.in_ok-change.ensures in
    rw (to_z-of_z w64 c.in-Some.slot fits) (open_ok (lexemes c.args.rest.now) (simp length-map c.requires) _ _ c.in-Some.ensures c.in_ok-change-2.change change)
