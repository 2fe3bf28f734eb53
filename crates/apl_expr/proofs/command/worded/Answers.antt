use Rattle.std.{proofs.Common.{◌∙◌, ◌∷◌, arith}, proofs.lemmas.List.{length-map}, proofs.lemmas.Result.{err_from_is_err_and}}
use Rattle.apl_tokens.specs.Lexemes.{lexemes, Named, Sign}
use Rattle.apl_expr.{specs.Lines.{IsCommand}, proofs.Changes.{exits}, proofs.Commands.{change_ok, changed_word}}
use Rattle.apl_expr.proofs.command.worded.Goals as goal

pub returns-in_ok-worded_change-in_default : goal.returns-in_ok-worded_change-in_default
returns-in_ok-worded_change-in_default c = change_ok (Sign 0x29 ∷ Named c.args.word ∷ lexemes c.args.rest.now) (simp length-map (omega arith)) _ c.in_ok-worded_change-in_default.ensures

pub returns-in_err-worded_change-in_default : goal.returns-in_err-worded_change-in_default
returns-in_err-worded_change-in_default c =
    let is = c.text.ensures in
    let other = c.in_default in
    let p = err_from_is_err_and c.from_residual.result c.from_residual.ensures.1 in
    exits (IsCommand (Sign 0x29 ∷ Named c.args.word ∷ lexemes c.args.rest.now)) c.from_residual.result _ p.0 p.1 p.2
    (changed_word (lexemes c.args.rest.now) (simp length-map c.requires) c.args.word
    (λ h. other.not-NAMES (is ∙ h)) (λ h. other.not-COST (is ∙ h)) (λ h. other.not-CSV (is ∙ h))
    (λ h. other.not-OPEN (is ∙ h)) (λ h. other.not-STEP (is ∙ h)) (λ h. other.not-COMMIT (is ∙ h)) (λ h. other.not-DROP (is ∙ h)) _ c.in_err-worded_change-in_default.ensures)
