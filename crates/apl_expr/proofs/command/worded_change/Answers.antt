use Rattle.{std.proofs.Common.{◌∙◌}, apl_tokens.specs.Lexemes.{lexemes}, apl_expr.proofs.Changes.{no_word_of_change}}
use Rattle.apl_expr.proofs.command.worded_change.Goals as goal

pub returns-in_default : goal.returns-in_default
returns-in_default c =
    let is = c.text.ensures in
    let other = c.in_default in
    no_word_of_change (lexemes c.args.rest.now) c.args.word (λ h. other.not-DATA (is ∙ h)) (λ h. other.not-ROW (is ∙ h)) (λ h. other.not-ERASE (is ∙ h))
