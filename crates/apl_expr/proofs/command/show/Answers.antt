use Rattle.{std.proofs.lemmas.List.{length-map}, apl_tokens.specs.Lexemes.{lexemes}, apl_expr.proofs.Commands.{show_ok, show_err}}
use Rattle.apl_expr.proofs.command.show.Goals as goal

pub returns-in-Ok : goal.returns-in-Ok
returns-in-Ok c = show_ok (lexemes c.args.tokens.now) (simp length-map c.requires.some) (simp length-map c.requires.short) c.requires.no_change c.requires.no_word c.in-Ok.shown c.in-Ok.ensures

pub returns-in-Err : goal.returns-in-Err
returns-in-Err c = show_err (lexemes c.args.tokens.now) (simp length-map c.requires.some) (simp length-map c.requires.short) c.requires.no_change c.requires.no_word c.in-Err.fault c.in-Err.ensures
