use Rattle.std.{proofs.Common.{Some, Result, Err, [], sym, ap, ◌∙◌, subst, arith}, proofs.lemmas.List.{length-take, length-drop}, proofs.lemmas.Result.{err_from_is_err_and}}
use Rattle.apl_tokens.specs.Lexemes.{lexemes}
use Rattle.apl_expr.{specs.Machine.{run, state, Nothing}, specs.Parsing.{stack, reading_of, Gives}, specs.declared.plain.Plain.{Plain}, specs.declared.fault.ParseFault.{ParseFault}, proofs.Steps.{kept, failed, finished}}
use Rattle.apl_expr.proofs.parser.tree.Goals as goal

pub loop-first-init : goal.loop-first-init
loop-first-init c = ap (λ ws. run 0 (lexemes c.args.tokens.now) (Some (state (stack ws) Nothing))) c.new-waiting.ensures.items

pub returns-in_err-reading : goal.returns-in_err-reading
returns-in_err-reading c =
    let p = err_from_is_err_and c.from_residual.result c.from_residual.ensures.1 in
    let given = failed c.loop-first.rest.now c.in-Some.first.now c.in-Some.after.now c.in-Some.ensures.cases.0 c.function_from-function.result c.function_from-function.ensures.is (stack c.loop-first.waiting.items) (reading_of c.loop-first.reading) _ c.loop-first.invariant c.in_err-reading.field-0.0 c.read_token.new.waiting.items c.in_err-reading.ensures in
    subst (λ (r : Result Plain ParseFault). Gives r (run 0 (lexemes c.args.tokens.now) (Some (state [] Nothing)))) (sym (p.1 ∙ ap (λ (e : ParseFault). Err e) p.2)) given

pub loop-first-smaller : goal.loop-first-smaller
loop-first-smaller c = let longer = c.in-Some.ensures.cases.1 in simp (length-take, length-drop) (omega arith)

pub loop-first-preserved : goal.loop-first-preserved
loop-first-preserved c = kept c.loop-first.rest.now c.in-Some.first.now c.in-Some.after.now c.in-Some.ensures.cases.0 c.function_from-function.result c.function_from-function.ensures.is (stack c.loop-first.waiting.items) (reading_of c.loop-first.reading) _ c.loop-first.invariant _ c.in_ok-reading.ensures

pub returns : goal.returns
returns c = finished c.finish.result c.loop-first.rest.now (stack c.loop-first.waiting.items) (reading_of c.loop-first.reading) _ c.in_default.ensures.variant.1 c.loop-first.invariant c.finish.ensures
