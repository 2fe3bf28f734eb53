use Rattle.std.{proofs.Common.{◌≡◌, ◌+◌, ◌∙◌, ap, sym, ℕ, List, [], ◌∷◌, ◌++◌, map, take}, proofs.lemmas.List.{take_more, map-append}}
use Rattle.{arrays_core.specs.declared.fault.Fault.{Fault}, formula_core.specs.Outcomes.{error_in}}
use Rattle.formula_core.proofs.evaluation.errors_shown.Goals as goal

pub loop-reference-preserved : goal.loop-reference-preserved
loop-reference-preserved g c =
    let error : List ℕ → Fault = λ x. error_in (g.S.Shows.shows c.args.names.now x) in
    let done = take c.loop-reference.reference-index c.args.references.now in
    let x = c.reference-item.result in
    let more : take (c.loop-reference.reference-index + 1) c.args.references.now ≡ done ++ x ∷ [] =
    take_more c.args.references.now c.loop-reference.reference-index x c.loop-reference-test.true ∙ ap (λ (y : List ℕ). done ++ y ∷ []) (sym c.reference-item.is) in
    c.in_ok-push.ensures.items
    ∙ ap (λ (es : List Fault). es ++ c.error_shown.result ∷ []) c.loop-reference.invariant
    ∙ ap (λ (e : Fault). map error done ++ e ∷ []) c.error_shown.ensures
    ∙ sym (map-append error done (x ∷ []))
    ∙ ap (map error) (sym more)
