use Rattle.std.{proofs.Common.{◌≡◌, ℕ, List, [], ◌∷◌, length, sym, subst, ◌∙◌, rules, w64, SFits}, proofs.lemmas.Bool.{eqb-true}, proofs.lemmas.Int.{to_z-of_z}}
use Rattle.apl_tokens.{specs.Lexemes.{Named}, specs.Signs.{left_bracket}, specs.Reading.{ReadsBefore, EndsName}, proofs.EditBytes.{edit_read}}
use Rattle.apl_tokens.proofs.cell_edit.number_edit.Goals as goal

pub returns : goal.returns
returns c =
    let fits : SFits w64 c.in_ok-number.number = search rules in
    let none : length c.in_ok-number.rest.now ≡ 0 = eqb-true (length c.in_ok-number.rest.now) 0 (sym c.is_empty.ensures ∙ c.if-not-is_empty.false) in
    let named : ReadsBefore EndsName c.args.text.now (left_bracket ∷ c.in-Some.front.rest.now) (Named c.in-Some.front.name ∷ []) =
    subst (λ (bs : List ℕ). ReadsBefore EndsName bs (left_bracket ∷ c.in-Some.front.rest.now) (Named c.in-Some.front.name ∷ [])) c.as_bytes.ensures.value c.in-Some.ensures in
    (rw (to_z-of_z w64 c.in_ok-number.number fits) (edit_read c.in-Some.front.name c.positions_front.new.positions.items c.in_ok-number.number c.args.text.now c.in-Some.front.rest.now c.in_ok-rest.rest.now c.in_ok-rest-2.rest.now c.in_ok-number.rest.now named c.in_ok-rest.ensures.reads c.in_ok-rest-2.ensures c.in_ok-number.ensures none), c.in_ok-rest.ensures.some, c.in_ok-rest.ensures.few)
