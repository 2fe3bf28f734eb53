use Rattle.{std.{proofs.Common.{◌≡◌, ◌∙◌, ℕ, List, [], ◌∷◌, sym, subst, arith}, specs.List.{Contains}}, dep_order.proofs.Following.{contains_here}}
use Rattle.formula_core.{specs.Changes.{IsNameChanged}, specs.Plans.{IsNameSound}}
use Rattle.sheet_recalc.{specs.ProposedSheet.{outline_of, proposed_change}, proofs.PlannedNames.{formula_told, of_one, one_item}}
use Rattle.sheet_recalc.proofs.ahead.Ahead.work.Goals as goal

pub input_of-requires-clause-done : goal.input_of-requires-clause-done
input_of-requires-clause-done c =
    let one : c.references.result.now ≡ c.one-item.result ∷ [] = one_item c.references.result.now c.one-item.result (omega (arith, c.in-len1.len_at_least, c.in-len1.len_below)) c.one-item.is in
    c.requires.done c.one-item.result (subst (λ (ns : List (List ℕ)). Contains ns c.one-item.result) (sym one ∙ c.references.ensures) (contains_here c.one-item.result []))

pub apply-requires-clause-told : goal.apply-requires-clause-told
apply-requires-clause-told c =
    let o = outline_of c.args.self.now.proposed.now in
    let change = proposed_change o in
    let next = c.requires.next.3 in
    let x = c.one-item.result in
    let one : c.references.result.now ≡ x ∷ [] = one_item c.references.result.now x (omega (arith, c.in-len1.len_at_least, c.in-len1.len_below)) c.one-item.is in
    let i = c.input_of.ensures in
    formula_told o c.requires.ahead.proposed next.name c.args.formula.now next.held (x ∷ []) (c.input_of.result ∷ []) (sym one ∙ c.references.ensures) (i.input, tt)
    (of_one (IsNameChanged change) x i.changed) (of_one (IsNameSound change) x i.sound)
