use Rattle.std.{proofs.Common.{◌≡◌, ◌<◌, [], ◌∷◌, List, ◌++◌, Result, map, length, refl, sym, subst, arith}, proofs.lemmas.List.{append-nil}, proofs.lemmas.Bool.{false≢true}}
use Rattle.apl_expr.specs.declared.command.Change.{Change}
use Rattle.sheet_recalc.{specs.declared.refusal.Refusal.{Refusal}, specs.History.{Run, change_of, sheet_state_of}}
use Rattle.sheet_recalc.proofs.sheet.Sheet.apply_all.Goals as goal

none_left : (xs : List Change) → (0 < length xs → ⊥) → xs ≡ []
none_left [] h = refl
none_left (x ∷ xs) h = absurd (h (omega arith))

pub returns-clause-run : goal.returns-clause-run
returns-clause-run c =
    let state = sheet_state_of c.loop-change.self in
    let empty = none_left c.loop-change.changes.items (λ l. false≢true (c.in_default.ensures.variant.1 (omega (arith, c.loop-change.changes.ok.0)))) in
    subst (λ (told : List (Result (Unit {0}) Refusal)). Run (sheet_state_of c.args.self.now) (map change_of c.args.changes.items) told state) (append-nil c.loop-change.answers.items)
    (c.loop-change.invariant.run [] state (subst (λ (cs : List Change). Run state (map change_of cs) [] state) (sym empty) refl))

pub loop-change-init : goal.loop-change-init
loop-change-init c = record {
  room = omega (arith, c.in_ok-answers.ensures.len, c.in_ok-answers.ensures.capacity, c.len.ensures, c.args.changes.ok.0);
  run = λ rest new h. subst (λ (told : List (Result (Unit {0}) Refusal)). Run (sheet_state_of c.args.self.now) (map change_of c.args.changes.items) (told ++ rest) new) (sym c.in_ok-answers.ensures.items) h;
}
