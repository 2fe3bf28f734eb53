use Rattle.std.{proofs.Common.{◌≡◌, ◌<◌, [], ◌∷◌, List, ◌++◌, map, length, refl, sym, subst, arith}, proofs.lemmas.List.{append-nil}, proofs.lemmas.Bool.{false≢true}}
use Rattle.sheet_desk.{specs.declared.event.Event.{Event}, specs.Desk.{Answer, AreEvents}, specs.Asked.{event_of, answer_of}}
use Rattle.sheet_desk.specs.declared.event.Answer as told
use Rattle.sheet_desk.proofs.desk.Desk.apply_all.Goals as goal

none_left : (xs : List Event) → (0 < length xs → ⊥) → xs ≡ []
none_left [] h = refl
none_left (x ∷ xs) h = absurd (h (omega arith))

pub returns-clause-run : goal.returns-clause-run
returns-clause-run c =
    let desk = c.loop-event.self in
    let empty = none_left c.loop-event.events.items (λ l. false≢true (c.in_default.ensures.variant.1 (omega (arith, c.loop-event.events.ok.0)))) in
    subst (λ (answers : List Answer). AreEvents c.args.self.now (map event_of c.args.events.items) answers desk) (append-nil (map answer_of
    c.loop-event.answers.items))
    (c.loop-event.invariant.run [] desk (subst (λ (es : List Event). AreEvents desk (map event_of es) [] desk) (sym empty) refl))

pub loop-event-init : goal.loop-event-init
loop-event-init c = record {
  room = omega (arith, c.in_ok-answers.ensures.len, c.in_ok-answers.ensures.capacity, c.len.ensures, c.args.events.ok.0);
  run = λ rest new h. subst (λ (answers : List told.Answer). AreEvents c.args.self.now (map event_of c.args.events.items) (map answer_of answers ++ rest) new) (sym
      c.in_ok-answers.ensures.items) h;
}
