use Rattle.{std.{proofs.Common.{◌∙◌, sym}, proofs.lemmas.Bool.{false≢true}}, formula_core.proofs.Steps.{taken_input, taken_shown, taken_fits}}
use Rattle.formula_core.proofs.stage.Stage.argument.Goals as goal

pub returns-then-self-clause-ready : goal.returns-then-self-clause-ready
returns-then-self-clause-ready c = λ change names trees staged. record {
  is = λ old. absurd (false≢true (sym old ∙ c.if-self.true));
  shows = λ new. c.made_anew.ensures.shown ∙ taken_shown change names trees c.args.self.now staged c.args.argument.now c.requires.within c.taken-input.result c.taken-input.ensures;
  anew = λ new. c.made_anew.ensures.anew;
}

pub returns-clause-fit : goal.returns-clause-fit
returns-clause-fit c =
    let s = c.requires.staged in
    taken_fits s.0 s.1.0 s.1.1.0 c.args.self.now s.1.1.1 c.if-self.false c.requires.literals c.args.argument.now c.requires.within c.taken-input.result c.taken-input.ensures

pub returns-clause-ready : goal.returns-clause-ready
returns-clause-ready c = λ change names trees staged. record {
  is = λ old. taken_input change names trees c.args.self.now staged old c.requires.literals c.args.argument.now c.requires.within c.taken-input.result c.taken-input.ensures;
  shows = λ new. absurd (false≢true (sym c.if-self.false ∙ new));
  anew = λ new. absurd (false≢true (sym c.if-self.false ∙ new));
}
