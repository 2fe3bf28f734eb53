use Rattle.sheet_tests.proofs.steps_tests.step.Goals as goal

pub advance-requires-2 : goal.advance-requires-2
advance-requires-2 c = (c.requires.0, c.advance.ensures.kept c.requires.0 c.requires.1)

pub returns : goal.returns
returns c = λ change h. c.advance-2.ensures.kept change (c.advance.ensures.kept change h)
