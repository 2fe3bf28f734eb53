use Rattle.sheet_tests.proofs.steps_tests.counts.Goals as goal

pub step-requires-2 : goal.step-requires-2
step-requires-2 c = (c.requires.0, c.step.ensures c.requires.0 c.requires.1)

pub step-requires-3 : goal.step-requires-3
step-requires-3 c = (c.requires.0, c.step-2.ensures c.requires.0 (c.step.ensures c.requires.0 c.requires.1))
