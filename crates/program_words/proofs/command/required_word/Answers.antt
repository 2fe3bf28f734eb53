use Rattle.{std.proofs.Common.{ap, ◌∙◌, true}, clap.specs.Words.{Rule, rule_of}}
use Rattle.program_words.proofs.command.required_word.Goals as goal

pub returns-clause-rule : goal.returns-clause-rule
returns-clause-rule c = ap rule_of c.help.ensures ∙ ap rule_of c.required.ensures ∙ ap (λ (r : Rule). record r { required = true }) c.new.ensures.rule
