use Rattle.{std.{proofs.Common.{ap₂, ◌∙◌}, proofs.lemmas.Result.{IfOk-weaker}}, clap.specs.Simple.{with_rule}, program_words.specs.Program.{run_command}}
use Rattle.program_words.proofs.command.run_command.Goals as goal

pub returns-clause-app : goal.returns-clause-app
unfolding run_command
returns-clause-app c =
    IfOk-weaker c.arg.result _ _ (λ r added. added.shape c.script_word.ensures.local ∙ ap₂ with_rule c.described.ensures.app c.script_word.ensures.rule) c.arg.ensures
