use Rattle.{std.{proofs.Common.{ap, ◌∙◌}, proofs.lemmas.Result.{IfOk-weaker}}, clap.specs.Simple.{app_of_fields}}
use Rattle.program_words.{specs.Program.{aplsheet}, proofs.Commands.{command_added}}
use Rattle.program_words.proofs.command.program.Goals as goal

pub returns : goal.returns
unfolding aplsheet
returns c =
    let bare = IfOk-weaker c.bin_name-bare.result _ _ (λ r named. ap app_of_fields named.0 ∙ c.described.ensures.app) c.bin_name-bare.ensures in
    let with_run = command_added c.bin_name-bare.result c.run_command.result c.with_command-with_run.result _ _ bare c.run_command.ensures.app c.run_command.ensures.local
    c.with_command-with_run.ensures in
    command_added c.with_command-with_run.result c.table_command.result c.with_command.result _ _ with_run c.table_command.ensures.app c.table_command.ensures.local c.with_command.ensures
