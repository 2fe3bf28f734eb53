-- The command of the program, as a value of `clap`.
use Rattle.std.specs.Prelude.{Some, true, codes}
use Rattle.clap.{specs.Words.{App, Rule, Text, new_app, new_rule, with_rule, with_subcommand}, specs.declared.builder.action.ArgAction.TheVariants.{SetTrue}}

-- a required word; a flag with this name
abbrev pub required_rule : Text → Rule
required_rule id = record (new_rule id) { required = true }

abbrev pub flag_rule : Text → Rule
flag_rule id = record (new_rule id) { long = Some id; action = Some SetTrue }

-- `run [SCRIPT]`
unfoldable pub run_command : App
run_command = with_rule (new_app (codes "run")) (new_rule (codes "SCRIPT"))

-- `table NAME FILE [SCRIPT] --header`
unfoldable pub table_command : App
table_command = with_rule (with_rule (with_rule (with_rule (new_app (codes "table"))
    (required_rule (codes "NAME"))) (required_rule (codes "FILE"))) (new_rule (codes "SCRIPT"))) (flag_rule (codes "header"))

-- `aplsheet`, with these two subcommands
unfoldable pub aplsheet : App
aplsheet = with_subcommand (with_subcommand (new_app (codes "aplsheet")) run_command.top) table_command.top
