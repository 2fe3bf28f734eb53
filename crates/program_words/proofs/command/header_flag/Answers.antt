use Rattle.{std.proofs.Common.{ap, ◌∙◌, codes, Some}, clap.{specs.Words.{Rule, rule_of}, specs.declared.builder.action.ArgAction.TheVariants.{SetTrue}}}
use Rattle.program_words.proofs.command.header_flag.Goals as goal

pub returns-clause-rule : goal.returns-clause-rule
returns-clause-rule c =
    ap rule_of c.help.ensures ∙ ap rule_of c.action.ensures ∙ ap (λ (r : Rule). record r { action = Some SetTrue }) (ap rule_of c.long.ensures)
    ∙ ap (λ (r : Rule). record r { long = Some (codes "header"); action = Some SetTrue }) c.new.ensures.rule
