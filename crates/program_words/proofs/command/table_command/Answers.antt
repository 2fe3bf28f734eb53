use Rattle.std.{proofs.Common.{ap₂, subst, ◌∙◌, List, [], ◌∷◌}, proofs.lemmas.Result.{IfOk-weaker}, specs.Result.{IfOk}}
use Rattle.clap.{specs.Simple.{with_rule}, specs.Words.{AddsArg, AddsInTurn}, specs.declared.builder.arg.Arg.{Arg}}
use Rattle.program_words.{specs.Program.{table_command}, proofs.Commands.{AreLocal, words_added}}
use Rattle.program_words.proofs.command.table_command.Goals as goal

pub returns-clause-app : goal.returns-clause-app
unfolding table_command
returns-clause-app c =
    let words : List Arg = c.required_word.result ∷ c.required_word-2.result ∷ c.script_word.result ∷ c.header_flag.result ∷ [] in
    let local : AreLocal words = (c.required_word.ensures.local, (c.required_word-2.ensures.local, (c.script_word.ensures.local, (c.header_flag.ensures.local, tt)))) in
    let rules = ap₂ with_rule (ap₂ with_rule (ap₂ with_rule (ap₂ with_rule c.described.ensures.app c.required_word.ensures.rule)
    c.required_word-2.ensures.rule) c.script_word.ensures.rule) c.header_flag.ensures.rule in
    IfOk-weaker c.args-2.result _ _ (λ r added. words_added words c.described.result r local added ∙ rules)
    (subst (λ (xs : List Arg). IfOk c.args-2.result (AddsInTurn AddsArg c.described.result xs)) c.in_ok-words.ensures.items c.args-2.ensures)
