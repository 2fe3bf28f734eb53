use Rattle.{std.proofs.Common.{ap, ◌∙◌, codes, Some}, clap.{specs.Words.{found_of}, proofs.WalkLemmas.{first_value-rows}}}
use Rattle.program_words.proofs.reading.script_of.Goals as goal

pub returns-in-None : goal.returns-in-None
returns-in-None c = c.in-None.ensures ∙ first_value-rows (found_of c.args.values.now) (codes "SCRIPT")

pub returns-in_ok-script-in-Some : goal.returns-in_ok-script-in-Some
returns-in_ok-script-in-Some c = ap Some c.in_ok-script-in-Some.ensures.ok ∙ c.in-Some.ensures ∙ first_value-rows (found_of c.args.values.now) (codes "SCRIPT")
