-- The matches and the faults that `clap` reports for this command are exact.
use Rattle.std.{proofs.Common.{◌≡◌, ◌∙◌, ap, refl, sym, true, List, []}, proofs.lemmas.Bool.{and_parts}}
use Rattle.clap.{specs.Words.{App, HasMatchesOf, Text, fault_of, is_simple, is_simple_and_free, subcommand_of, subcommand_rows_of}, specs.declared.parser.matches.ArgMatches.{ArgMatches}, proofs.OnLiterals.{clap_on_literals}}
use Rattle.program_words.specs.Program.{aplsheet, run_command, table_command}

pub is_free : (a : App) → a ≡ aplsheet → is_simple_and_free a ≡ true
unfolding aplsheet run_command table_command clap_on_literals
is_free a is = rw is refl

-- words that `clap` accepts have no fault, and the matches are exact
pub accepted : (a : App) (m : ArgMatches) (words : List Text) → a ≡ aplsheet → HasMatchesOf a words m → (is_simple_and_free a ≡ true → fault_of a words ≡ [])
    → (subcommand_rows_of m ≡ subcommand_of aplsheet words) × (fault_of aplsheet words ≡ [])
accepted a m words is h none = (
  (h (and_parts (is_simple a) _ (is_free a is)).0).1 ∙ ap (λ (b : App). subcommand_of b words) is,
  sym (ap (λ (b : App). fault_of b words) is) ∙ none (is_free a is),
)
