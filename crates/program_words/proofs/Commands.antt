-- The value of a command after words or a subcommand were added.
use Rattle.std.{proofs.Common.{◌≡◌, ◌∙◌, ap, ap₂, sym, false, List, [], ◌∷◌, map, Ok, Err, Result}, specs.List.{fold}, specs.Result.{IfOk, IsOkAnd}, specs.declared.alloc.AllocError.{AllocError}}
use Rattle.clap.{specs.Words.{AddsArg, AddsInTurn, AddsSubcommand, App, app_of, rule_of}, specs.Simple.{with_rule, with_subcommand}, specs.declared.builder.arg.Arg.{Arg}, specs.declared.builder.command.Command.{Command}, specs.declared.builder.command.Command.TheViews.{out-Command}}

-- no word is global: none applies to the subcommands
abbrev pub AreLocal : List Arg → Type 0
AreLocal [] = Unit {0}
AreLocal (a ∷ words) = (a.global ≡ false) × AreLocal words

-- words that are added in turn are its rules, in this order
pub words_added : (words : List Arg) (old new : Command) → AreLocal words → AddsInTurn AddsArg old words new
    → app_of new ≡ fold with_rule (app_of old) (map rule_of words)
words_added [] old new local is = ap app_of (sym is)
words_added (a ∷ words) old new local added =
    words_added words added.0 new local.1 added.2 ∙ ap (λ (app : App). fold with_rule app (map rule_of words)) (added.1.shape local.0)

-- a subcommand is added, if memory sufficed for both
pub command_added : (command added both : Result Command AllocError) (a b : App) → IfOk command (λ c. app_of c ≡ a) → IfOk added (λ c. app_of c ≡ b)
    → IfOk added (λ c. (out-Command c).has_globals ≡ false) → IfOk both (λ r. IsOkAnd command (λ c. IsOkAnd added (λ d. AddsSubcommand c d r)))
    → IfOk both (λ r. app_of r ≡ with_subcommand a b.top)
command_added (Ok c) (Ok d) (Ok r) a b is adds local h = h.shape local ∙ ap₂ with_subcommand is (ap (λ (app : App). app.top) adds)
command_added command added (Err e) a b is adds local h = tt
command_added _ _ (Ok r) a b is adds local h = absurd h
