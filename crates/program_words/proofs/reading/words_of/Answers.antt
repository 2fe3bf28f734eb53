use Rattle.std.{proofs.Common.{◌≡◌, arith, refl, sym, ◌∙◌, List, Option, Some, None, option_map}, proofs.lemmas.Bool.{both_ways, not-true, not-false}, proofs.lemmas.Result.{err_from_is_err_and}, specs.Prelude.{Box}, specs.Box.{box_value}}
use Rattle.clap.{specs.declared.parser.matches.SubCommand.{SubCommand}, specs.Words.{Row, Text, subcommand_rows, subcommand_rows_of}, specs.declared.parser.matches.ArgMatches.TheViews.{out-SubCommand}}
use Rattle.program_words.{specs.Asked.{HasBadName, Means}, specs.Matched.{IsWholeTable}, proofs.Refusals.{for_name-weaker}}
use Rattle.program_words.proofs.reading.words_of.Goals as goal

-- the subcommand, from its name and its rows
sub_some : {Z : Type 0} (x : Option (Box SubCommand Z)) (name : Text) (rows : List Row)
    → option_map (λ b. (out-SubCommand (box_value b)).name.now) x ≡ Some name
    → option_map (λ (p : Text × List Row). p.1) (subcommand_rows x) ≡ Some rows → subcommand_rows x ≡ Some (name, rows)
sub_some x name rows h k = grind arith

pub returns-in_default-clause-ok : goal.returns-in_default-clause-ok
unfolding Means
returns-in_default-clause-ok c =
    let none : subcommand_rows_of c.args.matches.now ≡ None = (let e = c.in_default.ensures.rows in grind arith) in
    rw none (refl, refl)

pub returns-then-ne-clause-ok : goal.returns-then-ne-clause-ok
unfolding Means
returns-then-ne-clause-ok c =
    let n = c.in-Some.ensures in
    rw (sub_some _ _ _ (sym n.name) (sym n.rows)) (c.in_ok-script.ensures, (λ e. both_ways _ (not-true _ (sym c.ne.ensures ∙ c.if-ne.true)) e), λ e. refl)

pub table_of-requires : goal.table_of-requires
unfolding IsWholeTable
table_of-requires c =
    (rw (sub_some _ _ _ (sym c.in-Some.ensures.name) (sym c.in-Some.ensures.rows)) at c.requires) (not-false _ (sym c.ne.ensures ∙ c.if-ne.false))

pub returns-in_err-table-clause-bad_name : goal.returns-in_err-table-clause-bad_name
unfolding HasBadName
returns-in_err-table-clause-bad_name c =
    let n = c.in-Some.ensures in
    let is = not-false _ (sym c.ne.ensures ∙ c.if-ne.false) in
    let p = err_from_is_err_and c.from_residual-in_err-table.result c.from_residual-in_err-table.ensures.1 in
    rw (p.1, p.2, sub_some _ _ _ (sym n.name) (sym n.rows)) (for_name-weaker c.in_err-table.field-0.0 (λ h. (is, h)) c.in_err-table.ensures.bad_name)

pub returns-clause-ok : goal.returns-clause-ok
unfolding Means
returns-clause-ok c =
    let n = c.in-Some.ensures in
    let is = not-false _ (sym c.ne.ensures ∙ c.if-ne.false) in
    rw (sub_some _ _ _ (sym n.name) (sym n.rows)) (c.in_ok-script.ensures, (λ e. c.in_ok-table.ensures.ok), λ e. absurd (both_ways _ e is))
