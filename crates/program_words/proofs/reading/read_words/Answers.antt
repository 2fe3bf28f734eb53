use Rattle.std.{proofs.Common.{◌≡◌, ◌∙◌, ap, subst, sym, true}, proofs.lemmas.Result.{IfErr-weaker, IfOk-weaker, err_from_is_err_and}}
use Rattle.clap.{specs.Words.{App, HasKind, app_of, fault_of, subcommand_rows_of, takes}, specs.Walk.{texts}}
use Rattle.program_words.{specs.Asked.{IsRefusalOf, Means}, specs.Matched.{IsWholeTable}, specs.Program.{aplsheet}, proofs.Exact.{accepted, is_free}, proofs.Refusals.{refused_by_clap, refused_for_name, taken_for_name, taken_without_memory}, proofs.Required.{words_whole}}
use Rattle.program_words.proofs.reading.read_words.Goals as goal

pub returns-in_err-command : goal.returns-in_err-command
unfolding IsRefusalOf
returns-in_err-command c =
    let p = err_from_is_err_and c.from_residual.result c.from_residual.ensures.1 in
    record { ok = rw p.1 tt; faultless = rw p.1 tt; refused = rw (p.1, p.2) tt; taken = λ _. rw (p.1, p.2) tt }

pub words_of-requires : goal.words_of-requires
words_of-requires c =
    let words = texts c.args.words.now in
    let p = accepted (app_of c.in_ok-command.command) c.in-Ok.matches words c.in_ok-command.ensures c.in-Ok.ensures.matches c.in-Ok.ensures.kinds in
    subst IsWholeTable (sym p.0) (words_whole words p.1)

pub returns-in-Ok : goal.returns-in-Ok
returns-in-Ok c =
    let words = texts c.args.words.now in
    let p = accepted (app_of c.in_ok-command.command) c.in-Ok.matches words c.in_ok-command.ensures c.in-Ok.ensures.matches c.in-Ok.ensures.kinds in
    record {
      ok = IfOk-weaker c.words_of.result _ _ (λ w h. subst (λ asked. Means asked w) p.0 h) c.words_of.ensures.ok;
      faultless = IfOk-weaker c.words_of.result _ _ (λ w h. p.1) c.words_of.ensures.ok;
      refused = IfErr-weaker c.words_of.result _ _ (λ f h. refused_for_name words (subcommand_rows_of c.in-Ok.matches) f p.0 p.1 h) c.words_of.ensures.bad_name;
      taken = λ _. IfErr-weaker c.words_of.result _ _ (λ f h. taken_for_name _ f h) c.words_of.ensures.bad_name;
    }

pub returns-in-Err : goal.returns-in-Err
returns-in-Err c =
    let words = texts c.args.words.now in
    let is = c.in_ok-command.ensures in
    let kinds = subst (λ a. HasKind (fault_of a words) c.in-Err.error) is (c.in-Err.ensures.kinds (is_free _ is)) in
    let takes_too = λ (t : takes aplsheet words ≡ true). ap (λ (a : App). takes a words) is ∙ t in
    record {
      ok = tt;
      faultless = tt;
      refused = refused_by_clap words c.in-Err.error c.refusal.result kinds c.refusal.ensures;
      taken = λ t. taken_without_memory c.in-Err.error c.refusal.result (c.in-Err.ensures.passes (takes_too t)) c.refusal.ensures;
    }
