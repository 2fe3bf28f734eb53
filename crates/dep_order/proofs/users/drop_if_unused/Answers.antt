use Rattle.std.{proofs.Common.{◌∙◌, List, sym, ap, subst}, specs.Prelude.{◌==◌}, specs.List.{Contains}, proofs.lemmas.Bool.{false≢true}}
use Rattle.dep_order.proofs.Noting.{some_of, used_kept}
use Rattle.dep_order.proofs.users.drop_if_unused.Goals as goal

pub returns-then-not-is_empty-clause-used : goal.returns-then-not-is_empty-clause-used
returns-then-not-is_empty-clause-used g c = λ rest used.
    let es = c.args.users.now.entries in
    let user = some_of c.users_of.result.now (λ none. false≢true (sym c.if-not-is_empty.true ∙ (c.is_empty.ensures ∙ ap (λ n. n == 0) none))) in
    used_kept g.N.PartialEq.eq g.met.N.Eq.laws c.requires es c.args.reference user.0 (subst (λ (ks : List _). Contains ks user.0) c.users_of.ensures user.1) rest used
