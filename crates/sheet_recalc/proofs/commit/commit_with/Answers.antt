use Rattle.{std.proofs.Common.{sym, subst, inr, ⊎_elim}, dep_order.proofs.Following.{contains_none}}
use Rattle.sheet_recalc.{specs.Names.{referred}, specs.Entries.{binding_of}, specs.Pending.{Brings}}
use Rattle.sheet_recalc.proofs.commit.commit_with.Goals as goal

pub commit_brought-requires-clause-brings : goal.commit_brought-requires-clause-brings
commit_brought-requires-clause-brings c =
    subst (Brings (record { entries = c.args.entries.now; users = c.args.users.now }) (referred (binding_of c.args.entry))) (sym c.into_inner.ensures) (rw c.in-Some.is at c.requires.brings)

pub commit-requires-clause-used : goal.commit-requires-clause-used
commit-requires-clause-used c = λ b there. ⊎_elim (λ l. absurd (contains_none b l)) (λ r. inr r) (c.requires.used b there)
