use Rattle.std.{proofs.Common.{◌≡◌, ◌∙◌, List, Some, None, ap, sym, ⊎_elim, subst}, specs.List.{Contains}, specs.Map.{keys_of, lookup}}
use Rattle.dep_order.proofs.Following.{contains_none}
use Rattle.dep_order.proofs.users.affected.Goals as goal

pub returns-clause-sound : goal.returns-clause-sound
returns-clause-sound g c = λ a h. ⊎_elim (λ l. absurd (contains_none a (subst (λ (es : List (_ × _)). Contains (keys_of es) a) c.truncate.ensures.entries l))) (λ r. r) (c.in_ok-climb.ensures.sound a h)

pub returns-clause-none : goal.returns-clause-none
returns-clause-none g c = c.in_ok-climb.ensures.none
    (λ a v is. let never : None ≡ Some v = sym (ap (lookup (g.N.PartialEq.eq a)) c.truncate.ensures.entries) ∙ is in absurd cc)
