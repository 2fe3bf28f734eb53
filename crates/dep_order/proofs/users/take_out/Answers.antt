use Rattle.std.{proofs.Common.{rules}, proofs.lemmas.Fn.{filter_same}}
use Rattle.dep_order.proofs.users.take_out.Goals as goal

pub returns-clause-nodes : goal.returns-clause-nodes
returns-clause-nodes g c = filter_same _ _ _ (λ x b f' k. search rules) _ _ c.retain.ensures.filtered
