use Rattle.std.{proofs.Common.{◌∙◌, inl, inr, sym}, specs.Map.{keys_of}, proofs.lemmas.Bool.{cases_Bool, false≢true}, proofs.lemmas.Map.Views.{Contains-from_any, list_any-from_Contains}}
use Rattle.dep_order.proofs.Found.{key_found}
use Rattle.dep_order.proofs.users.is_found.Goals as goal

pub returns-in_default : goal.returns-in_default
returns-in_default g c =
    let keys = keys_of c.args.found.now.entries in
    let same = c.contains_key.ensures ∙ key_found g.N.PartialEq.eq c.args.found.now.entries c.args.node.now in
    elim (cases_Bool c.contains_key.result) [
      | inl found ↦ rw found (Contains-from_any c.requires c.args.node.now keys (sym same ∙ found))
      | inr other ↦ rw other (λ h. false≢true (sym other ∙ (same ∙ list_any-from_Contains g.met.N.Eq.laws c.args.node.now keys h)))
    ]
