-- An accepted change keeps the names acyclic, and the value of each name that is apart from the changed name.
use Rattle.std.{proofs.Common.{◌≡◌, ◌≢◌, ℕ, List, [], ◌∷◌, Option, Some, None, refl, sym, ap, ◌∙◌, subst}, specs.Option.{option_map_or}}
use Rattle.dep_order.specs.Reachability.{IsAcyclic}
use Rattle.sheet_recalc.{specs.Names.{Names, Binding, Data, Formula, binding, rebound, Refers, referred}, specs.Meaning.{val, shown_beside}, specs.Changes.{SheetChange, Accepts, Define, Store, Put, SetCell, AddRow, Erase}, specs.Costs.{changed_name}, specs.Locality.{IsApartFrom, StaysWhereUnreached}}
use Rattle.sheet_recalc.{proofs.Binding.{rebound_same}, proofs.Cycles.{no_cycle_anew}, proofs.Scratch.{shown_same}, proofs.Solution.{by_references, acyclic_settled}}

-- the references of a name apart are apart
pub refers_apart : (names : Names) (name q x : List ℕ) → IsApartFrom names name q → Refers names q x → IsApartFrom names name x
refers_apart names name q x apart r = ((λ e. apart.1 ([], subst (λ y. Refers names q y) e r)), (λ w. apart.1 (x ∷ w.0, (r, w.1))))

-- the change rebinds or removes the changed name, and makes no cycle
record IsMade (old : Names) (change : SheetChange) (new : Names) : Type 0 where
  pub bound : Option Binding
  pub names : new ≡ rebound old (changed_name change) bound
  pub acyclic : IsAcyclic (Refers new)

-- no name stands in the binding
plain_made : (old : Names) (change : SheetChange) (new : Names) (b : Option Binding) → IsAcyclic (Refers old) → option_map_or referred b [] ≡ [] → new ≡ rebound old (changed_name change) b → IsMade old change new
plain_made old change new b acyclic none is = record {
  bound = b;
  names = is;
  acyclic = subst (λ (ns : Names). IsAcyclic (Refers ns)) (sym is) (no_cycle_anew old (changed_name change) b none acyclic);
}

made : (old : Names) (change : SheetChange) (new : Names) → IsAcyclic (Refers old) → Accepts old change new → IsMade old change new
made old (Define n t) new acyclic accepts = record { bound = Some (Formula t); names = accepts.0; acyclic = accepts.1 }
made old (Store n t) new acyclic (a, gives, is, room) = plain_made old (Store n t) new (Some (Data a)) acyclic refl is
made old (Put n a) new acyclic (is, room) = plain_made old (Put n a) new (Some (Data a)) acyclic refl is
made old (SetCell n positions literal) new acyclic (a, gives, is) = plain_made old (SetCell n positions literal) new (Some (Data a)) acyclic refl is
made old (AddRow n literal) new acyclic (a, gives, is) = plain_made old (AddRow n literal) new (Some (Data a)) acyclic refl is
made old (Erase n) new acyclic (there, is) = plain_made old (Erase n) new None acyclic refl is

pub stays_unreached : StaysWhereUnreached
stays_unreached old new change sheet accepts =
    by_references old sheet.acyclic (λ q. IsApartFrom old name q → val new q ≡ val old q)
    (λ q rest apart.
    acyclic_settled new change_made.acyclic q
    ∙ (ap (λ b. shown_beside q b (val new)) (same q apart.0)
    ∙ (shown_same q (binding old q) (val new) (val old) (λ t x is stands. rest x (t, is, stands) (refers_apart old name q x apart (t, is, stands)))
    ∙ sym (acyclic_settled old sheet.acyclic q))))
  where
    name : List ℕ
    name = changed_name change

    change_made : IsMade old change new
    change_made = made old change new sheet.acyclic accepts

    same : (q : List ℕ) → q ≢ name → binding new q ≡ binding old q
    same q other = ap (λ (ns : Names). binding ns q) change_made.names ∙ rebound_same old name change_made.bound q other
