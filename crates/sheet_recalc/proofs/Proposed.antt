-- The bindings of names after one is rebound or removed, by the entries.
use Rattle.std.{proofs.Common.{◌≡◌, ℕ, false, true, List, Option, sym, ap, ◌∙◌}, specs.Str.{bytes_eq}, specs.Map.{lookup}, specs.Option.{option_map}, proofs.lemmas.Bool.{false≢true}}
use Rattle.sheet_recalc.{specs.Names.{Binding, binding, rebound}, specs.Entries.{names_of, binding_of}, specs.declared.entry.Entry.{Entry}, proofs.NameEquality.{equal-true, equal-same}, proofs.Binding.{rebound_same, rebound_own}, proofs.Live.{binding_of_name}}

module _ (es : List (List ℕ × Entry)) (name : List ℕ) (b : Option Binding) where
  pub bound_own : (q : List ℕ) → bytes_eq q name ≡ true → binding (rebound (names_of es) name b) q ≡ b
  bound_own q same = ap (λ z. binding (rebound (names_of es) name b) z) (equal-true q name same) ∙ rebound_own (names_of es) name b

  pub bound_other : (q : List ℕ) (o : Option Entry) → bytes_eq q name ≡ false → o ≡ lookup (bytes_eq q) es → binding (rebound (names_of es) name b) q ≡ option_map binding_of o
  bound_other q o other is =
      rebound_same (names_of es) name b q (λ e. false≢true (sym other ∙ equal-same q name e)) ∙ (binding_of_name es q ∙ ap (option_map binding_of) (sym is))
