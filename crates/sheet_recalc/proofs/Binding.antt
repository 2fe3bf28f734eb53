-- The bindings of names after one is rebound or removed.
use Rattle.std.{proofs.Common.{◌≡◌, ◌≢◌, ℕ, Bool, true, false, List, Option, Some, None, refl, sym, ◌∙◌}, specs.Str.{bytes_eq}}
use Rattle.sheet_recalc.{specs.Names.{Names, Binding, binding, put, without, rebound}, proofs.NameEquality.{equal-true, equal-same}, proofs.Putting.{lookup_put}, proofs.Removing.{lookup_others}}

-- the binding of a name, after one is rebound
pub bound_same : (old : Names) (name : List ℕ) (b : Binding) (q : List ℕ) → q ≢ name → binding (put old name b) q ≡ binding old q
bound_same old name b q apart = by (bytes_eq name q) refl
  where
    by : (t : Bool) → bytes_eq name q ≡ t → binding (put old name b) q ≡ binding old q
    by true e = absurd (apart (sym (equal-true name q e)))
    by false e = lookup_put name b old q ∙ rw e refl

pub bound_own : (old : Names) (name : List ℕ) (b : Binding) → binding (put old name b) name ≡ Some b
bound_own old name b = lookup_put name b old name ∙ rw (equal-same name name refl) refl

pub rebound_same : (old : Names) (name : List ℕ) (b : Option Binding) (q : List ℕ) → q ≢ name → binding (rebound old name b) q ≡ binding old q
rebound_same old name (Some b) q apart = bound_same old name b q apart
rebound_same old name None q apart = by (bytes_eq name q) refl
  where
    by : (t : Bool) → bytes_eq name q ≡ t → binding (without old name) q ≡ binding old q
    by true e = absurd (apart (sym (equal-true name q e)))
    by false e = lookup_others name old q ∙ rw e refl

pub rebound_own : (old : Names) (name : List ℕ) (b : Option Binding) → binding (rebound old name b) name ≡ b
rebound_own old name (Some b) = bound_own old name b
rebound_own old name None = lookup_others name old name ∙ rw (equal-same name name refl) refl
