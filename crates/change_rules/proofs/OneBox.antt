-- A box of the result that may change.
use Rattle.std.{proofs.Common.{◌≡◌, ℕ, ◌*◌, List, [], ◌∷◌, Option, refl, ap, ◌∙◌, sym, subst, arith, true, Result, Ok, IsTrue}, specs.List.{list_all}, specs.Prelude.{◌==◌}, proofs.lemmas.Bool.{and_parts, eqb-true}}
use Rattle.arrays_core.{specs.Arrays.{ArrayValue}, specs.declared.item.Kind.{Kind}, specs.declared.item.ItemType.{ItemType}}
use Rattle.index_region.{specs.Boxes.{Interval, box_size, interval_length, fits}, specs.Checks.{Form, form_of}}
use Rattle.change_core.{specs.declared.reach.Reach.{Reach}, specs.declared.reach.Reach.TheVariants.{Inside}, specs.Reaches.{LiesInResult, reach_of}, specs.RuleModels.{Passes, RuleModel}, proofs.Covers.{reaches_inside}}
use Rattle.change_rules.specs.Nodes.{size_in, reached_cost}

-- a box each of whose intervals has one place
pub single : (region : List Interval) → list_all (λ s. s.0 == s.1) region ≡ true → box_size region ≡ 1
single [] h = refl
single (s ∷ region) h =
    let parts = and_parts _ _ h in
    let same : s.0 ≡ s.1 = eqb-true _ _ parts.0 in
    let rest = single region parts.1 in
    let here : interval_length s ≡ 1 = omega arith in
    λ i. here i * rest i

-- a box that fits the form of the checks fits its shape
pub fits_shape : (r : Result Form Kind) (region : List Interval) (shape : List ℕ) (t : ItemType) → ((f : Form) × (r ≡ Ok f) × IsTrue (fits region f.shape)) → r ≡ Ok (form_of shape t) → IsTrue (fits region shape)
fits_shape r region shape t checked e =
    let given : Ok checked.0 ≡ Ok (form_of shape t) = sym checked.1 ∙ e in
    let same : checked.0 ≡ form_of shape t = cc in
    subst (λ (f : Form). IsTrue (fits region f.shape)) same checked.2

-- a box of the result may change, where the checks pass
module _ (p : RuleModel) (seen : List ArrayValue) (boxes : List (Option (List Interval))) (region : List Interval) (passes : Passes (p.form seen)) (inside : Inside region ≡ reach_of p seen boxes) where
  -- the box lies in the result
  pub box_checked : (f : Form) × (p.form seen ≡ Ok f) × IsTrue (fits region f.shape)
  box_checked = (passes.0, passes.1, subst (λ (r : Reach). LiesInResult (Ok passes.0) r) (sym inside) (subst (λ (x : Result Form Kind). LiesInResult x (reach_of p seen boxes)) passes.1 (reaches_inside p seen boxes)))

  pub box_cost : reached_cost p seen boxes ≡ box_size region
  box_cost = ap (λ (x : Result Form Kind). size_in x (reach_of p seen boxes)) passes.1 ∙ ap (size_in (Ok passes.0)) (sym inside)
