-- The change of a node depends only on the values of its arguments and their changes, wherever they are stored.
use Rattle.std.{proofs.Common.{◌≡◌, ℕ, List, [], ◌∷◌, map, Bool, ◌&&◌, ◌||◌, not, Option, is_ok, refl, ap, if◌then◌else◌}, specs.Borrow.{Bor}, specs.List.{list_all, list_any}}
use Rattle.arrays_core.{specs.Arrays.{ArrayValue}, specs.Outcomes.{Outcome}}
use Rattle.index_region.{specs.declared.delta.Delta.{Delta}, specs.declared.delta.Delta.TheVariants.{Same, Whole}, specs.Boxes.{Interval}}
use Rattle.change_core.specs.RuleModels.{RuleModel, form_size}
use Rattle.change_rules.{specs.Nodes.{Argument, views, moved, moved_by, marks, is_same, is_whole, is_grown, is_grown_at_most, any_grown, all_same, node_delta, node_cost, grown_in, grown_size, reached_delta, reached_cost}, specs.Evaluation.{evaluation}}
use Rattle.formula_core.specs.Changes.{result_delta, result_cost}

-- arrays with their changes, as arguments
abbrev pub paired : List ArrayValue → List Delta → List Argument
paired (a ∷ arrays) (d ∷ deltas) = (a, record { ref_ptr = (0, 0); now = d }) ∷ paired arrays deltas
paired _ _ = []

-- the arguments are these arrays, with these changes
pub record HaveValues (xs : List Argument) (arrays : List ArrayValue) (ds : List Delta) : Type 0 where
  pub same : all_same xs ≡ list_all is_same ds
  pub whole : list_any (λ a. is_whole a.1.now) xs ≡ list_any is_whole ds
  pub seen : views xs ≡ arrays
  pub grown : any_grown xs ≡ list_any is_grown ds
  pub most : list_all (λ a. is_grown_at_most a.1.now) xs ≡ list_all is_grown_at_most ds
  pub which : marks xs ≡ map is_grown ds
  pub moves : moved xs ≡ map moved_by ds

pub no_values : HaveValues [] [] []
no_values = record { same = refl; whole = refl; seen = refl; grown = refl; most = refl; which = refl; moves = refl }

pub values_more : (a : ArrayValue) (d : Bor Delta) (xs : List Argument) (arrays : List ArrayValue) (ds : List Delta) → HaveValues xs arrays ds → HaveValues ((a, d) ∷ xs) (a ∷ arrays) (d.now ∷ ds)
values_more a d xs arrays ds rest = record {
  same = ap (λ b. is_same d.now && b) rest.same;
  whole = ap (λ b. is_whole d.now || b) rest.whole;
  seen = ap (λ ys. a ∷ ys) rest.seen;
  grown = ap (λ b. is_grown d.now || b) rest.grown;
  most = ap (λ b. is_grown_at_most d.now && b) rest.most;
  which = ap (λ ys. is_grown d.now ∷ ys) rest.which;
  moves = ap (λ ys. moved_by d.now ∷ ys) rest.moves;
}

-- the change depends only on which arguments are new, which grew, and which boxes changed
abbrev delta_from : (p : RuleModel) (same whole : Bool) (seen : List ArrayValue) (grown most : Bool) (which : List Bool) (moves : List (Option (List Interval))) (held : Outcome) → Delta
delta_from p same whole seen grown most which moves held =
    if same then Same
    else if whole || not (is_ok held) then Whole (evaluation p seen)
    else if grown then (if most && p.grows seen which then grown_in (p.form seen) (p.item seen) else Whole (evaluation p seen))
    else reached_delta p seen moves

abbrev cost_from : (p : RuleModel) (same whole : Bool) (seen : List ArrayValue) (grown most : Bool) (which : List Bool) (moves : List (Option (List Interval))) (held : Outcome) → ℕ
cost_from p same whole seen grown most which moves held =
    if same then 0
    else if whole || not (is_ok held) then form_size (p.form seen)
    else if grown then (if most && p.grows seen which then grown_size (p.form seen) else form_size (p.form seen))
    else reached_cost p seen moves

module _ (p : RuleModel) (xs : List Argument) (arrays : List ArrayValue) (ds : List Delta) (held : Outcome) (h : HaveValues xs arrays ds) where
  pub delta_by_values : node_delta p xs held ≡ result_delta p arrays ds held
  delta_by_values = λ i. delta_from p (h.same i) (h.whole i) (h.seen i) (h.grown i) (h.most i) (h.which i) (h.moves i) held

  pub cost_by_values : node_cost p xs held ≡ result_cost p arrays ds held
  cost_by_values = λ i. cost_from p (h.same i) (h.whole i) (h.seen i) (h.grown i) (h.most i) (h.which i) (h.moves i) held
