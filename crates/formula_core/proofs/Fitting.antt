-- A change that fits the old value fits the new one.
use Rattle.std.{proofs.Common.{◌≡◌, ◌∙◌, ◌<◌, ℕ, List, [], ◌∷◌, length, drop, true, Ok, Err, refl, ap, sym, arith}, proofs.lemmas.Bool.{false≢true}}
use Rattle.arrays_core.{specs.Arrays.{ArrayValue}, specs.Growth.{one_longer}, proofs.Growing.{rank_longer}, specs.Shapes.{size}, specs.Outcomes.{Outcome}}
use Rattle.index_region.{specs.declared.delta.Delta.{Delta}, specs.declared.delta.Delta.TheVariants.{Same, Patch, Grown, Whole}}
use Rattle.{change_rules.{specs.Currency.{applied}, specs.Nodes.{is_grown}}, formula_core.specs.Changes.{FitsIn, FitsNow}}

-- each place of the first axis keeps its size
pub others_longer : (shape : List ℕ) → drop 1 (one_longer shape) ≡ drop 1 shape
others_longer [] = refl
others_longer (n ∷ shape) = refl

pub fit_now : (d : Delta) (o : Outcome) → FitsIn d o → FitsNow d (applied d o)
fit_now Same o h = tt
fit_now (Whole r) o h = tt
fit_now (Patch p) (Ok a) h = record { inside = h.inside; typed = h.typed }
fit_now (Patch p) (Err e) h = h
fit_now (Grown t) (Ok a) h = record {
  some_axis = let same = rank_longer a.shape in let some = h.some_axis in omega (arith, same, some);
  shaped = h.shaped;
  one_place = h.one_place ∙ ap size (sym (others_longer a.shape));
  typed = h.typed;
}
fit_now (Grown t) (Err e) h = h

-- an array that grew has an axis
pub axis_lies : (a : ArrayValue) (d : Delta) → FitsNow d (Ok a) → is_grown d ≡ true → 0 < length a.shape
axis_lies a Same h grown = absurd (false≢true grown)
axis_lies a (Patch p) h grown = absurd (false≢true grown)
axis_lies a (Grown t) h grown = h.some_axis
axis_lies a (Whole r) h grown = absurd (false≢true grown)
