-- Two lines of five numbers, with a tree for each.
use Rattle.std.{proofs.Common.{◌≡◌, ℕ, ◌<◌, true, ℤ, List, [], ◌∷◌, length, refl, sym, ap, subst, arith}, specs.List.{flat_map}}
use Rattle.arrays_core.{specs.Arrays.{ArrayValue, IsArray}, specs.Shapes.{size}}
use Rattle.function_names.{specs.Axes.{is_axis, axis_at}, specs.declared.along.Along.TheVariants.{Last}}
use Rattle.index_region.specs.Patches.{PatchValue, FitsPatch, patched}
use Rattle.sum_rules.{specs.LineSums.{StandFor, length_along, line_length, line_step, array_of_shape}, specs.Totals.{AreAllAsLong, all_trees, StoodFor}}

-- the shape of two lines of five numbers
abbrev pub two_by_five : List ℕ
two_by_five = 2 ∷ 5 ∷ []

module _ (a : ArrayValue) (lines : List (List ℤ)) (a_is : a ≡ array_of_shape two_by_five (flat_map (λ line. line) lines)) (sound : IsArray a) where
  shape_is : a.shape ≡ two_by_five
  shape_is = ap (λ (v : ArrayValue). v.shape) a_is

  -- the array has each property of that shape
  by_shape : (P : List ℕ → Type 0) → P two_by_five → P a.shape
  by_shape P holds = subst P (sym shape_is) holds

  stand : StandFor (all_trees 5 lines) (axis_at (length a.shape) Last) a
  stand = record {
    sound = sound;
    some = by_shape (λ s. 0 < size s) (let some : 0 < 10 = omega arith in some);
    there = by_shape (λ s. axis_at (length s) Last < length s) (let there : 1 < 2 = omega arith in there);
    counted = by_shape (λ s. 5 ≡ line_length (axis_at (length s) Last) s) refl;
    apart = by_shape (λ s. 1 ≡ line_step (axis_at (length s) Last) s) refl;
    is = by_shape (λ s. a ≡ array_of_shape s (flat_map (λ line. line) lines)) a_is;
  }

  stood : (p : PatchValue) → FitsPatch a p → StoodFor Last (all_trees 5 lines) p (patched a p)
  stood p fit = record { before = a; on_axis = by_shape (λ s. is_axis (length s) Last ≡ true) refl; lines = stand; fit = fit; is = refl }

  pub summed_by_lines : (p : PatchValue) → FitsPatch a p → AreAllAsLong 5 lines
      → AreAllAsLong (length_along Last (patched a p).shape) lines × StoodFor Last (all_trees (length_along Last (patched a p).shape) lines) p (patched a p)
  summed_by_lines p fit long =
      by_shape (λ s. AreAllAsLong (length_along Last s) lines × StoodFor Last (all_trees (length_along Last s) lines) p (patched a p)) (long, stood p fit)
