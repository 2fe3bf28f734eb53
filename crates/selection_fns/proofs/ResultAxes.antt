-- Positions and their axes of the result.
use Rattle.std.{proofs.Common.{◌≡◌, ℕ, zero, suc, ◌+◌, ◌<◌, ◌≤◌, Bool, true, false, nat_eq, ◌&&◌, not, List, [], ◌∷◌, ◌++◌, length, take, drop, get_or, pos, unsigned_abs, Option, Some, None, refl, ap, sym, ◌∙◌, subst, arith, length-append}, specs.List.{list_all}}
use Rattle.std.{proofs.lemmas.Bool.{and_parts, eqb-true, cond-true, cond-false}, proofs.lemmas.Bool.Decides.{nat_tests}, proofs.lemmas.List.{get_or-map, length-drop, length-map, length-take-le}}
use Rattle.arrays_core.{specs.Arrays.{ArrayValue, item_of}, specs.Items.{fill}, specs.Shapes.{size, index_after}, proofs.Order.{places_before-index_after}}
use Rattle.index_region.{specs.Arguments.{is_scalar, number_of, numbers}, specs.Boxes.{Interval, cover, cover_between, join_boxes, whole_of}, specs.Checks.{form_of}, proofs.Boxes.{fits_length, length-index_after}, proofs.Passing.{gives}}
use Rattle.change_core.specs.RuleModels.{FitsAt, HasShape, box_at}
use Rattle.selection_fns.{specs.Index.{Position, count_written, written_positions, of_array_and_positions, index_form, indexed_shape, are_numbers, are_on, least_box, place_named, point, position_uses, unselected}, proofs.Indexed.{positions_long}, specs.Laws.LeastBoxes.{length-point}}
use Rattle.selection_fns.{specs.PositionAxes.{axes_before, count_axes}, proofs.Copied.{has_form, limited_within}}

pub none_selected : (written : List Bool) (which : ℕ) → get_or (false ∷ unselected written) which false ≡ false
none_selected written zero = refl
none_selected [] (suc which) = refl
none_selected (true ∷ written) (suc which) = none_selected written which
none_selected (false ∷ written) (suc which) = none_selected written (suc which)

-- the place that an index names, by its position in the ravel
pub named_at : (p : ArrayValue) (k : ℕ) → k < size p.shape → length p.items ≡ size p.shape → place_named (item_of p (index_after p.shape k)) ≡ unsigned_abs (get_or (numbers p) k (pos 0))
named_at p k below long =
    ap (λ (m : ℕ). place_named (get_or p.items m (fill p.item_type))) (places_before-index_after p.shape k below)
    ∙ sym (ap unsigned_abs (get_or-map number_of p.items k (fill p.item_type) (pos 0) (omega arith)))

between_same : (axes index : List ℕ) → length index ≡ length axes → cover_between axes index index ≡ point index
between_same [] [] h = refl
between_same [] (i ∷ index) h = absurd (omega arith)
between_same (n ∷ axes) [] h = absurd (omega arith)
between_same (n ∷ axes) (i ∷ index) h =
    ap (λ (r : List Interval). (i, i) ∷ r) (cond-true _ _ _ (same i) ∙ between_same axes index (omega arith))
  where
    same : (i : ℕ) → nat_eq i i ≡ true
    same i = grind (arith, nat_tests)

-- the box from a place to itself
pub cover_one : (shape : List ℕ) (k : ℕ) → cover shape k k ≡ point (index_after shape k)
cover_one shape k = between_same shape (index_after shape k) (length-index_after shape k)

-- one more place of a shape, which passes the test or does not
pub one_more_hit : (shape : List ℕ) (test : List ℕ → Bool) (k : ℕ) (found next : Option (List Interval)) (place : List Interval) → found ≡ least_box shape test k → test (index_after shape k) ≡ true
    → place ≡ cover shape k k → next ≡ join_boxes (Some place) found → next ≡ least_box shape test (k + 1)
one_more_hit shape test k found next place so_far hit is joined =
    let more : k + 1 ≡ suc k = omega arith in
    joined ∙ (λ i. join_boxes (Some ((is ∙ cover_one shape k) i)) (so_far i)) ∙ sym (cond-true _ _ _ hit) ∙ ap (least_box shape test) (sym more)

pub one_more_miss : (shape : List ℕ) (test : List ℕ → Bool) (k : ℕ) (found : Option (List Interval)) → found ≡ least_box shape test k → test (index_after shape k) ≡ false → found ≡ least_box shape test (k + 1)
one_more_miss shape test k found so_far miss =
    let more : k + 1 ≡ suc k = omega arith in
    so_far ∙ sym (cond-false _ _ _ miss) ∙ ap (least_box shape test) (sym more)

pub length-cover_one : (shape : List ℕ) (k : ℕ) → length (cover shape k k) ≡ length shape
length-cover_one shape k = ap length (cover_one shape k) ∙ length-point (index_after shape k) ∙ length-index_after shape k

count_shape : (axes : List ℕ) (positions : List Position) → length positions ≡ length axes → count_axes positions ≡ length (indexed_shape axes positions)
count_shape [] [] h = refl
count_shape [] (position ∷ positions) h = absurd (omega arith)
count_shape (n ∷ axes) [] h = absurd (omega arith)
count_shape (n ∷ axes) (None ∷ positions) h = let k = count_shape axes positions (omega arith) in omega (arith, k)
count_shape (n ∷ axes) (Some p ∷ positions) h = omega (arith, count_shape axes positions (omega arith), length-append p.shape (indexed_shape axes positions))

-- the axes of the result, by the checks
pub record HasAxes (written : List Bool) (args : List ArrayValue) (shape : List ℕ) : Type 0 where
  pub long : length (drop 1 args) ≡ count_written written
  pub axes : count_axes (written_positions written (drop 1 args)) ≡ length shape
  pub few : length shape ≤ 4
  pub one_an_axis : (region : List Interval) → FitsAt args 0 region → length region ≡ length written

pub has_axes : (written : List Bool) (args : List ArrayValue) (shape : List ℕ) → length args ≡ suc (count_written written) → HasShape (of_array_and_positions written index_form args) shape → HasAxes written args shape
has_axes written [] shape n h = absurd (omega arith)
has_axes written (a ∷ args) shape n h =
    let positions = written_positions written args in
    let form = has_form (index_form a positions) shape h in
    let asked = form_of shape form.item_type in
    let ranks = gives (not (is_scalar a) && nat_eq (length positions) (length a.shape)) _ _ asked form.is in
    let on = gives (are_on a.shape positions) _ _ asked (gives (list_all are_numbers positions) _ _ asked ranks.is).is in
    let limits = limited_within (indexed_shape a.shape positions) a.item_type asked on.is in
    let same : length positions ≡ length a.shape = eqb-true _ _ (and_parts _ _ ranks.test).1 in
    record {
      long = omega arith;
      axes = count_shape a.shape positions same ∙ ap length (sym limits.is);
      few = subst (λ (s : List ℕ). length s ≤ 4) (sym limits.is) limits.rank;
      one_an_axis = λ region fit. let k = fits_length region a.shape fit in omega (arith, k, positions_long written args (omega arith), same);
    }

-- the axes of a written position lie within those of the result
pub axes_within : (written : List Bool) (args : List ArrayValue) (which : ℕ) (p : ArrayValue) → length args ≡ count_written written → which < length args → p ≡ get_or args which p
    → axes_before (written_positions written args) which + length p.shape ≤ count_axes (written_positions written args)
axes_within [] args which p n l e = absurd (omega arith)
axes_within (false ∷ written) args which p n l e = let k = axes_within written args which p n l e in omega (arith, k)
axes_within (true ∷ written) [] which p n l e = absurd (omega arith)
axes_within (true ∷ written) (a ∷ args) zero p n l e = let same : length p.shape ≡ length a.shape = ap (λ (x : ArrayValue). length x.shape) e in omega (arith, same)
axes_within (true ∷ written) (a ∷ args) (suc which) p n l e = let k = axes_within written args which p (omega arith) (omega arith) e in omega (arith, k)

-- the box of a written position by the number of axes before it
pub position_at : (written : List Bool) (args : List ArrayValue) (which : ℕ) (p : ArrayValue) (shape : List ℕ) (before : ℕ) (region : List Interval) → length args ≡ count_written written → which < length args → p ≡ get_or args which p
    → box_at (position_uses shape before (written_positions written args)) which region
    ≡ Some (whole_of (take (before + axes_before (written_positions written args) which) shape) ++ (region ++ whole_of (drop (before + axes_before (written_positions written args) which + length p.shape) shape)))
position_at [] args which p shape before region n l e = absurd (omega arith)
position_at (false ∷ written) args which p shape before region n l e =
    position_at written args which p shape (before + 1) region n l e
    ∙ ap (λ (k : ℕ). Some (whole_of (take k shape) ++ (region ++ whole_of (drop (k + length p.shape) shape)))) (omega arith)
position_at (true ∷ written) [] which p shape before region n l e = absurd (omega arith)
position_at (true ∷ written) (a ∷ args) zero p shape before region n l e =
    ap (λ (x : ArrayValue). Some (whole_of (take before shape) ++ (region ++ whole_of (drop (before + length x.shape) shape)))) (sym e)
    ∙ ap (λ (k : ℕ). Some (whole_of (take k shape) ++ (region ++ whole_of (drop (k + length p.shape) shape)))) (omega arith)
position_at (true ∷ written) (a ∷ args) (suc which) p shape before region n l e =
    position_at written args which p shape (before + length a.shape) region (omega arith) (omega arith) e
    ∙ ap (λ (k : ℕ). Some (whole_of (take k shape) ++ (region ++ whole_of (drop (k + length p.shape) shape)))) (omega arith)

pub fits_at_length : (args : List ArrayValue) (which : ℕ) (p : ArrayValue) (region : List Interval) → which < length args → p ≡ get_or args which p → FitsAt args which region → length region ≡ length p.shape
fits_at_length [] which p region l e h = absurd (omega arith)
fits_at_length (a ∷ args) zero p region l e h = fits_length region a.shape h ∙ ap (λ (x : ArrayValue). length x.shape) (sym e)
fits_at_length (a ∷ args) (suc which) p region l e h = fits_at_length args which p region (omega arith) e h

-- the length of a box of whole axes, a box, and whole axes
pub record ArePartsLong (shape : List ℕ) (region : List Interval) (before rank : ℕ) : Type 0 where
  pub first : length (whole_of (take before shape)) ≡ before
  pub front : length (whole_of (take before shape) ++ region) ≡ before + rank
  pub rest : before + rank + length (drop (before + rank) shape) ≡ length shape

pub parts_long : (shape : List ℕ) (region : List Interval) (before rank : ℕ) → before + rank ≤ length shape → length region ≡ rank → ArePartsLong shape region before rank
parts_long shape region before rank within long =
    let first : length (whole_of (take before shape)) ≡ before = length-map (take before shape) (λ n. (1, n)) ∙ (length-take-le before shape (omega arith)) in
    record { first = first; front = omega (arith, length-append (whole_of (take before shape)) region, first, long); rest = omega (arith, length-drop (before + rank) shape) }
