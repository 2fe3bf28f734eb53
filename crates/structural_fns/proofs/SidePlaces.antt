-- The place in a side that an item of a catenation is copied from lies in that side.
use Rattle.std.{proofs.Common.{◌≡◌, ℕ, zero, suc, ◌+◌, ◌<◌, ◌≤◌, Bool, true, false, ◌||◌, if◌then◌else◌, nat_eq, List, [], ◌∷◌, length, get_or, set, insert, remove, bytes_eq, refl, ap, sym, subst, ◌∙◌, arith}, proofs.lemmas.Bool.{and_parts, and_from, eqb-true, false≢true}, proofs.lemmas.List.Edits.{length-insert}}
use Rattle.std.proofs.lemmas.Slice.Eq.{bytes_eq-Decides}
use Rattle.arrays_core.{specs.Arrays.{ArrayValue}, specs.Shapes.{is_index_of}, proofs.Shapes.{as_long, head_of}}
use Rattle.function_names.{specs.declared.along.Along.{Along}, specs.Axes.{is_axis, axis_at}}
use Rattle.index_region.{specs.Arguments.{is_scalar}, specs.Answers.{IsPlaceOf}, proofs.Passing.{passed, place_inside}, proofs.OnAxes.{OnAxis, scalar_inside, one_more_inside}}
use Rattle.structural_fns.{specs.Catenate.{joined_rank, joined_places, other_axes, ranks_join, axes_agree, types_join, joined_type, joined_shape, in_side, catenate_form}, specs.Laws.SharedAxes.{shared_long}}

-- an index list of a shape with one more axis
record IsOfMore (others : List ℕ) (n : ℕ) (index : List ℕ) (k : ℕ) : Type 0 where
  on : OnAxis n (get_or index k 0)
  rest : is_index_of others (remove index k) ≡ true
  there : k < length index

of_more : (others : List ℕ) (n : ℕ) (index : List ℕ) (k : ℕ) → k ≤ length others → is_index_of (insert others k n) index ≡ true → IsOfMore others n index k
of_more others n [] zero h inside = absurd (false≢true inside)
of_more others n (i ∷ index) zero h inside =
    let head = head_of n i others index inside in
    record { on = record { low = head.low; high = head.high }; rest = head.rest; there = omega arith }
of_more [] n index (suc k) h inside = absurd (omega arith)
of_more (m ∷ others) n [] (suc k) h inside = absurd (false≢true inside)
of_more (m ∷ others) n (i ∷ index) (suc k) h inside =
    let parts = and_parts _ _ inside in
    let rest = of_more others n index k (omega arith) parts.1 in
    record { on = rest.on; rest = and_from _ _ parts.0 rest.rest; there = omega (arith, rest.there) }

-- replacing the index on one axis, with all indices on their axes
put_inside : (shape index : List ℕ) (k i : ℕ) → k < length shape → k < length index → is_index_of (remove shape k) (remove index k) ≡ true → OnAxis (get_or shape k 0) i
    → is_index_of shape (set index k i) ≡ true
put_inside [] index k i s l h on = absurd (omega arith)
put_inside (n ∷ shape) [] k i s l h on = absurd (omega arith)
put_inside (n ∷ shape) (j ∷ index) zero i s l h on = one_more_inside n i shape index on h
put_inside (n ∷ shape) (j ∷ index) (suc k) i s l h on =
    let parts = and_parts _ _ h in
    and_from _ _ parts.0 (put_inside shape index k i (omega arith) (omega arith) parts.1 on)

-- an index list of a side lies in it if its indices on the other axes do
in_side_inside : (rank axis : ℕ) (s : ArrayValue) (index : List ℕ) (i : ℕ) → axis < rank → axis < length index
    → (is_scalar s ≡ false → is_index_of (other_axes rank axis s) (remove index axis) ≡ true) → OnAxis (joined_places rank axis s) i
    → is_index_of s.shape (in_side rank axis s index i) ≡ true
in_side_inside rank axis s index i below there others on = decide (is_scalar s) refl
  where
    by_rank : (same : Bool) → nat_eq (length s.shape) rank ≡ same → is_index_of (if same then remove s.shape axis else s.shape) (remove index axis) ≡ true
        → OnAxis (if same then get_or s.shape axis 0 else 1) i → is_index_of s.shape (if same then set index axis i else remove index axis) ≡ true
    by_rank true e h on = let long = eqb-true (length s.shape) rank e in put_inside s.shape index axis i (omega arith) there h on
    by_rank false e h on = h

    decide : (scalar : Bool) → is_scalar s ≡ scalar
        → is_index_of s.shape (if scalar then [] else (if nat_eq (length s.shape) rank then set index axis i else remove index axis)) ≡ true
    decide true e = scalar_inside s.shape (eqb-true (length s.shape) 0 e)
    decide false e = by_rank (nat_eq (length s.shape) rank) refl (others e) on

-- the facts about an index list of a catenation
pub record JoinFacts (rank axis : ℕ) (a b : ArrayValue) (index : List ℕ) : Type 0 where
  pub long : length index ≡ rank
  pub on : OnAxis (joined_places rank axis a + joined_places rank axis b) (get_or index axis 0)
  pub left : (i : ℕ) → OnAxis (joined_places rank axis a) i → is_index_of a.shape (in_side rank axis a index i) ≡ true
  pub right : (i : ℕ) → OnAxis (joined_places rank axis b) i → is_index_of b.shape (in_side rank axis b index i) ≡ true

-- the right side has the other axes of the result, unless it is a scalar
right_axes : (rank axis : ℕ) (a b : ArrayValue) (scalar : Bool) → is_scalar a ≡ scalar → is_scalar b ≡ false → axes_agree rank axis a b ≡ true
    → other_axes rank axis (if scalar then b else a) ≡ other_axes rank axis b
right_axes rank axis a b true e f h = refl
right_axes rank axis a b false e f h =
    let neither : (is_scalar a || is_scalar b) ≡ false = ap (λ w. w || is_scalar b) e ∙ f in
    let equal : bytes_eq (other_axes rank axis a) (other_axes rank axis b) ≡ true = sym (ap (λ w. w || bytes_eq (other_axes rank axis a) (other_axes rank axis b)) neither) ∙ h in
    (bytes_eq-Decides (other_axes rank axis a) (other_axes rank axis b)).0 equal

pub join_facts : (along : Along) (a b : ArrayValue) (index : List ℕ) → axis_at (joined_rank a b) along < joined_rank a b
    → IsPlaceOf (catenate_form along a b) index → JoinFacts (joined_rank a b) (axis_at (joined_rank a b) along) a b index
join_facts along a b index below h =
    let rank = joined_rank a b in
    let axis = axis_at rank along in
    let ranks = passed (ranks_join a b) _ _ index (passed (is_axis rank along) _ _ index h).place in
    let axes = passed (axes_agree rank axis a b) _ _ index ranks.place in
    let inside = place_inside (joined_shape rank axis a b) (joined_type a b) index (passed (types_join a b) _ _ index axes.place).place in
    let others = other_axes rank axis (if is_scalar a then b else a) in
    let shared = shared_long a b axis below ranks.test in
    let more = of_more others (joined_places rank axis a + joined_places rank axis b) index axis (omega arith) inside in
    record {
      long = as_long (joined_shape rank axis a b) index inside ∙ length-insert others axis (joined_places rank axis a + joined_places rank axis b) (omega arith) ∙ shared;
      on = more.on;
      left = λ i on. in_side_inside rank axis a index i below more.there
          (λ f. subst (λ w. is_index_of (other_axes rank axis (if w then b else a)) (remove index axis) ≡ true) f more.rest) on;
      right = λ i on. in_side_inside rank axis b index i below more.there
          (λ f. subst (λ shape. is_index_of shape (remove index axis) ≡ true) (right_axes rank axis a b (is_scalar a) refl f axes.test) more.rest) on;
    }
