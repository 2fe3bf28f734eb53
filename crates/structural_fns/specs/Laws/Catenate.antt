-- The law of change for catenate.
use Rattle.std.proofs.Common.{◌≡◌, ◌≤◌, ◌<◌, ◌+◌, ◌-◌, ℕ, zero, suc, Bool, true, false, ◌&&◌, nat_eq, nat_le, if◌then◌else◌, List, [], ◌∷◌, length, get_or, set, insert, remove, refl, sym, ap, ◌∙◌, subst, arith, Some}
use Rattle.std.proofs.lemmas.Bool.{and_parts, and_from, leb-true, leb-false, le-leb, false≢true, cond-true, cond-false, false_from_ne_true, eqb-true}
use Rattle.arrays_core.{specs.declared.item.Item.{Item}, specs.declared.item.Kind.TheVariants.{Axis, Rank, Length, Domain}, specs.Arrays.{ArrayValue}, specs.Shapes.{is_index_of}, proofs.Shapes.{as_long, head_at}, proofs.NextIndex.{drop_inside}}
use Rattle.function_names.{specs.declared.along.Along.{Along}, specs.Axes.{is_axis, axis_at}}
use Rattle.index_region.{specs.Arguments.{is_scalar}, specs.Boxes.{Interval, is_within, fits, whole_of}, specs.Checks.{check, limited}, specs.Sources.{Source, Place}}
use Rattle.change_core.{specs.Tightness.{IsTight, Covered, Each}, specs.Reaches.{is_moved}, specs.Sourced.{left_of, right_of, left_used, right_used, other}, proofs.Sourced.{two_sourced-tight}, proofs.UsedWays.{within-whole, within-set, across-covered}}
use Rattle.structural_fns.{specs.Catenate.{joined_rank, joined_places, other_axes, ranks_join, axes_agree, types_join, joined_type, joined_shape, in_side, catenate_form, catenate_source, one_place, side_box, catenate_left_box, catenate_right_box, catenate_rule}, specs.Laws.JoinedAxes.{JoinedFacts, joined_facts}}

-- ---- checks and types depend on the number of items only

types_blind : (c d : ArrayValue) (xs ys : List Item) → length xs ≡ length c.items → length ys ≡ length d.items → types_join (other c xs) (other d ys) ≡ types_join c d
types_blind c d xs ys p q = rw (p, q) refl

type_blind : (c d : ArrayValue) (xs ys : List Item) → length xs ≡ length c.items → length ys ≡ length d.items → joined_type (other c xs) (other d ys) ≡ joined_type c d
type_blind c d xs ys p q = rw (p, q) refl

shape_blind : (rank axis : ℕ) (c d : ArrayValue) (xs ys : List Item) → joined_shape rank axis (other c xs) (other d ys) ≡ joined_shape rank axis c d
shape_blind rank axis c d xs ys = ap (λ (axes : List ℕ). insert axes axis (joined_places rank axis c + joined_places rank axis d)) (decide (is_scalar c))
  where
    decide : (scalar : Bool) → other_axes rank axis (if scalar then other d ys else other c xs) ≡ other_axes rank axis (if scalar then d else c)
    decide true = refl
    decide false = refl

form_blind : (along : Along) (c d : ArrayValue) (xs ys : List Item) → length xs ≡ length c.items → length ys ≡ length d.items → catenate_form along (other c xs) (other d ys) ≡ catenate_form along c d
form_blind along c d xs ys p q =
    let rank = joined_rank c d in
    let axis = axis_at rank along in
    let types = types_blind c d xs ys p q in
    let typed = type_blind c d xs ys p q in
    let shaped = shape_blind rank axis c d xs ys in
    λ i. check (is_axis rank along) Axis (check (ranks_join c d) Rank (check (axes_agree rank axis c d) Length (check (types i) Domain (limited (shaped i) (typed i)))))

-- ---- one side

within-set_whole : (axis : ℕ) (s : Interval) (shape index : List ℕ) → is_index_of shape index ≡ true → s.0 ≤ get_or index axis 0 → get_or index axis 0 ≤ s.1 → is_within (set (whole_of shape) axis s) index ≡ true
within-set_whole axis s [] [] place low high = refl
within-set_whole axis s [] (i ∷ index) place low high = absurd (false≢true place)
within-set_whole axis s (n ∷ shape) [] place low high = absurd (false≢true place)
within-set_whole zero s (n ∷ shape) (i ∷ index) place low high =
    let rest = (and_parts (nat_le 1 i && nat_le i n) (is_index_of shape index) place).1 in
    and_from _ _ (and_from _ _ (le-leb s.0 i low) (le-leb i s.1 high)) (within-whole shape index ∙ rest)
within-set_whole (suc axis) s (n ∷ shape) (i ∷ index) place low high =
    let parts = and_parts (nat_le 1 i && nat_le i n) (is_index_of shape index) place in
    and_from _ _ parts.0 (within-set_whole axis s shape index parts.1 low high)

-- place j of a side, with the places in front added, is the index on the axis; a side that lacks the axis has only place 1
pub record StandsInSide (side : ArrayValue) (rank axis before j : ℕ) (index : List ℕ) : Type 0 where
  pub place : before + j ≡ get_or index axis 0
  pub below : axis < length index
  pub only : nat_eq (length side.shape) rank ≡ false → j ≡ 1
  pub axes : axis < rank

side_covered : (side : ArrayValue) (shape : List ℕ) (axis before j : ℕ) (region : List Interval) (index : List ℕ) → fits region side.shape ≡ true → is_index_of shape index ≡ true
    → StandsInSide side (length shape) axis before j index → is_within region (in_side (length shape) axis side index j) ≡ true → is_moved (side_box shape axis before side region) index ≡ true
side_covered side shape axis before j region index fit place at = decide (is_scalar side) (nat_eq (length side.shape) (length shape)) at.only scalar
  where
    scalar : is_scalar side ≡ true → j ≡ 1
    scalar t =
        let none : length side.shape ≡ 0 = eqb-true (length side.shape) 0 t in
        let axes = at.axes in
        at.only (false_from_ne_true _ (λ full. let same : length side.shape ≡ length shape = eqb-true (length side.shape) (length shape) full in absurd (omega arith)))

    decide : (one full : Bool) → (full ≡ false → j ≡ 1) → (one ≡ true → j ≡ 1) → is_within region (if one then [] else (if full then set index axis j else remove index axis)) ≡ true
        → is_moved (if one then Some (set (whole_of shape) axis (one_place (before + 1))) else (if full then Some (set region axis (before + (get_or region axis (0, 0)).0, before + (get_or region axis (0, 0)).1)) else Some (insert region axis (one_place (before + 1))))) index ≡ true
    decide true full less none h = let single : j ≡ 1 = none refl in let here = at.place in within-set_whole axis (one_place (before + 1)) shape index place (omega arith) (omega arith)
    decide false true less none h =
        let here = at.place in
        within-set 0 axis j (λ s. (before + s.0, before + s.1)) side.shape region index fit (λ l s low first last. (omega arith, omega arith)) h
    decide false false less none h =
        let single : j ≡ 1 = less refl in
        let here = at.place in
        let only : (nat_le (before + 1) (get_or index axis 0) && nat_le (get_or index axis 0) (before + 1)) ≡ true = and_from _ _ (le-leb (before + 1) (get_or index axis 0) (omega arith)) (le-leb (get_or index axis 0) (before + 1) (omega arith)) in
        let each = across-covered side.shape shape axis (one_place (before + 1)) at.axes region index fit place in
        (subst (Each (λ p. is_within region p ≡ true → is_within (insert region axis (one_place (before + 1))) index ≡ true)) (cond-true _ _ _ only) each).0 h

-- ---- both sides

left_where : (P : List ℕ → Type 0) (test : Bool) (p q : List ℕ) → (test ≡ true → P p) → Each P (left_of (if test then Place 0 p else Place 1 q))
left_where P true p q h = (h refl, tt)
left_where P false p q h = tt

right_where : (P : List ℕ → Type 0) (test : Bool) (p q : List ℕ) → (test ≡ false → P q) → Each P (right_of (if test then Place 0 p else Place 1 q))
right_where P true p q h = tt
right_where P false p q h = (h refl, tt)

-- a side that lacks an axis has one place
one_alone : (rank axis : ℕ) (side : ArrayValue) → nat_eq (length side.shape) rank ≡ false → joined_places rank axis side ≡ 1
one_alone rank axis side h = cond-false _ _ _ h

-- the index on an axis lies there
pub record IndexAt (shape index : List ℕ) (axis : ℕ) : Type 0 where
  pub below : axis < length index
  pub low : 1 ≤ get_or index axis 0
  pub high : get_or index axis 0 ≤ get_or shape axis 0

index_on : (shape index : List ℕ) (axis : ℕ) → is_index_of shape index ≡ true → axis < length shape → IndexAt shape index axis
index_on shape index axis place h =
    let long = as_long shape index place in
    let head = head_at shape index axis (omega arith) (omega arith) (drop_inside axis shape index place) in
    record { below = omega arith; low = head.low; high = head.high }

stands_left : (rank axis : ℕ) (a : ArrayValue) (shape index : List ℕ) → axis < rank → IndexAt shape index axis → nat_le (get_or index axis 0) (joined_places rank axis a) ≡ true
    → StandsInSide a rank axis 0 (get_or index axis 0) index
stands_left rank axis a shape index axes on t =
    let few = leb-true (get_or index axis 0) (joined_places rank axis a) t in
    let low = on.low in
    record { place = omega arith; below = on.below; only = λ n. let one = one_alone rank axis a n in omega arith; axes = axes }

stands_right : (rank axis : ℕ) (a b : ArrayValue) (shape index : List ℕ) → axis < rank → IndexAt shape index axis → get_or shape axis 0 ≡ joined_places rank axis a + joined_places rank axis b
    → nat_le (get_or index axis 0) (joined_places rank axis a) ≡ false → StandsInSide b rank axis (joined_places rank axis a) (get_or index axis 0 - joined_places rank axis a) index
stands_right rank axis a b shape index axes on sum t =
    let past = leb-false (get_or index axis 0) (joined_places rank axis a) t in
    let high = on.high in
    record { place = omega arith; below = on.below; only = λ n. let one = one_alone rank axis b n in omega arith; axes = axes }

-- the source, for a result of this rank
abbrev source_in : Along → ArrayValue → ArrayValue → List ℕ → ℕ → Source
source_in along a b index rank =
    let axis = axis_at rank along in
    let i = get_or index axis 0 in
    let m = joined_places rank axis a in
    if nat_le i m then Place 0 (in_side rank axis a index i) else Place 1 (in_side rank axis b index (i - m))

left_covered : (along : Along) (a b : ArrayValue) (shape : List ℕ) → JoinedFacts along a b shape → Covered a.shape shape (left_used (catenate_source along a b) (catenate_left_box along shape a b))
left_covered along a b shape facts region index fit place =
    let rank = length shape in
    let axis = axis_at rank along in
    let i = get_or index axis 0 in
    let m = joined_places rank axis a in
    let moves = λ (p : List ℕ). is_within region p ≡ true → is_moved (catenate_left_box along shape a b region) index ≡ true in
    let on = index_on shape index axis place facts.below in
    subst (λ (n : ℕ). Each moves (left_of (source_in along a b index n))) (sym facts.rank)
    (left_where moves (nat_le i m) (in_side rank axis a index i) (in_side rank axis b index (i - m)) (λ t. side_covered a shape axis 0 i region index fit place (stands_left rank axis a shape index facts.below on t)))

right_covered : (along : Along) (a b : ArrayValue) (shape : List ℕ) → JoinedFacts along a b shape → Covered b.shape shape (right_used (catenate_source along a b) (catenate_right_box along shape a b))
right_covered along a b shape facts region index fit place =
    let rank = length shape in
    let axis = axis_at rank along in
    let i = get_or index axis 0 in
    let m = joined_places rank axis a in
    let moves = λ (p : List ℕ). is_within region p ≡ true → is_moved (catenate_right_box along shape a b region) index ≡ true in
    let on = index_on shape index axis place facts.below in
    subst (λ (n : ℕ). Each moves (right_of (source_in along a b index n))) (sym facts.rank)
    (right_where moves (nat_le i m) (in_side rank axis a index i) (in_side rank axis b index (i - m))
    (λ t. side_covered b shape axis m (i - m) region index fit place (stands_right rank axis a b shape index facts.below on facts.places t)))

pub catenate_tight : (along : Along) → IsTight (catenate_rule along)
catenate_tight along = two_sourced-tight false (catenate_form along) joined_type (catenate_source along) (catenate_left_box along) (catenate_right_box along)
    (λ c d xs ys p q. form_blind along c d xs ys p.count q)
    (λ c d xs ys p q. type_blind c d xs ys p.count q)
    (λ c d xs ys index p q. refl)
    (λ a b f e. left_covered along a b f.shape (joined_facts along a b f e))
    (λ a b f e. right_covered along a b f.shape (joined_facts along a b f e))
