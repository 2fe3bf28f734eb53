-- The law of change for A⌽B.
use Rattle.std.proofs.Common.{◌≡◌, ℕ, zero, suc, ◌≤◌, ◌<◌, true, false, eqb, ◌&&◌, nat_le, List, [], ◌∷◌, length, get_or, set, insert, remove, map, refl, sym, subst, ◌∙◌, arith, inl, inr, Ok, Result, if◌then◌else◌}
use Rattle.std.proofs.lemmas.Bool.{and_parts, and_from, leb-true, le-leb, eqb-true, eqb-false, cases_Bool, cond-true, cond-false, false≢true}
use Rattle.arrays_core.{specs.declared.item.Item.{Item}, specs.declared.item.Kind.{Kind}, specs.Shapes.{size, is_index_of}, specs.Arrays.{ArrayValue, item_if_there}, proofs.Shapes.{as_long}}
use Rattle.scalar_fns.{specs.ScalarExtension.{extended}, specs.Laws.OneItem.{extended_same, only_index}}
use Rattle.function_names.{specs.declared.along.Along.{Along}, specs.Axes.{is_axis, axis_at}}
use Rattle.index_region.{specs.Answers.{IsPlaceOf}, specs.Arguments.{has_one_item, number_of}, specs.Axes.{places_along}, specs.Boxes.{Interval, is_within}, specs.Checks.{Form}, specs.Sources.{Place, item_from}, proofs.Passing.{passed}, proofs.RowIndices.{axis_below}}
use Rattle.change_core.{specs.Tightness.{Covered, Each, IsTight}, specs.Reaches.{is_moved}, specs.Sourced.{other, right_used}, proofs.Sourced.{item_from_same, two_arrays_tight}, proofs.UsedWays.{across-covered, within-set, within-whole}}
use Rattle.structural_fns.{specs.Rotate.{rotate_form, rotate_item, rotate_source, rotated_place, amounts_box, amounts_use, rotate_box, rotate_rule}, specs.Laws.RotatedLines.{rotation_facts, removed_inside}}

-- an index of an index list lies on its axis
pub record IsOnAxis (shape index : List ℕ) (axis d e : ℕ) : Type 0 where
  pub low : 1 ≤ get_or index axis d
  pub high : get_or index axis d ≤ get_or shape axis e

on_axis_of : (shape index : List ℕ) (axis d e : ℕ) → is_index_of shape index ≡ true → axis < length index → IsOnAxis shape index axis d e
on_axis_of [] [] axis d e place l = absurd (omega arith)
on_axis_of [] (i ∷ index) axis d e place l = absurd (false≢true place)
on_axis_of (n ∷ shape) [] axis d e place l = absurd (false≢true place)
on_axis_of (n ∷ shape) (i ∷ index) zero d e place l =
    let first = and_parts _ _ (and_parts _ _ place).0 in
    record { low = leb-true 1 i first.0; high = leb-true i n first.1 }
on_axis_of (n ∷ shape) (i ∷ index) (suc axis) d e place l =
    let rest = on_axis_of shape index axis d e (and_parts _ _ place).1 (omega arith) in
    record { low = rest.low; high = rest.high }

placed : (along : Along) (a b : ArrayValue) (f : Form) (index : List ℕ) → rotate_form along a b ≡ Ok f → is_index_of f.shape index ≡ true → IsPlaceOf (rotate_form along a b) index
placed along a b f index e place = subst (λ (r : Result Form Kind). IsPlaceOf r index) (sym e) place

-- the checks depend on the number of items only
rotate_blind : (along : Along) (c d : ArrayValue) (xs ys : List Item) → length xs ≡ length c.items → rotate_form along (other c xs) (other d ys) ≡ rotate_form along c d
rotate_blind along c d xs ys p = rw p refl

-- an item reads B on its own line
rotate_covered : (along : Along) (a b : ArrayValue) (f : Form) → rotate_form along a b ≡ Ok f → Covered b.shape f.shape (right_used (rotate_source along a b) (rotate_box along b))
rotate_covered along a b f e region index fit place =
    let axis = axis_at (length b.shape) along in
    let facts = rotation_facts along a b index (placed along a b f index e place) in (
      within-set 1 axis _ (λ s. (1, places_along b.shape axis)) b.shape region index fit (λ l s low k u.
          let here = on_axis_of b.shape index axis 1 1 facts.inside l in
          (here.low, here.high)),
      tt,
    )

-- several amounts belong to one line each
record HasLines (axis : ℕ) (a b : ArrayValue) (index : List ℕ) : Type 0 where
  below : axis < length b.shape
  inside : is_index_of b.shape index ≡ true
  line : is_index_of a.shape (remove index axis) ≡ true

lines_of : (along : Along) (a b : ArrayValue) (index : List ℕ) → IsPlaceOf (rotate_form along a b) index → (length a.items ≡ 1 → ⊥) → HasLines (axis_at (length b.shape) along) a b index
lines_of along a b index h many =
    let axis = axis_at (length b.shape) along in
    let facts = rotation_facts along a b index h in
    let one_more : suc (length a.shape) ≡ length b.shape = facts.there many in
    let below : axis < length b.shape = axis_below (length b.shape) along (passed (is_axis (length b.shape) along) _ _ index h).test (omega arith) in
    record {
      below = below;
      inside = facts.inside;
      line = subst (λ (s : List ℕ). is_index_of s (remove index axis) ≡ true) (sym (facts.lines many)) (removed_inside b.shape index axis below facts.inside);
    }

-- of several amounts, the one of the line is read
read_line : (shape line : List ℕ) → is_index_of shape line ≡ true → (if eqb (size shape) 1 then map (λ _. 1) shape else line) ≡ line
read_line shape line place = elim (cases_Bool (eqb (size shape) 1)) [
  | inl one ↦ cond-true _ _ _ one ∙ only_index shape line (eqb-true _ _ one) place
  | inr many ↦ cond-false _ _ _ many
]

-- an item whose amount changed lies in the changed lines
amounts_covered : (along : Along) (a b : ArrayValue) (f : Form) → rotate_form along a b ≡ Ok f → Covered a.shape f.shape (amounts_use along f.shape a b)
amounts_covered along a b f e region index fit place = (inside, tt)
  where
    lines_within : (length a.items ≡ 1 → ⊥) → is_within region (if eqb (size a.shape) 1 then map (λ _. 1) a.shape else remove index (axis_at (length b.shape) along)) ≡ true
        → is_within (insert region (axis_at (length b.shape) along) (1, places_along b.shape (axis_at (length b.shape) along))) index ≡ true
    lines_within many h =
        let axis = axis_at (length b.shape) along in
        let n = places_along b.shape axis in
        let lines = lines_of along a b index (placed along a b f index e place) many in
        let below = lines.below in
        let long = as_long b.shape index lines.inside in
        let here = on_axis_of b.shape index axis 0 1 lines.inside (omega arith) in
        let test : (nat_le 1 (get_or index axis 0) && nat_le (get_or index axis 0) n) ≡ true = and_from _ _ (le-leb _ _ here.low) (le-leb _ _ here.high) in
        let there = λ (p : List ℕ). is_within region p ≡ true → is_within (insert region axis (1, n)) index ≡ true in
        let all : Each there (remove index axis ∷ []) = subst (Each there) (cond-true _ _ _ test) (across-covered a.shape b.shape axis (1, n) below region index fit lines.inside) in
        all.0 (subst (λ (p : List ℕ). is_within region p ≡ true) (read_line a.shape (remove index axis) lines.line) h)

    inside : is_within region (if eqb (size a.shape) 1 then map (λ _. 1) a.shape else remove index (axis_at (length b.shape) along)) ≡ true → is_moved (amounts_box along f.shape a b region) index ≡ true
    inside h = elim (cases_Bool (has_one_item a)) [
      | inl one ↦ subst (λ (r : List Interval). is_within r index ≡ true) (sym (cond-true _ _ _ one)) (within-whole f.shape index ∙ place)
      | inr many ↦ subst (λ (r : List Interval). is_within r index ≡ true) (sym (cond-false _ _ _ many)) (lines_within (eqb-false (length a.items) 1 many) h)
    ]

-- an item is the same if its amount and its source are read alike and A has one item for each place
rotate_settled : (along : Along) (c d : ArrayValue) (xs ys : List Item) (f : Form) (index : List ℕ) → length c.items ≡ size c.shape → rotate_form along c d ≡ Ok f → is_index_of f.shape index ≡ true
    → map (item_if_there (other c xs)) ((amounts_use along f.shape c d).reads index) ≡ map (item_if_there c) ((amounts_use along f.shape c d).reads index)
    → map (item_if_there (other d ys)) ((right_used (rotate_source along c d) (rotate_box along d)).reads index) ≡ map (item_if_there d) ((right_used (rotate_source along c d) (rotate_box along d)).reads index)
    → rotate_item along (other c xs) (other d ys) index ≡ rotate_item along c d index
rotate_settled along c d xs ys f index full e place left right =
    let axis = axis_at (length d.shape) along in
    let amount : extended (other c xs) (remove index axis) ≡ extended c (remove index axis) =
    extended_same c xs (remove index axis) (λ many. (lines_of along c d index (placed along c d f index e place) (λ one. many (sym full ∙ one))).line) left in
    (λ i. item_from (other c xs) (other d ys) d.item_type (Place 1 (set index axis (rotated_place (places_along d.shape axis) (number_of (amount i)) (get_or index axis 1)))))
    ∙ item_from_same (other c xs) (other d ys) c d d.item_type (rotate_source along c d index) refl right

pub rotate_tight : (along : Along) → IsTight (rotate_rule along)
rotate_tight along = two_arrays_tight false (rotate_form along) (rotate_item along) _ _ (record {
  blind = λ c d xs ys p q. rotate_blind along c d xs ys p.count;
  settled = λ c d xs ys f index in_c in_d p q. rotate_settled along c d xs ys f index in_c.one_item_a_place;
  covered_left = amounts_covered along;
  covered_right = rotate_covered along;
})
