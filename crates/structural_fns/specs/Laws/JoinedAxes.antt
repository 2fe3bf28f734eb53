-- Consequences of the checks of catenate for the axes.
use Rattle.std.{proofs.Common.{◌≡◌, ◌≤◌, ◌<◌, ◌+◌, ℕ, suc, true, ◌||◌, ◌&&◌, if◌then◌else◌, nat_le, List, length, get_or, ap, sym, ◌∙◌, subst, arith, Ok, inl, inr}, proofs.lemmas.Bool.{and_parts, or_cases, eqb-true, leb-true}, proofs.lemmas.List.Edits.{length-insert, get_or-insert_at}}
use Rattle.arrays_core.specs.Arrays.{ArrayValue}
use Rattle.function_names.{specs.declared.along.Along.{Along}, specs.Axes.{is_axis, axis_at}}
use Rattle.index_region.{specs.Arguments.{is_scalar}, specs.Checks.{Form, is_within_limits}, proofs.Passing.{gives, limited_gives}, proofs.RowIndices.{axis_below}}
use Rattle.structural_fns.{specs.Catenate.{joined_rank, joined_places, other_axes, ranks_join, axes_agree, types_join, joined_type, joined_shape, catenate_form, IsSide}, specs.Laws.SharedAxes.{shared_long}}

-- the facts that the checks establish
pub record JoinedFacts (along : Along) (a b : ArrayValue) (shape : List ℕ) : Type 0 where
  pub rank : joined_rank a b ≡ length shape
  pub few : length shape ≤ 4
  pub on_axis : is_axis (length shape) along ≡ true
  pub below : axis_at (length shape) along < length shape
  pub places : get_or shape (axis_at (length shape) along) 0 ≡ joined_places (length shape) (axis_at (length shape) along) a + joined_places (length shape) (axis_at (length shape) along) b
  pub left : IsSide a (length shape)
  pub right : IsSide b (length shape)

sides_near : (a b : ArrayValue) → ranks_join a b ≡ true → IsSide a (joined_rank a b) × IsSide b (joined_rank a b)
sides_near a b h = elim (or_cases (is_scalar a || is_scalar b) (nat_le (length a.shape) (suc (length b.shape)) && nat_le (length b.shape) (suc (length a.shape))) h) [
  | inl one ↦ elim (or_cases (is_scalar a) (is_scalar b) one) [
    | inl t ↦ let none = eqb-true (length a.shape) 0 t in (record { low = omega arith; near = inl none }, record { low = omega arith; near = inr (omega arith) })
    | inr t ↦ let none = eqb-true (length b.shape) 0 t in (record { low = omega arith; near = inr (omega arith) }, record { low = omega arith; near = inl none })
  ]
  | inr near ↦
      let parts = and_parts (nat_le (length a.shape) (suc (length b.shape))) (nat_le (length b.shape) (suc (length a.shape))) near in
      let p = leb-true (length a.shape) (suc (length b.shape)) parts.0 in
      let q = leb-true (length b.shape) (suc (length a.shape)) parts.1 in
      (record { low = omega arith; near = inr (omega arith) }, record { low = omega arith; near = inr (omega arith) })
]

pub joined_facts : (along : Along) (a b : ArrayValue) (f : Form) → catenate_form along a b ≡ Ok f → JoinedFacts along a b f.shape
joined_facts along a b f e =
    let rank = joined_rank a b in
    let axis = axis_at rank along in
    let along_one = gives (is_axis rank along) _ _ f e in
    let ranks = gives (ranks_join a b) _ _ f along_one.is in
    let axes = gives (axes_agree rank axis a b) _ _ f ranks.is in
    let types = gives (types_join a b) _ _ f axes.is in
    let shape = joined_shape rank axis a b in
    let limits = gives (is_within_limits shape) _ _ f types.is in
    let shaped : f.shape ≡ shape = ap (λ (g : Form). g.shape) (limited_gives shape (joined_type a b) f types.is) in
    let below = axis_below rank along along_one.test (omega arith) in
    let others = other_axes rank axis (if is_scalar a then b else a) in
    let shared : length others + 1 ≡ rank = shared_long a b axis below ranks.test in
    let sum = joined_places rank axis a + joined_places rank axis b in
    let long : length shape ≡ length others + 1 = length-insert others axis sum (omega arith) in
    let there : get_or shape axis 0 ≡ sum = get_or-insert_at others axis sum 0 (omega arith) in
    let same : rank ≡ length f.shape = sym (ap (λ (s : List ℕ). length s) shaped ∙ long ∙ shared) in
    let sides = sides_near a b ranks.test in
    let four : length shape ≤ 4 = leb-true _ _ (and_parts _ _ (and_parts _ _ limits.test).0).0 in
    let at_rank : get_or f.shape axis 0 ≡ sum = ap (λ (s : List ℕ). get_or s axis 0) shaped ∙ there in
    record {
      rank = same;
      few = omega (arith, four, same, long, shared);
      on_axis = subst (λ (n : ℕ). is_axis n along ≡ true) same along_one.test;
      below = subst (λ (n : ℕ). axis_at n along < n) same below;
      places = subst (λ (n : ℕ). get_or f.shape (axis_at n along) 0 ≡ joined_places n (axis_at n along) a + joined_places n (axis_at n along) b) same at_rank;
      left = subst (IsSide a) same sides.0;
      right = subst (IsSide b) same sides.1;
    }
