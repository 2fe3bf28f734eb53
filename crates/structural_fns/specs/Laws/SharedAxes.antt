-- The axes that the two sides of catenate share.
use Rattle.std.{proofs.Common.{◌≡◌, ℕ, suc, ◌+◌, ◌<◌, ◌≤◌, Bool, true, false, ◌&&◌, ◌||◌, if◌then◌else◌, nat_eq, nat_le, List, length, remove, refl, sym, ◌∙◌, inl, inr, arith}, proofs.lemmas.Bool.{and_parts, or_cases, eqb-true, eqb-false, leb-true, true≢false}, proofs.lemmas.List.Edits.{length-remove}}
use Rattle.arrays_core.specs.Arrays.{ArrayValue}
use Rattle.index_region.specs.Arguments.{is_scalar}
use Rattle.structural_fns.specs.Catenate.{joined_rank, other_axes, ranks_join}

-- the axes of one side, of the greatest rank or of one less
pub record IsNear (m : ArrayValue) (rank : ℕ) : Type 0 where
  pub low : length m.shape ≤ rank
  pub high : rank ≤ suc (length m.shape)

near_by : (scalar : Bool) (a b : ArrayValue) → is_scalar a ≡ scalar → ranks_join a b ≡ true → IsNear (if scalar then b else a) (joined_rank a b)
near_by true a b e h = let none = eqb-true (length a.shape) 0 e in record { low = omega arith; high = omega arith }
near_by false a b e h =
    elim (or_cases (is_scalar a || is_scalar b) (nat_le (length a.shape) (suc (length b.shape)) && nat_le (length b.shape) (suc (length a.shape))) h) [
      | inl one ↦ elim (or_cases (is_scalar a) (is_scalar b) one) [
        | inl t ↦ absurd (true≢false (sym t ∙ e))
        | inr t ↦ let none = eqb-true (length b.shape) 0 t in record { low = omega arith; high = omega arith }
      ]
      | inr near ↦
          let parts = and_parts (nat_le (length a.shape) (suc (length b.shape))) (nat_le (length b.shape) (suc (length a.shape))) near in
          let p = leb-true (length a.shape) (suc (length b.shape)) parts.0 in
          let q = leb-true (length b.shape) (suc (length a.shape)) parts.1 in
          record { low = omega arith; high = omega arith }
    ]

other_by : (test : Bool) (shape : List ℕ) (rank axis : ℕ) → nat_eq (length shape) rank ≡ test → axis < rank → length shape ≤ rank → rank ≤ suc (length shape)
    → length (if test then remove shape axis else shape) + 1 ≡ rank
other_by true shape rank axis e h low high =
    let same = eqb-true (length shape) rank e in
    let long = length-remove shape axis (omega arith) in
    omega arith
other_by false shape rank axis e h low high = let differ = eqb-false (length shape) rank e in omega arith

-- there is one other axis less than the result has axes
pub shared_long : (a b : ArrayValue) (axis : ℕ) → axis < joined_rank a b → ranks_join a b ≡ true
    → length (other_axes (joined_rank a b) axis (if is_scalar a then b else a)) + 1 ≡ joined_rank a b
shared_long a b axis h ranks =
    let m = if is_scalar a then b else a in
    let near = near_by (is_scalar a) a b refl ranks in
    other_by (nat_eq (length m.shape) (joined_rank a b)) m.shape (joined_rank a b) axis refl h near.low near.high
