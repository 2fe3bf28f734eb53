-- Indexed references whose checks have passed.
use Rattle.std.{proofs.Common.{◌≡◌, ℕ, suc, ◌<◌, Bool, true, false, List, [], ◌∷◌, length, refl, arith}, specs.Prelude.{nat_eq, not, ◌&&◌, Result}, specs.List.{list_all}, proofs.lemmas.Bool.Decides.{nat_tests}}
use Rattle.arrays_core.{specs.declared.item.Item.{Item}, specs.declared.item.Kind.{Kind}, specs.Arrays.{ArrayValue}, specs.Shapes.{is_index_of}}
use Rattle.index_region.{specs.Checks.{Form, whole}, specs.Arguments.{is_scalar}, specs.Answers.{IsPlaceOf}, proofs.Passing.{passed, place_inside}}
use Rattle.selection_fns.specs.Index.{Position, count_written, written_positions, of_array_and_positions, are_numbers, are_on, indexed_shape, index_form}

-- the consequences of the checks, for an index list of the result
pub record HasPassed (a : ArrayValue) (written : List Bool) (positions : List Position) (index : List ℕ) : Type 0 where
  pub one_an_axis : length written ≡ length a.shape
  pub on : are_on a.shape positions ≡ true
  pub inside : is_index_of (indexed_shape a.shape positions) index ≡ true

pub positions_long : (written : List Bool) (args : List ArrayValue) → length args ≡ count_written written → length (written_positions written args) ≡ length written
positions_long [] args h = refl
positions_long (true ∷ written) [] h = absurd (omega arith)
positions_long (true ∷ written) (p ∷ args) h = let rest = positions_long written args (omega arith) in omega arith
positions_long (false ∷ written) args h = let rest = positions_long written args h in omega arith

pub has_passed : (a : ArrayValue) (written : List Bool) (args : List ArrayValue) (index : List ℕ) → length args ≡ count_written written
    → IsPlaceOf (index_form a (written_positions written args)) index → HasPassed a written (written_positions written args) index
has_passed a written args index long h =
    let positions = written_positions written args in
    let rank = passed (not (is_scalar a) && nat_eq (length positions) (length a.shape)) _ _ index h in
    let on = passed (are_on a.shape positions) _ _ index (passed (list_all are_numbers positions) _ _ index rank.place).place in
    let as_many = positions_long written args long in
    let same = as_many_axes (not (is_scalar a)) (length positions) (length a.shape) rank.test in
    record { one_an_axis = omega arith; on = on.test; inside = place_inside (indexed_shape a.shape positions) _ index on.place }
  where
    as_many_axes : (b : Bool) (m n : ℕ) → (b && nat_eq m n) ≡ true → m ≡ n
    as_many_axes true m n h = grind (arith, nat_tests)
    as_many_axes false m n h = let no : ⊥ = cc in absurd no

pub whole_of_positions : (form : ArrayValue → List Position → Result Form Kind) (item : ArrayValue → List Position → List ℕ → Result Item Kind) (written : List Bool) (args : List ArrayValue)
    → length args ≡ suc (count_written written)
    → whole (of_array_and_positions written form args) (λ index. of_array_and_positions written (λ a positions. item a positions index) args) ≡ of_array_and_positions written (λ a positions. whole (form a positions) (item a positions)) args
whole_of_positions form item written [] h = absurd (omega arith)
whole_of_positions form item written (a ∷ args) h = refl

-- the test of the ranks
abbrev pub ranks_agree : ArrayValue → List Position → Bool
ranks_agree a positions = not (is_scalar a) && nat_eq (length positions) (length a.shape)

pub ranks_do_agree : (a : ArrayValue) (written : List Bool) (args : List ArrayValue) → length args ≡ count_written written
    → 0 < length a.shape → length written ≡ length a.shape → ranks_agree a (written_positions written args) ≡ true
ranks_do_agree a written args long some same =
    let as_many = positions_long written args long in
    both (length a.shape) (length (written_positions written args)) some (omega arith)
  where
    both : (n m : ℕ) → 0 < n → m ≡ n → (not (nat_eq n 0) && nat_eq m n) ≡ true
    both n m some same = grind (arith, nat_tests)

pub ranks_do_not_agree : (a : ArrayValue) (written : List Bool) (args : List ArrayValue) → length args ≡ count_written written
    → (length written ≡ length a.shape → ⊥) → ranks_agree a (written_positions written args) ≡ false
ranks_do_not_agree a written args long apart = either (not (is_scalar a)) (length (written_positions written args)) (length a.shape) (λ same. apart (let as_many = positions_long written args long in omega arith))
  where
    either : (b : Bool) (m n : ℕ) → (m ≡ n → ⊥) → (b && nat_eq m n) ≡ false
    either true m n apart = grind (arith, nat_tests)
    either false m n apart = refl
