-- Functions of one or two arguments, applied to an argument list.
use Rattle.std.proofs.Common.{◌≡◌, ℕ, List, [], ◌∷◌, length, Result, refl, arith}
use Rattle.arrays_core.{specs.declared.item.Item.{Item}, specs.declared.item.Kind.{Kind}, specs.Arrays.{ArrayValue}}
use Rattle.index_region.{specs.Checks.{Form, whole}, specs.ArgumentLists.{of_one_argument, of_two_arguments}}

pub whole_of_one : (form : ArrayValue → Result Form Kind) (item : ArrayValue → List ℕ → Result Item Kind) (args : List ArrayValue)
    → length args ≡ 1 → whole (of_one_argument form args) (λ index. of_one_argument (λ b. item b index) args) ≡ of_one_argument (λ b. whole (form b) (item b)) args
whole_of_one form item [] h = absurd (omega arith)
whole_of_one form item (b ∷ []) h = refl
whole_of_one form item (a ∷ b ∷ rest) h = absurd (omega arith)

pub whole_of_two : (form : ArrayValue → ArrayValue → Result Form Kind) (item : ArrayValue → ArrayValue → List ℕ → Result Item Kind) (args : List ArrayValue)
    → length args ≡ 2 → whole (of_two_arguments form args) (λ index. of_two_arguments (λ a b. item a b index) args) ≡ of_two_arguments (λ a b. whole (form a b) (item a b)) args
whole_of_two form item [] h = absurd (omega arith)
whole_of_two form item (a ∷ []) h = absurd (omega arith)
whole_of_two form item (a ∷ b ∷ []) h = refl
whole_of_two form item (a ∷ b ∷ c ∷ rest) h = absurd (omega arith)
