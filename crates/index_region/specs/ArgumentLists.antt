-- Functions of one or two arguments, applied to an argument list.
use Rattle.std.specs.Prelude.{List, [], ◌∷◌, Result, Err}
use Rattle.arrays_core.{specs.declared.item.Kind.{Kind}, specs.declared.item.Kind.TheVariants.{Length}, specs.Arrays.{ArrayValue}}

-- a function of one argument, applied to an argument list. Calls always pass as many arguments as the function takes, so that LENGTH does
-- not occur
abbrev pub of_one_argument : {A : Type 0} → (ArrayValue → Result A Kind) → List ArrayValue → Result A Kind
of_one_argument f (b ∷ []) = f b
of_one_argument f args = Err Length

-- a function of two arguments, the left one first, applied to an argument list. LENGTH does not occur
abbrev pub of_two_arguments : {A : Type 0} → (ArrayValue → ArrayValue → Result A Kind) → List ArrayValue → Result A Kind
of_two_arguments f (a ∷ b ∷ []) = f a b
of_two_arguments f args = Err Length
