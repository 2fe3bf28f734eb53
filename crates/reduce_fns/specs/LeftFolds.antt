-- Left folds of a list.
use Rattle.std.specs.Prelude.{List, [], ◌∷◌, Result, Ok, Err}
use Rattle.arrays_core.{specs.Items.{and_then}, specs.declared.item.Kind.{Kind}, specs.declared.item.Kind.TheVariants.{Domain}}

-- the left fold of a list, from a start value
abbrev pub fold_on : {A : Type 0} → (A → A → Result A Kind) → A → List A → Result A Kind
fold_on f x [] = Ok x
fold_on f x (y ∷ rest) = and_then (f x y) (λ z. fold_on f z rest)

-- the left fold of a non-empty list
abbrev pub folded_left : {A : Type 0} → (A → A → Result A Kind) → List A → Result A Kind
folded_left f [] = Err Domain
folded_left f (x ∷ rest) = fold_on f x rest
