-- Elements of a list a stride apart, and the right fold of a list.
use Rattle.std.{specs.Prelude.{◌≡◌, ℕ, ◌+◌, ◌*◌, ◌/◌, ◌%◌, ℤ, List, [], ◌∷◌, map, get_or, Result, Ok, Err}, specs.List.{range_with_len}}
use Rattle.arrays_core.{specs.declared.item.Kind.{Kind}, specs.declared.item.Kind.TheVariants.{Domain}, specs.Items.{and_then}}

-- `count` elements of a list, `stride` apart, beginning at index `first`
abbrev pub strided : {A : Type 0} → A → List A → (first stride count : ℕ) → List A
strided default xs first stride count = map (λ k. get_or xs (first + k * stride) default) (range_with_len 0 count)

-- the start of the line for a place of the result: each line has `count` elements, a stride apart, and folds to one place
abbrev pub line_start : (stride count place : ℕ) → ℕ
line_start stride count place = place / stride * (count * stride) + place % stride

-- the right fold of a non-empty list
abbrev pub folded : {A : Type 0} → (A → A → Result A Kind) → List A → Result A Kind
folded f [] = Err Domain
folded f (x ∷ []) = Ok x
folded f (x ∷ y ∷ rest) = and_then (folded f (y ∷ rest)) (f x)

-- f is associative, including its errors, which are all of one kind
pub record IsAssociative (f : ℤ → ℤ → Result ℤ Kind) : Type 0 where
  pub kind : Kind
  pub only : (a b : ℤ) (k : Kind) → f a b ≡ Err k → k ≡ kind
  pub either : (a b c : ℤ) → and_then (f b c) (f a) ≡ and_then (f a b) (λ z. f z c)
