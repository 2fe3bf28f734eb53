-- Consequences of passed checks.
use Rattle.std.{proofs.Common.{◌≡◌, ◌≤◌, ℕ, Bool, true, false, List, [], ◌∷◌, ◌++◌, length, get_or, Result, Ok, Err, refl, sym, ap, arith}, specs.Prelude.{nat_le}, proofs.lemmas.Bool.{and_parts, and_from, leb-true, le-leb}, proofs.lemmas.List.Sums.{list_all-from_AllPass, AllPass-from_list_all}}
use Rattle.arrays_core.{specs.Limits.{most_axes, longest_axis, most_places}, specs.declared.item.Item.{Item}, specs.declared.item.ItemType.{ItemType}, specs.declared.item.Kind.{Kind}, specs.declared.item.Kind.TheVariants.{Limit}, specs.Arrays.{ArrayValue}, specs.Items.{type_of}}
use Rattle.arrays_core.{specs.Shapes.{is_index_of, size, IsWithinLimits}, specs.Building.{IsRowOf}}
use Rattle.index_region.{specs.Checks.{form_of, check, Form, limited, is_within_limits}, specs.Answers.{IsPlaceOf, IsRowIn, HasTypeOf}}

-- a passed check, with a place of the rest
pub record Passed (holds : Bool) (rest : Result Form Kind) (index : List ℕ) : Type 0 where
  pub test : holds ≡ true
  pub place : IsPlaceOf rest index

pub passed : (holds : Bool) (kind : Kind) (rest : Result Form Kind) (index : List ℕ) → IsPlaceOf (check holds kind rest) index → Passed holds rest index
passed true kind rest index h = record { test = refl; place = h }
passed false kind rest index h = absurd h

-- a shape within the limits passes the test
pub is_within_from : (shape : List ℕ) → IsWithinLimits shape → is_within_limits shape ≡ true
is_within_from shape h =
    let axes = list_all-from_AllPass (λ (n : ℕ). nat_le n longest_axis) shape (λ k d below. le-leb (get_or shape k d) longest_axis (h.axes k d below)) in
    and_from _ _ (and_from _ _ (le-leb (length shape) most_axes h.rank) axes) (le-leb (size shape) most_places h.size_within)

pub within_limits : (shape : List ℕ) → is_within_limits shape ≡ true → IsWithinLimits shape
within_limits shape h =
    let parts = and_parts _ _ h in
    let first = and_parts _ _ parts.0 in
    record {
      rank = leb-true (length shape) most_axes first.0;
      axes = λ k d below. leb-true (get_or shape k d) longest_axis (AllPass-from_list_all (λ (n : ℕ). nat_le n longest_axis) shape first.1 k d below);
      size_within = leb-true (size shape) most_places parts.1;
    }

-- the last check passes for a shape within the limits
pub limited_passes : (shape : List ℕ) (item_type : ItemType) → IsWithinLimits shape → limited shape item_type ≡ Ok (form_of shape item_type)
limited_passes shape item_type h = ap (λ (w : Bool). check w Limit (Ok (form_of shape item_type))) (is_within_from shape h)

pub limited_fails : (shape : List ℕ) (item_type : ItemType) → (IsWithinLimits shape → ⊥) → limited shape item_type ≡ Err Limit
limited_fails shape item_type beyond = decide (is_within_limits shape) (λ t. beyond (within_limits shape t))
  where
    decide : (w : Bool) → (w ≡ true → ⊥) → check w Limit (Ok (form_of shape item_type)) ≡ Err Limit
    decide true fails = absurd (fails refl)
    decide false fails = refl

inside_if : (holds : Bool) (kind : Kind) (shape : List ℕ) (item_type : ItemType) (index : List ℕ) → IsPlaceOf (check holds kind (Ok (form_of shape item_type))) index
    → is_index_of shape index ≡ true
inside_if true kind shape item_type index h = h
inside_if false kind shape item_type index h = absurd h

-- a place of a shape within the limits
pub place_inside : (shape : List ℕ) (item_type : ItemType) (index : List ℕ) → IsPlaceOf (limited shape item_type) index → is_index_of shape index ≡ true
place_inside shape item_type index h = inside_if (is_within_limits shape) _ shape item_type index h

-- the type of an item after one more check
pub typed_check : (holds : Bool) (kind : Kind) (rest : Result Form Kind) (item : Item) → HasTypeOf rest item → HasTypeOf (check holds kind rest) item
typed_check true kind rest item h = h
typed_check false kind rest item h = tt

typed_if : (holds : Bool) (kind : Kind) (shape : List ℕ) (item_type : ItemType) (item : Item) → type_of item ≡ item_type
    → HasTypeOf (check holds kind (Ok (form_of shape item_type))) item
typed_if true kind shape item_type item h = h
typed_if false kind shape item_type item h = tt

pub typed_limited : (shape : List ℕ) (item_type : ItemType) (item : Item) → type_of item ≡ item_type → HasTypeOf (limited shape item_type) item
typed_limited shape item_type item h = typed_if (is_within_limits shape) _ shape item_type item h

-- a list of one argument
pub one_argument : {A : Type 0} (args : List A) (b : A) → length args ≡ 1 → b ≡ get_or args 0 b → args ≡ b ∷ []
one_argument [] b h e = absurd (omega arith)
one_argument (x ∷ []) b h e = rw e refl
one_argument (x ∷ y ∷ rest) b h e = absurd (omega arith)

-- a list of two arguments
pub two_arguments : {A : Type 0} (args : List A) (a b : A) → length args ≡ 2 → a ≡ get_or args 0 a → b ≡ get_or args 1 b → args ≡ a ∷ b ∷ []
two_arguments [] a b h d e = absurd (omega arith)
two_arguments (x ∷ []) a b h d e = absurd (omega arith)
two_arguments (x ∷ y ∷ []) a b h d e = rw (d, e) refl
two_arguments (x ∷ y ∷ z ∷ rest) a b h d e = absurd (omega arith)

-- checks that return a form have passed
pub record Gives (holds : Bool) (rest : Result Form Kind) (form : Form) : Type 0 where
  pub test : holds ≡ true
  pub is : rest ≡ Ok form

pub gives : (holds : Bool) (kind : Kind) (rest : Result Form Kind) (form : Form) → check holds kind rest ≡ Ok form → Gives holds rest form
gives true kind rest form h = record { test = refl; is = h }
gives false kind rest form h = let no : ⊥ = cc in absurd no

-- the form of the last check is the wanted one
pub limited_gives : (shape : List ℕ) (item_type : ItemType) (form : Form) → limited shape item_type ≡ Ok form → form ≡ form_of shape item_type
limited_gives shape item_type form h = decide (is_within_limits shape) h
  where
    decide : (w : Bool) → check w Limit (Ok (form_of shape item_type)) ≡ Ok form → form ≡ form_of shape item_type
    decide true h = let wanted : Form = form_of shape item_type in let same : wanted ≡ form = cc in sym same
    decide false h = let no : ⊥ = cc in absurd no

-- a row of a result after a passed check
pub record RowPassed (holds : Bool) (rest : Result Form Kind) (row : List ℕ) (count : ℕ) (item_type : ItemType) : Type 0 where
  pub test : holds ≡ true
  pub row_in : IsRowIn rest row count item_type

pub row_passed : (holds : Bool) (kind : Kind) (rest : Result Form Kind) (row : List ℕ) (count : ℕ) (item_type : ItemType) → IsRowIn (check holds kind rest) row count item_type
    → RowPassed holds rest row count item_type
row_passed true kind rest row count item_type h = record { test = refl; row_in = h }
row_passed false kind rest row count item_type h = absurd h

-- a row of the wanted shape
pub record RowInside (shape : List ℕ) (asked item_type : ItemType) (row : List ℕ) (count : ℕ) : Type 0 where
  pub row_of : IsRowOf shape row count
  pub typed : asked ≡ item_type

pub row_inside : (shape : List ℕ) (asked : ItemType) (row : List ℕ) (count : ℕ) (item_type : ItemType) → IsRowIn (limited shape asked) row count item_type
    → RowInside shape asked item_type row count
row_inside shape asked row count item_type h = decide (is_within_limits shape) h
  where
    decide : (w : Bool) → IsRowIn (check w Limit (Ok (form_of shape asked))) row count item_type → RowInside shape asked item_type row count
    decide true g = record { row_of = g.0; typed = g.1 }
    decide false g = absurd g

-- the places of a row are places of the result
pub place_of_row : (form : Result Form Kind) (row : List ℕ) (count : ℕ) (item_type : ItemType) (i : ℕ) → IsRowIn form row count item_type → 1 ≤ i → i ≤ count
    → IsPlaceOf form (row ++ i ∷ [])
place_of_row (Ok form) row count item_type i h low high = h.0.places i low high
place_of_row (Err kind) row count item_type i h low high = absurd h
