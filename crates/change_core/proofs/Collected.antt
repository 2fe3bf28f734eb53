-- Items collected one by one.
use Rattle.std.{proofs.Common.{◌≡◌, ℕ, List, [], ◌∷◌, map, refl, ap, ◌∙◌, Result, Ok, Err}, specs.List.{range_with_len}}
use Rattle.arrays_core.{specs.declared.item.Item.{Item}, specs.declared.item.Kind.{Kind}, specs.Items.{after, all_or_first_error}}
use Rattle.{index_region.specs.Boxes.{Interval, box_size, walk_at}, change_core.specs.Parts.{items_in}}

-- an item or an error, followed by the rest
abbrev pub put_first : Result Item Kind → Result (List Item) Kind → Result (List Item) Kind
put_first (Ok x) (Ok xs) = Ok (x ∷ xs)
put_first (Ok x) (Err k) = Err k
put_first (Err k) _ = Err k

-- all items or the first error, by recursion
abbrev pub collected : List (Result Item Kind) → Result (List Item) Kind
collected [] = Ok []
collected (r ∷ rs) = put_first r (collected rs)

-- the values of an item function along the walk of a box
abbrev pub along : (List ℕ → Result Item Kind) → List Interval → List (Result Item Kind)
along item region = map (λ p. item (walk_at region p)) (range_with_len 0 (box_size region))

pub collected_is : (rs : List (Result Item Kind)) → collected rs ≡ all_or_first_error rs
collected_is [] = refl
collected_is (Ok x ∷ rs) = put x (collected rs) ∙ ap (after x) (collected_is rs)
  where
    put : (x : Item) (r : Result (List Item) Kind) → put_first (Ok x) r ≡ after x r
    put x (Ok xs) = refl
    put x (Err k) = refl
collected_is (Err k ∷ rs) = refl

pub items_are : (item : List ℕ → Result Item Kind) (region : List Interval) → collected (along item region) ≡ items_in item region
items_are item region = collected_is (along item region)
