-- The array of the numbers that a rule returns place by place.
use Rattle.std.{proofs.Common.{◌≡◌, ℕ, ◌<◌, List, [], ◌∷◌, length, get_or, map, refl, ap, sym, ◌∙◌, arith, ℤ, pos, Result, Ok, Err}, proofs.lemmas.List.{length-map, ext_get_or, get_or_default}, proofs.Math.ListN.{get_or-map}}
use Rattle.arrays_core.{specs.declared.item.Item.{Item}, specs.declared.item.Item.TheVariants.{Num}, specs.declared.item.ItemType.TheVariants.{Nums}, specs.declared.item.Kind.{Kind}, specs.Items.{all_or_first_error, after}, specs.Shapes.{size, indices, index_after}, specs.Arrays.{collect, with_items}}
use Rattle.{arrays_core.proofs.Order.{length-indices, get_or-indices}, item_fns.{specs.Items.{number_item}, specs.NumberLists.{number_items}}}

items_collected : (rs : List (Result ℤ Kind)) → all_or_first_error (map number_item rs) ≡ number_items (all_or_first_error rs)
items_collected [] = refl
items_collected (Err k ∷ rs) = refl
items_collected (Ok z ∷ rs) = ap (after (Num z)) (items_collected rs) ∙ moved z (all_or_first_error rs)
  where
    moved : (z : ℤ) (r : Result (List ℤ) Kind) → after (Num z) (number_items r) ≡ number_items (after z r)
    moved z (Ok zs) = refl
    moved z (Err k) = refl

-- a rule that returns these numbers at these places returns their array
pub collected : (shape : List ℕ) (rule : List ℕ → Result Item Kind) (rs : List (Result ℤ Kind)) → length rs ≡ size shape
    → ((i : ℕ) → i < size shape → rule (index_after shape i) ≡ number_item (get_or rs i (Ok (pos 0))))
    → collect Nums shape rule ≡ with_items Nums shape (number_items (all_or_first_error rs))
collected shape rule rs long each =
    let d : Result ℤ Kind = Ok (pos 0) in
    let n_rule : length (map rule (indices shape)) ≡ size shape = length-map (indices shape) rule ∙ length-indices shape in
    let same : map rule (indices shape) ≡ map number_item rs =
    ext_get_or (number_item d) (map rule (indices shape)) (map number_item rs) (n_rule ∙ sym (length-map rs number_item ∙ long)) (λ i h.
    let below : i < size shape = omega arith in
    get_or_default (map rule (indices shape)) i (number_item d) (rule []) h
    ∙ get_or-map rule (indices shape) i []
    ∙ ap rule (get_or-indices shape i below)
    ∙ each i below
    ∙ sym (get_or-map number_item rs i d)) in
    ap (λ results. with_items Nums shape (all_or_first_error results)) same ∙ ap (with_items Nums shape) (items_collected rs)
