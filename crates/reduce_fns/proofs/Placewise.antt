-- Arrays of numbers, place by place.
use Rattle.std.{proofs.Common.{◌≡◌, ℕ, ◌<◌, true, List, [], map, ℤ, pos, Result, Ok, ap, sym, ◌∙◌, arith}, specs.List.{range_with_len}, proofs.lemmas.List.{length-map, ext_get_or, get_or_default}, proofs.lemmas.List.FromFn.{length-map-range_with_len, get_or-map-range_with_len}, proofs.Math.ListN.{get_or-map}}
use Rattle.arrays_core.{specs.declared.item.Item.{Item}, specs.declared.item.ItemType.{ItemType}, specs.declared.item.ItemType.TheVariants.{Nums}, specs.declared.item.Kind.{Kind}, specs.Items.{all_or_first_error}, specs.Shapes.{size, indices, index_after, is_index_of, places_before}, specs.Arrays.{collect, with_items}}
use Rattle.arrays_core.proofs.Order.{length-indices, get_or-indices, places_before-index_after, index_after-within}
use Rattle.item_fns.{proofs.Collected.{collected}, specs.Items.{number_item}, specs.NumberLists.{number_items}}

-- collecting a rule over a shape is the array of its list of numbers
pub numbers_collected : (shape : List ℕ) (number : ℕ → Result ℤ Kind)
    → collect Nums shape (λ index. number_item (number (places_before shape index)))
    ≡ with_items Nums shape (number_items (all_or_first_error (map number (range_with_len 0 (size shape)))))
numbers_collected shape number =
    collected shape (λ index. number_item (number (places_before shape index))) (map number (range_with_len 0 (size shape)))
    (length-map-range_with_len number 0 (size shape))
    (λ i h.
    ap (λ k. number_item (number k)) (places_before-index_after shape i h)
    ∙ sym (ap number_item (get_or-map-range_with_len number 0 (size shape) i i (Ok (pos 0)) h (omega arith))))

-- rules that agree at each index list yield the same array
pub collected_same : (t : ItemType) (shape : List ℕ) (rule other : List ℕ → Result Item Kind)
    → ((index : List ℕ) → is_index_of shape index ≡ true → rule index ≡ other index) → collect t shape rule ≡ collect t shape other
collected_same t shape rule other same =
    let d = rule [] in
    let long = length-indices shape in
    let n = length-map (indices shape) rule in
    let m = length-map (indices shape) other in
    ap (λ rs. with_items t shape (all_or_first_error rs)) (ext_get_or d (map rule (indices shape)) (map other (indices shape)) (n ∙ sym m) (λ i h.
    let below : i < size shape = omega arith in
    let here = get_or-indices shape i below in
    get_or-map rule (indices shape) i []
    ∙ ap rule here
    ∙ same (index_after shape i) (index_after-within shape i below)
    ∙ sym (get_or_default (map other (indices shape)) i d (other []) (omega arith) ∙ get_or-map other (indices shape) i [] ∙ ap other here)))
