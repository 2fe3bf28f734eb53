-- The patch of one place.
use Rattle.std.proofs.Common.{◌≡◌, ℕ, Ok, ◌+◌, List, [], ◌∷◌, set, true, refl, sym, ap, subst, arith}
use Rattle.arrays_core.{specs.declared.item.Item.{Item}, specs.Arrays.{ArrayValue, IsArray}, specs.Items.{type_of}, specs.Shapes.{is_index_of, places_before}, specs.declared.item.ItemType.{ItemType}, specs.declared.item.ItemType.TheVariants.{Nums, Chars}}
use Rattle.index_region.{specs.Boxes.{box_size, walk_at}, specs.Patches.{PatchValue, FitsPatch, patched}, proofs.OnePlace.{one_place_size, one_place_fits, one_place_walk}, proofs.Written.{IsWritten, written_none, written_more, written_all}, specs.Arguments.{is_same_type}}
use Rattle.sheet_recalc.{specs.Cells.{with_item, item_put}, specs.Costs.{cell_patch}}

-- an array with a patch of one place is the array with the item there
pub patched_one : (a : ArrayValue) (index : List ℕ) (item : Item) → IsArray a → is_index_of a.shape index ≡ true → type_of item ≡ a.item_type → patched a (cell_patch index item) ≡ with_item a index item
patched_one a index item sound inside typed = sym (written_all a p (with_item a index item) all)
  where
    p : PatchValue
    p = cell_patch index item

    first : IsWritten a p (0 + 1) (record a { items = set a.items (places_before a.shape (walk_at p.region 0)) item })
    first = written_more a p 0 a (record { inside = one_place_fits a.shape index inside; typed = typed }) (written_none a p sound) (omega (arith, one_place_size index))

    all : IsWritten a p (box_size p.region) (with_item a index item)
    all = subst (λ (count : ℕ). IsWritten a p count (with_item a index item)) (sym (one_place_size index))
        (subst (λ (i : List ℕ). IsWritten a p 1 (record a { items = set a.items (places_before a.shape i) item })) (one_place_walk index) first)

pub fits_one : (a : ArrayValue) (index : List ℕ) (item : Item) → is_index_of a.shape index ≡ true → type_of item ≡ a.item_type → FitsPatch a (cell_patch index item)
fits_one a index item inside typed = record { inside = one_place_fits a.shape index inside; typed = typed }

same_types : (s t : ItemType) → s ≡ t → is_same_type s t ≡ true
same_types Nums Nums e = refl
same_types Chars Chars e = refl
same_types Nums Chars e = absurd (let never : ⊥ = cc in never)
same_types Chars Nums e = absurd (let never : ⊥ = cc in never)

-- one item of the array's type is put at an index list by its patch
pub item_is_put : (a : ArrayValue) (index : List ℕ) (items : List Item) (item : Item) → IsArray a → is_index_of a.shape index ≡ true → items ≡ item ∷ [] → type_of item ≡ a.item_type
    → item_put a index items ≡ Ok (patched a (cell_patch index item))
item_is_put a index items item sound inside only typed = rw (only, same_types (type_of item) a.item_type typed) (ap Ok (sym (patched_one a index item sound inside typed)))
