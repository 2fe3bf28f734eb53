-- The numbers of a line.
use Rattle.std.{proofs.Common.{◌≡◌, ℕ, ◌+◌, ◌-◌, ◌*◌, ◌<◌, List, ℤ, Vec, Result, Ok, Err, IfOk, length, get_or, map, pos, refl, ap, sym, ◌∙◌, arith}, proofs.lemmas.List.{length-map, ext_get_or}, proofs.lemmas.List.Elements.{All-get_or}, proofs.Math.ListN.{get_or-map}}
use Rattle.arrays_core.{specs.declared.item.Item.{Item}, specs.declared.item.Item.TheVariants.{Num, Char}, specs.declared.item.ItemType.TheVariants.{Nums}, specs.Items.{fill, type_of}, specs.Arrays.{ArrayValue, IsArray}}
use Rattle.{item_fns.{specs.Folds.{strided}, proofs.RightFolds.{length-strided, get_or-strided}}, index_region.specs.Arguments.{number_of, numbers}}
use Rattle.reduce_fns.proofs.Folds.{place_high}

item_number : (x : Item) → type_of x ≡ Nums → Num (number_of x) ≡ x
item_number (Num z) h = refl
item_number (Char c) h = cc

-- numbers a stride apart as items
pub numbers_there : (a : ArrayValue) → IsArray a → a.item_type ≡ Nums → (first stride count : ℕ) → first + (count - 1) * stride < length a.items
    → map (λ z. Num z) (strided (pos 0) (numbers a) first stride count) ≡ strided (fill a.item_type) a.items first stride count
numbers_there a sound typed first stride count high =
    let d = fill a.item_type in
    let zs = strided (pos 0) (numbers a) first stride count in
    let many = length-map zs (λ z. Num z) in
    let long_z = length-strided (pos 0) (numbers a) first stride count in
    let none : d ≡ Num (pos 0) = ap fill typed in
    ext_get_or d (map (λ z. Num z) zs) (strided d a.items first stride count) (omega (arith, many, long_z, length-strided d a.items first stride count)) (λ k h.
    let below : k < count = omega (arith, h, many, long_z) in
    let place = first + k * stride in
    let there : place < length a.items = let reach = place_high first stride count k (first + (count - 1) * stride) below (omega arith) in omega (arith, reach, high) in
    let item = get_or a.items place d in
    let read : get_or (numbers a) place (pos 0) ≡ number_of item = ap (λ e. get_or (numbers a) place (number_of e)) (sym none) ∙ get_or-map number_of a.items place d in
    ap (get_or (map (λ z. Num z) zs) k) none
    ∙ get_or-map (λ z. Num z) zs k (pos 0)
    ∙ ap (λ z. Num z) (get_or-strided (pos 0) (numbers a) first stride count k (pos 0) below ∙ read)
    ∙ item_number item (All-get_or (λ x. type_of x ≡ a.item_type) a.items place d there sound.one_type ∙ typed)
    ∙ sym (get_or-strided d a.items first stride count k d below))

-- ---- the answers of calls

pub as_items : {G E : Type 0} (r : Result (Vec ℤ G) E) (zs : List ℤ) (items : List Item) → IfOk r (λ v. v.items ≡ zs) → map (λ z. Num z) zs ≡ items → IfOk r (λ v. map (λ z. Num z) v.items ≡ items)
as_items (Ok v) zs items h e = ap (map (λ z. Num z)) h ∙ e
as_items (Err k) zs items h e = tt
