-- Index lists of two shapes, one after the other.
use Rattle.std.{proofs.Common.{◌≡◌, ℕ, ◌<◌, ◌≤◌, true, List, ◌++◌, length, get_or, map, ℤ, pos, ap, ◌∙◌, arith}, proofs.lemmas.List.{length-append, get_or-map}}
use Rattle.arrays_core.{specs.declared.item.Item.{Item}, specs.declared.item.Item.TheVariants.{Num}, specs.Shapes.{is_index_of}, proofs.Shapes.{as_long}}

pub long_enough : (s t index : List ℕ) → is_index_of (s ++ t) index ≡ true → length s ≤ length index
long_enough s t index h = omega (arith, as_long (s ++ t) index h, length-append s t)

-- an item of an array of numbers
pub number_there : (items : List Item) (zs : List ℤ) (k : ℕ) (d : Item) → items ≡ map (λ z. Num z) zs → k < length zs
    → get_or items k d ≡ Num (get_or zs k (pos 0))
number_there items zs k d e h = ap (λ xs. get_or xs k d) e ∙ get_or-map (λ z. Num z) zs k (pos 0) d h
