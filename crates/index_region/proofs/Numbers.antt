-- The numbers of an array whose items are numbers.
use Rattle.std.{proofs.Common.{◌≡◌, ℤ, List, map, ap, ◌∙◌}, proofs.lemmas.Simd.{map-map}, proofs.lemmas.List.{map-id}}
use Rattle.{arrays_core.{specs.declared.item.Item.TheVariants.{Num}, specs.Arrays.{ArrayValue}}, index_region.specs.Arguments.{number_of, numbers}}

pub numbers_read : (a : ArrayValue) (zs : List ℤ) → a.items ≡ map (λ z. Num z) zs → numbers a ≡ zs
numbers_read a zs is = ap (map number_of) is ∙ map-map number_of (λ z. Num z) zs ∙ map-id zs
