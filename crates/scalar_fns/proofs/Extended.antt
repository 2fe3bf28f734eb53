-- Items of arrays extended to a common shape.
use Rattle.std.{proofs.Common.{◌≡◌, ◌∙◌, ℕ, List, Some, true, length, get_or, nat_eq, inl, inr, ap, sym, refl, arith}, specs.Prelude.{◌≢◌, IsTrue}, proofs.lemmas.Bool.{cases_Bool, eqb-true, false≢true}}
use Rattle.arrays_core.{specs.Arrays.{ArrayValue, item_of, item_if_there}, specs.declared.item.Item.{Item}, specs.Items.{fill}, specs.Shapes.{size, is_index_of, places_before}, proofs.Shapes.{as_long, places_below}}
use Rattle.scalar_fns.specs.ScalarExtension.{extended}

-- at an index list of its own shape, an array has its own item, even if it has only one
pub there : (a : ArrayValue) (index : List ℕ) → is_index_of a.shape index ≡ true → item_of a index ≡ extended a index
there a index h = elim (cases_Bool (nat_eq (size a.shape) 1)) [
  | inl one ↦
      let first : places_before a.shape index ≡ 0 = (let below = places_below a.shape index h in omega (arith, below, eqb-true _ _ one)) in
      rw one (ap (λ (k : ℕ). get_or a.items k (fill a.item_type)) first)
  | inr more ↦ rw more refl
]

-- an item found at an index list is the item of the extended array
pub found : (a : ArrayValue) (index : List ℕ) (item : Item) → Some item ≡ item_if_there a index → item ≡ extended a index
found a index item is = elim (cases_Bool (is_index_of a.shape index)) [
  | inl inside ↦
      let same : item ≡ item_of a index = (let h = rw inside at is in cc) in
      same ∙ there a index inside
  | inr outside ↦ absurd (let h = rw outside at is in cc)
]

-- an array of another rank has one item, and has it everywhere
module _ (a : ArrayValue) (index : List ℕ) (within : size a.shape ≢ 1 → IsTrue (is_index_of a.shape index)) (other : length a.shape ≡ length index → ⊥) where
  pub one_alone : size a.shape ≡ 1
  one_alone = elim (cases_Bool (nat_eq (size a.shape) 1)) [
    | inl one ↦ eqb-true _ _ one
    | inr more ↦ absurd (other (sym (as_long a.shape index (within (λ (e : size a.shape ≡ 1). false≢true (sym more ∙ ap (λ (n : ℕ). nat_eq n 1) e))))))
  ]

  pub alone : get_or a.items 0 (fill a.item_type) ≡ extended a index
  alone = rw one_alone refl
