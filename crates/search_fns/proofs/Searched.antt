-- Whole results of index of and of membership.
use Rattle.std.{proofs.Common.{◌≡◌, ℕ, List, [], ◌∷◌, length, get_or, map, suc, pos, ℤ, Ok, sym, ap, ◌∙◌}, specs.Prelude.{nat_eq}, specs.List.{list_any, position_or_len}}
use Rattle.item_fns.specs.Numbers.{truth}
use Rattle.arrays_core.{specs.declared.item.Item.TheVariants.{Num}, specs.declared.item.ItemType.{ItemType}, specs.declared.item.ItemType.TheVariants.{Nums}, specs.declared.item.Kind.TheVariants.{Rank}, specs.Shapes.{size}, specs.Arrays.{ArrayValue}}
use Rattle.index_region.{specs.Checks.{form_of, Form, limited}, specs.ArgumentLists.{of_two_arguments}, proofs.Passing.{two_arguments, gives, limited_gives}}
use Rattle.search_fns.{specs.SameItem.{same_item}, specs.IndexOf.{index_of_form, index_of_whole}, specs.Member.{member_form, member_whole}, proofs.Flat.{flat_whole}}

module _ (args : List ArrayValue) (a b : ArrayValue) (two : length args ≡ 2) (first : a ≡ get_or args 0 a) (second : b ≡ get_or args 1 b) (shape : List ℕ) (item_type : ItemType) where
  both : args ≡ a ∷ b ∷ []
  both = two_arguments args a b two first second

  pub index_of_shape : of_two_arguments index_of_form args ≡ Ok (form_of shape item_type) → (shape ≡ b.shape) × (item_type ≡ Nums)
  index_of_shape is =
      let checked = gives (nat_eq (length a.shape) 1) Rank (limited b.shape Nums) (form_of shape item_type) (ap (of_two_arguments index_of_form) (sym both) ∙ is) in
      let asked = limited_gives b.shape Nums (form_of shape item_type) checked.is in
      (ap (λ (f : Form). f.shape) asked, ap (λ (f : Form). f.item_type) asked)

  pub index_of_answer : of_two_arguments index_of_form args ≡ Ok (form_of shape item_type) → length b.items ≡ size b.shape
      → (zs : List ℤ) → zs ≡ map (λ x. pos (suc (position_or_len (same_item x) a.items))) b.items
      → of_two_arguments index_of_whole args ≡ Ok (record { item_type = Nums; shape = shape; items = map (λ z. Num z) zs })
  index_of_answer is long zs gives =
      let parts = index_of_shape is in
      ap (of_two_arguments index_of_whole) both
      ∙ flat_whole (λ x. pos (suc (position_or_len (same_item x) a.items))) b long (index_of_form a b) shape item_type zs (ap (of_two_arguments index_of_form) (sym both) ∙ is) parts.0 parts.1 gives

  pub member_shape : of_two_arguments member_form args ≡ Ok (form_of shape item_type) → (shape ≡ a.shape) × (item_type ≡ Nums)
  member_shape is =
      let asked = limited_gives a.shape Nums (form_of shape item_type) (ap (of_two_arguments member_form) (sym both) ∙ is) in
      (ap (λ (f : Form). f.shape) asked, ap (λ (f : Form). f.item_type) asked)

  pub member_answer : of_two_arguments member_form args ≡ Ok (form_of shape item_type) → length a.items ≡ size a.shape
      → (zs : List ℤ) → zs ≡ map (λ x. truth (list_any (same_item x) b.items)) a.items
      → of_two_arguments member_whole args ≡ Ok (record { item_type = Nums; shape = shape; items = map (λ z. Num z) zs })
  member_answer is long zs gives =
      let parts = member_shape is in
      ap (of_two_arguments member_whole) both
      ∙ flat_whole (λ x. truth (list_any (same_item x) b.items)) a long (member_form a b) shape item_type zs (ap (of_two_arguments member_form) (sym both) ∙ is) parts.0 parts.1 gives
