-- The text of an array by its rank.
use Rattle.std.{proofs.Common.{◌≡◌, ℕ, ◌-◌, ◌*◌, ◌<◌, List, [], ◌∷◌, length, get_or, map, refl, ap, arith, ℤ}, proofs.NetLemmas.Arrays.{four_items}, proofs.lemmas.Slice.Eq.{text_from_reads}}
use Rattle.arrays_core.{specs.Arrays.{ArrayValue}, specs.Shapes.{size}, specs.declared.item.Item.TheVariants.{Num, Char}, specs.declared.item.ItemType.TheVariants.{Nums, Chars}}
use Rattle.array_text.specs.Text.{text_by_rank, planes, numbers_text, characters_text, array_text, item_number, item_character}

module _ {X : Type 0} (line : List X → List ℕ) (plane : ℕ → ℕ → List X → List ℕ) (xs : List X) where
  pub of_rank_below_two : (shape : List ℕ) → length shape < 2 → text_by_rank line plane shape xs ≡ line xs
  unfolding text_by_rank
  of_rank_below_two [] h = refl
  of_rank_below_two (n ∷ []) h = refl
  of_rank_below_two (n ∷ m ∷ shape) h = absurd (omega arith)

  pub of_rank_two : (shape : List ℕ) → length shape ≡ 2
      → text_by_rank line plane shape xs ≡ plane (get_or shape (length shape - 2) 0) (get_or shape (length shape - 1) 0) xs
  unfolding text_by_rank
  of_rank_two shape h = rw (text_from_reads shape (get_or shape 0 0 ∷ get_or shape 1 0 ∷ []) h (refl, (refl, tt))) refl

  pub of_rank_three : (shape : List ℕ) → length shape ≡ 3
      → text_by_rank line plane shape xs
      ≡ planes (plane (get_or shape (length shape - 2) 0) (get_or shape (length shape - 1) 0)) (get_or shape 0 0)
      (get_or shape (length shape - 2) 0 * get_or shape (length shape - 1) 0) xs
  unfolding text_by_rank
  of_rank_three shape h = rw (text_from_reads shape (get_or shape 0 0 ∷ get_or shape 1 0 ∷ get_or shape 2 0 ∷ []) h (refl, (refl, (refl, tt)))) refl

  pub of_rank_four : (shape : List ℕ) → length shape ≡ 4
      → text_by_rank line plane shape xs
      ≡ planes (plane (get_or shape (length shape - 2) 0) (get_or shape (length shape - 1) 0)) (get_or shape 0 0 * get_or shape 1 0)
      (get_or shape (length shape - 2) 0 * get_or shape (length shape - 1) 0) xs
  unfolding text_by_rank
  of_rank_four shape h = rw (four_items shape h) refl

pub size_of_rank_four : (shape : List ℕ) → length shape ≡ 4
    → size shape ≡ get_or shape 0 0 * get_or shape 1 0 * (get_or shape (length shape - 2) 0 * get_or shape (length shape - 1) 0)
size_of_rank_four shape h = rw (four_items shape h) (omega arith)

pub numbers_again : (zs : List ℤ) → map item_number (map (λ z. Num z) zs) ≡ zs
numbers_again [] = refl
numbers_again (z ∷ zs) = ap (λ (t : List ℤ). z ∷ t) (numbers_again zs)

characters_again : (cs : List ℕ) → map item_character (map (λ c. Char c) cs) ≡ cs
characters_again [] = refl
characters_again (c ∷ cs) = ap (λ (t : List ℕ). c ∷ t) (characters_again cs)

pub text_of_numbers : (a : ArrayValue) (zs : List ℤ) → a.item_type ≡ Nums → a.items ≡ map (λ z. Num z) zs → array_text a ≡ numbers_text a.shape zs
text_of_numbers a zs is_type is_items = rw (is_type, is_items, numbers_again zs) refl

pub text_of_characters : (a : ArrayValue) (cs : List ℕ) → a.item_type ≡ Chars → a.items ≡ map (λ c. Char c) cs → array_text a ≡ characters_text a.shape cs
text_of_characters a cs is_type is_items = rw (is_type, is_items, characters_again cs) refl
