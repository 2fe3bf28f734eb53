-- The text of a table by its rank.
use Rattle.std.{proofs.Common.{◌≡◌, ℕ, ℤ, ◌<◌, false, eqb, List, [], ◌∷◌, length, get_or, map, refl, sym, ◌∙◌, All}, proofs.lemmas.Bool.{eq-eqb}, proofs.lemmas.Slice.Eq.{text_from_reads}, proofs.lemmas.List.Elements.{recursion_from_All}}
use Rattle.arrays_core.{specs.Items.{type_of}, specs.declared.item.Item.{Item}, specs.declared.item.Item.TheVariants.{Num}, specs.declared.item.ItemType.{ItemType}, specs.declared.item.ItemType.TheVariants.{Nums, Chars}}
use Rattle.array_text.{specs.Text.{item_number, text_by_rank}, specs.Tables.{record_text, records_text, table_text}, proofs.Ranks.{numbers_again, of_rank_below_two}}

pub table_none : (shape : List ℕ) (zs : List ℤ) → length zs ≡ 0 → table_text shape zs ≡ []
unfolding table_text
table_none shape zs h = let none = eq-eqb (length zs) 0 h in rw none refl

-- the numbers of an array of numbers
pub numbers_in : (shape : List ℕ) (items : List Item) (zs : List ℤ) → items ≡ map (λ z. Num z) zs → table_text shape (map item_number items) ≡ table_text shape zs
numbers_in shape items zs is = rw (is, numbers_again zs) refl

pub one_record : (shape : List ℕ) (zs : List ℤ) → eqb (length zs) 0 ≡ false → length shape < 2 → table_text shape zs ≡ record_text zs
unfolding table_text
one_record shape zs some low = rw some (of_rank_below_two record_text records_text zs shape low)

pub many_records : (shape : List ℕ) (zs : List ℤ) → eqb (length zs) 0 ≡ false → length shape ≡ 2 → table_text shape zs ≡ records_text (get_or shape 0 0) (get_or shape 1 0) zs
unfolding table_text text_by_rank
many_records shape zs some two = rw (some, text_from_reads shape (get_or shape 0 0 ∷ get_or shape 1 0 ∷ []) two (refl, (refl, tt))) refl

-- if each item of an array of characters is a number, it has no items
pub no_items : (t : ItemType) (items : List Item) → t ≡ Chars → All (λ item. type_of item ≡ t) items → All (λ item. type_of item ≡ Nums) items → length (map item_number items) ≡ 0
no_items t [] chars typed numbers = refl
no_items t (item ∷ items) chars typed numbers =
    let first = (recursion_from_All (λ x. type_of x ≡ t) (item ∷ items) typed).0 in
    let number = (recursion_from_All (λ x. type_of x ≡ Nums) (item ∷ items) numbers).0 in
    let same : Nums ≡ Chars = sym number ∙ first ∙ chars in absurd (cc)
