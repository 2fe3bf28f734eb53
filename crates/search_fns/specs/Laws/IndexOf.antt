-- The law of index of.
use Rattle.std.{proofs.Common.{◌≡◌, ℕ, List, length, refl, ap, subst, pos, suc, true, false, nat_eq, Ok}, specs.List.{position_or_len}}
use Rattle.arrays_core.{specs.declared.item.Item.TheVariants.{Num}, specs.declared.item.ItemType.TheVariants.{Nums}, specs.Arrays.{ArrayValue, item_of}, specs.Shapes.{indices, is_index_of}}
use Rattle.index_region.{specs.Checks.{Form}, proofs.Passing.{gives, limited_gives}}
use Rattle.change_core.{specs.Tightness.{IsTight}, specs.Sourced.{other}, specs.Ways.{alike, everywhere}, proofs.Sourced.{two_arrays_tight}, proofs.UsedWays.{alike-covered, everywhere-covered}, proofs.ReadAlike.{item_same}}
use Rattle.search_fns.{specs.IndexOf.{index_of_form, index_of_item, index_of_rule}, specs.SameItem.{same_item}, specs.Laws.Reads.{all_read_alike, one_read}}

-- the result has the shape of the right argument
form_shape : (a b : ArrayValue) (f : Form) → index_of_form a b ≡ Ok f → f.shape ≡ b.shape
form_shape a b f e = ap (λ (g : Form). g.shape) (limited_gives b.shape Nums f (gives (nat_eq (length a.shape) 1) _ _ f e).is)

pub index_of_tight : IsTight index_of_rule
index_of_tight = two_arrays_tight false index_of_form index_of_item (λ shape a b. everywhere shape (λ _. indices a.shape)) (λ shape a b. alike) (record {
  blind = λ c d xs ys p q. refl;
  settled = λ c d xs ys f index sound_left sound_right p q e place read_left read_right.
      let inside : is_index_of d.shape index ≡ true = subst (λ (s : List ℕ). is_index_of s index ≡ true) (form_shape c d f e) place in
      let sought : item_of (other d ys) index ≡ item_of d index = item_same (other d ys) d index inside inside (one_read _ _ read_right) in
      let all : xs ≡ c.items = all_read_alike c xs sound_left.one_item_a_place p.count read_left in
      λ i. Ok (Num (pos (suc (position_or_len (same_item (sought i)) (all i)))));
  covered_left = λ a b f e. everywhere-covered a.shape f.shape (λ _. indices a.shape);
  covered_right = λ a b f e. alike-covered b.shape f.shape;
})
