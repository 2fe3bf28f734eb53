-- The law of membership.
use Rattle.std.{proofs.Common.{◌≡◌, ℕ, List, refl, ap, subst, true, false, Ok}, specs.List.{list_any}}
use Rattle.arrays_core.{specs.declared.item.Item.TheVariants.{Num}, specs.declared.item.ItemType.TheVariants.{Nums}, specs.Arrays.{item_of}, specs.Shapes.{indices, is_index_of}}
use Rattle.item_fns.specs.Numbers.{truth}
use Rattle.index_region.{specs.Checks.{Form}, proofs.Passing.{limited_gives}}
use Rattle.change_core.{specs.Tightness.{IsTight}, specs.Sourced.{other}, specs.Ways.{alike, everywhere}, proofs.Sourced.{two_arrays_tight}, proofs.UsedWays.{alike-covered, everywhere-covered}, proofs.ReadAlike.{item_same}}
use Rattle.search_fns.{specs.Member.{member_form, member_item, member_rule}, specs.SameItem.{same_item}, specs.Laws.Reads.{all_read_alike, one_read}}

pub member_tight : IsTight member_rule
member_tight = two_arrays_tight false member_form member_item (λ shape a b. alike) (λ shape a b. everywhere shape (λ _. indices b.shape)) (record {
  blind = λ c d xs ys p q. refl;
  settled = λ c d xs ys f index sound_left sound_right p q e place read_left read_right.
      let inside : is_index_of c.shape index ≡ true = subst (λ (s : List ℕ). is_index_of s index ≡ true) (ap (λ (g : Form). g.shape) (limited_gives c.shape Nums f e)) place in
      let sought : item_of (other c xs) index ≡ item_of c index = item_same (other c xs) c index inside inside (one_read _ _ read_left) in
      let all : ys ≡ d.items = all_read_alike d ys sound_right.one_item_a_place q read_right in
      λ i. Ok (Num (truth (list_any (same_item (sought i)) (all i))));
  covered_left = λ a b f e. alike-covered a.shape f.shape;
  covered_right = λ a b f e. everywhere-covered b.shape f.shape (λ _. indices b.shape);
})
