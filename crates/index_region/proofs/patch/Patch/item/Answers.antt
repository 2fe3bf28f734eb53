use Rattle.std.proofs.Common.{◌≡◌, ℕ, List, [], ◌∷◌, length, get_or, ap, sym, ◌∙◌, subst, arith, true}
use Rattle.arrays_core.{specs.declared.item.Item.{Item}, specs.Items.{fill}}
use Rattle.index_region.{specs.Boxes.{Interval, box_size, box_offset, is_within}, specs.Patches.{PatchValue}, proofs.Walks.{offset_below}}
use Rattle.index_region.proofs.patch.Patch.item.Goals as goal

-- a patch of one item has that item at each of its index lists
only_there : (region : List Interval) (index : List ℕ) (items : List Item) (x d : Item) → items ≡ x ∷ [] → length items ≡ box_size region → is_within region index ≡ true → x ≡ get_or items (box_offset region index) d
only_there region index items x d only many inside =
    let one : length items ≡ 1 = ap length only in
    let below = offset_below region index inside in
    let first : box_offset region index ≡ 0 = omega (arith, one, many, below) in
    sym (ap (λ (k : ℕ). get_or items k d) first ∙ ap (λ (xs : List Item). get_or xs 0 d) only)

pub returns-in-Some-clause-is : goal.returns-in-Some-clause-is
returns-in-Some-clause-is c =
    subst (λ (q : PatchValue). c.in-Some.item ≡ get_or q.items (box_offset q.region c.args.index.now) (fill q.item_type)) c.self.view_is
    (only_there c.self.inside.region c.args.index.now _ c.in-Some.item _ c.in-Some.ensures.items c.self.invariant
    (subst (λ (q : PatchValue). is_within q.region c.args.index.now ≡ true) (sym c.self.view_is) c.requires))
