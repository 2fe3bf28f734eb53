use Rattle.std.{proofs.Common.{◌≡◌, ◌^◌, ◌≤◌, sym, subst, ◌∙◌, to_z, of_z, SFits, ℤ, pos, neg_ℤ, ◌*ℤ◌, ◌≤ℤ◌, unsigned_abs}, specs.Int.{w128, int_min, int_max}, proofs.lemmas.Int.{to_z-of_z}}
use Rattle.fold_trees.{specs.Products.{Products, AreOrdered, TellsProducts, kept_products, joined_products}, proofs.JoinedProducts.{products_eq, ordered_join, tells_join}, proofs.NearProducts.{IsWithin126, are_near, times_fits, join_within}}
use Rattle.fold_trees.proofs.product.Product.join_wide.Goals as goal

-- the value of a number that is read
read : (z x : ℤ) → SFits w128 z → z ≡ x → to_z w128 (of_z w128 z) ≡ x
read z x fits e = to_z-of_z w128 z fits ∙ e

-- the product of two such numbers
read_times : (z w x y : ℤ) → SFits w128 z → SFits w128 w → z ≡ x → w ≡ y → unsigned_abs x ≤ 2 ^ 63 → unsigned_abs y ≤ 2 ^ 63
    → SFits w128 (to_z w128 (of_z w128 z) *ℤ to_z w128 (of_z w128 w))
read_times z w x y f g e d h k = subst (SFits w128) (sym (λ i. read z x f e i *ℤ read w y g d i)) (times_fits x y h k)

times_read : (z w x y : ℤ) → SFits w128 z → SFits w128 w → z ≡ x → w ≡ y → unsigned_abs x ≤ 2 ^ 63 → unsigned_abs y ≤ 2 ^ 63
    → to_z w128 (of_z w128 (to_z w128 (of_z w128 z) *ℤ to_z w128 (of_z w128 w))) ≡ x *ℤ y
times_read z w x y f g e d h k = to_z-of_z w128 _ (read_times z w x y f g e d h k) ∙ (λ i. read z x f e i *ℤ read w y g d i)

pub overflow_mul-one : goal.overflow_mul-one
overflow_mul-one c = read_times _ _ _ _ (record { sfits = c.least.type_inv }) (record { sfits = c.total-factor.type_inv }) c.least.ensures c.total-factor.ensures
    (are_near c.args.self.now _ c.requires.here.1).least (are_near c.args.later.now _ c.requires.later.1).total

pub overflow_mul-other : goal.overflow_mul-other
overflow_mul-other c = read_times _ _ _ _ (record { sfits = c.greatest.type_inv }) (record { sfits = c.total-factor.type_inv }) c.greatest.ensures c.total-factor.ensures
    (are_near c.args.self.now _ c.requires.here.1).greatest (are_near c.args.later.now _ c.requires.later.1).total

pub overflow_mul-total : goal.overflow_mul-total
overflow_mul-total c = read_times _ _ _ _ (record { sfits = c.total.type_inv }) (record { sfits = c.total-factor.type_inv }) c.total.ensures c.total-factor.ensures
    (are_near c.args.self.now _ c.requires.here.1).total (are_near c.args.later.now _ c.requires.later.1).total

-- the computed values are the join of the stored ones
made : (c : goal.After-total) → record {
  total = to_z w128 (of_z w128 (to_z w128 (of_z w128 c.total.result) *ℤ to_z w128 (of_z w128 c.total-factor.result)));
  least = to_z w128 (of_z w128 c.min-least.result);
  greatest = to_z w128 (of_z w128 c.max-greatest.result);
} ≡ joined_products (kept_products c.args.self.now) (kept_products c.args.later.now)
made c =
    let here = are_near c.args.self.now _ c.requires.here.1 in
    let later = are_near c.args.later.now _ c.requires.later.1 in
    let factor : SFits w128 c.total-factor.result = record { sfits = c.total-factor.type_inv } in
    let one = times_read _ _ _ _ (record { sfits = c.least.type_inv }) factor c.least.ensures c.total-factor.ensures here.least later.total in
    let other = times_read _ _ _ _ (record { sfits = c.greatest.type_inv }) factor c.greatest.ensures c.total-factor.ensures here.greatest later.total in
    let low = read _ _ (record { sfits = c.least-2.type_inv }) c.least-2.ensures in
    let high = read _ _ (record { sfits = c.greatest-2.type_inv }) c.greatest-2.ensures in
    let min = read _ _ (record { sfits = c.min.type_inv }) (c.min.ensures.value ∙ (λ i. int_min (one i) (other i))) in
    let max = read _ _ (record { sfits = c.max.type_inv }) (c.max.ensures.value ∙ (λ i. int_max (one i) (other i))) in
    products_eq _ _ (times_read _ _ _ _ (record { sfits = c.total.type_inv }) factor c.total.ensures c.total-factor.ensures here.total later.total)
    (read _ _ (record { sfits = c.min-least.type_inv }) (c.min-least.ensures.value ∙ (λ i. int_min (low i) (min i))))
    (read _ _ (record { sfits = c.max-greatest.type_inv }) (c.max-greatest.ensures.value ∙ (λ i. int_max (high i) (max i))))

within : (c : goal.After-total) → IsWithin126 (joined_products (kept_products c.args.self.now) (kept_products c.args.later.now))
within c = join_within _ _ (are_near c.args.self.now _ c.requires.here.1) (are_near c.args.later.now _ c.requires.later.1)

pub of_products-requires-clause-ordered : goal.of_products-requires-clause-ordered
of_products-requires-clause-ordered c =
    subst AreOrdered (sym (made c)) (ordered_join (kept_products c.args.self.now) (kept_products c.args.later.now) c.requires.here.1.sound c.requires.later.1.sound)

pub of_products-requires-clause-low : goal.of_products-requires-clause-low
of_products-requires-clause-low c = subst (λ (s : Products). neg_ℤ (pos (2 ^ 126)) ≤ℤ s.least) (sym (made c)) (within c).low

pub of_products-requires-clause-high : goal.of_products-requires-clause-high
of_products-requires-clause-high c = subst (λ (s : Products). s.greatest ≤ℤ pos (2 ^ 126)) (sym (made c)) (within c).high

pub returns : goal.returns
returns c earlier rest h k =
    tells_join c.args.self.now c.args.later.now c.of_products.result earlier rest h k (subst (TellsProducts c.of_products.result) (made c.before) c.of_products.ensures)
