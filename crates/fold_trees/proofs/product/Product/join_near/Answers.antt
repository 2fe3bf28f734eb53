use Rattle.std.{proofs.Common.{◌≡◌, ◌≤◌, sym, subst, ◌∙◌, to_z, of_z, SFits, ℤ, pos, neg_ℤ, ◌*ℤ◌, ◌≤ℤ◌, unsigned_abs}, specs.Int.{w64, int_min, int_max}, proofs.lemmas.Int.{to_z-of_z}}
use Rattle.fold_trees.{specs.Products.{Products, AreOrdered, TellsProducts, kept_products, joined_products}, proofs.JoinedProducts.{products_eq, ordered_join, tells_join}, proofs.NearProducts.{narrow_fits, narrow_least, narrow_greatest}}
use Rattle.fold_trees.proofs.product.Product.join_near.Goals as goal

-- the value of a number that is read
read : (z x : ℤ) → SFits w64 z → z ≡ x → to_z w64 (of_z w64 z) ≡ x
read z x fits e = to_z-of_z w64 z fits ∙ e

-- the product of two such numbers that are near
read_times : (z w : ℤ) → SFits w64 z → SFits w64 w → unsigned_abs z ≤ 2147483647 → unsigned_abs w ≤ 2147483647 → SFits w64 (to_z w64 (of_z w64 z) *ℤ to_z w64 (of_z w64 w))
read_times z w f g h k = subst (SFits w64) (sym (λ i. to_z-of_z w64 z f i *ℤ to_z-of_z w64 w g i)) (narrow_fits z w h k)

times_read : (z w x y : ℤ) → SFits w64 z → SFits w64 w → z ≡ x → w ≡ y → unsigned_abs z ≤ 2147483647 → unsigned_abs w ≤ 2147483647
    → to_z w64 (of_z w64 (to_z w64 (of_z w64 z) *ℤ to_z w64 (of_z w64 w))) ≡ x *ℤ y
times_read z w x y f g e d h k = to_z-of_z w64 _ (read_times z w f g h k) ∙ (λ i. read z x f e i *ℤ read w y g d i)

pub overflow_mul-one : goal.overflow_mul-one
overflow_mul-one c = read_times c.near_least.result c.near_total-factor.result (record { sfits = c.near_least.type_inv }) (record { sfits = c.near_total-factor.type_inv }) c.near_least.ensures.near c.near_total-factor.ensures.near

pub overflow_mul-other : goal.overflow_mul-other
overflow_mul-other c = read_times c.near_greatest.result c.near_total-factor.result (record { sfits = c.near_greatest.type_inv }) (record { sfits = c.near_total-factor.type_inv }) c.near_greatest.ensures.near c.near_total-factor.ensures.near

pub overflow_mul-near_total : goal.overflow_mul-near_total
overflow_mul-near_total c = read_times c.near_total.result c.near_total-factor.result (record { sfits = c.near_total.type_inv }) (record { sfits = c.near_total-factor.type_inv }) c.near_total.ensures.near c.near_total-factor.ensures.near

-- the computed values are the join of the stored ones
made : (c : goal.After-near_total) → record {
  total = to_z w64 (of_z w64 (to_z w64 (of_z w64 c.near_total.result) *ℤ to_z w64 (of_z w64 c.near_total-factor.result)));
  least = to_z w64 (of_z w64 c.min-least.result);
  greatest = to_z w64 (of_z w64 c.max-greatest.result);
} ≡ joined_products (kept_products c.args.self.now) (kept_products c.args.later.now)
made c =
    let factor : SFits w64 c.near_total-factor.result = record { sfits = c.near_total-factor.type_inv } in
    let one = times_read _ _ _ _ (record { sfits = c.near_least.type_inv }) factor c.near_least.ensures.is c.near_total-factor.ensures.is c.near_least.ensures.near c.near_total-factor.ensures.near in
    let other = times_read _ _ _ _ (record { sfits = c.near_greatest.type_inv }) factor c.near_greatest.ensures.is c.near_total-factor.ensures.is c.near_greatest.ensures.near c.near_total-factor.ensures.near in
    let total = times_read _ _ _ _ (record { sfits = c.near_total.type_inv }) factor c.near_total.ensures.is c.near_total-factor.ensures.is c.near_total.ensures.near c.near_total-factor.ensures.near in
    let low = read _ _ (record { sfits = c.near_least-2.type_inv }) c.near_least-2.ensures.is in
    let high = read _ _ (record { sfits = c.near_greatest-2.type_inv }) c.near_greatest-2.ensures.is in
    let min = read _ _ (record { sfits = c.min.type_inv }) (c.min.ensures.value ∙ (λ i. int_min (one i) (other i))) in
    let max = read _ _ (record { sfits = c.max.type_inv }) (c.max.ensures.value ∙ (λ i. int_max (one i) (other i))) in
    products_eq _ _ total
    (read _ _ (record { sfits = c.min-least.type_inv }) (c.min-least.ensures.value ∙ (λ i. int_min (low i) (min i))))
    (read _ _ (record { sfits = c.max-greatest.type_inv }) (c.max-greatest.ensures.value ∙ (λ i. int_max (high i) (max i))))

pub of_narrow-requires-clause-ordered : goal.of_narrow-requires-clause-ordered
of_narrow-requires-clause-ordered c =
    subst AreOrdered (sym (made c)) (ordered_join (kept_products c.args.self.now) (kept_products c.args.later.now) c.requires.here.1.sound c.requires.later.1.sound)

pub of_narrow-requires-clause-low : goal.of_narrow-requires-clause-low
of_narrow-requires-clause-low c =
    subst (λ (s : Products). neg_ℤ (pos 4611686014132420609) ≤ℤ s.least) (sym (made c)) (narrow_least (kept_products c.args.self.now) (kept_products c.args.later.now)
    (rw c.near_least.ensures.is at c.near_least.ensures.near) (rw c.near_greatest.ensures.is at c.near_greatest.ensures.near)
    (rw c.near_total-factor.ensures.is at c.near_total-factor.ensures.near) (rw c.near_least-2.ensures.is at c.near_least-2.ensures.near))

pub of_narrow-requires-clause-high : goal.of_narrow-requires-clause-high
of_narrow-requires-clause-high c =
    subst (λ (s : Products). s.greatest ≤ℤ pos 4611686014132420609) (sym (made c)) (narrow_greatest (kept_products c.args.self.now) (kept_products c.args.later.now)
    (rw c.near_least.ensures.is at c.near_least.ensures.near) (rw c.near_greatest.ensures.is at c.near_greatest.ensures.near)
    (rw c.near_total-factor.ensures.is at c.near_total-factor.ensures.near) (rw c.near_greatest-2.ensures.is at c.near_greatest-2.ensures.near))

pub returns : goal.returns
returns c earlier rest h k =
    tells_join c.args.self.now c.args.later.now c.of_narrow.result earlier rest h k (subst (TellsProducts c.of_narrow.result) (made c.before) c.of_narrow.ensures)
