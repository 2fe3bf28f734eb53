-- Suffix products join as their lists do, and so do their parts.
use Rattle.std.{proofs.Common.{◌≡◌, ap, sym, subst, ◌∙◌, arith, inl, inr, List, [], ◌∷◌, ◌++◌, ◌^◌, ◌≤◌, ℤ, pos, ◌*ℤ◌, ◌⊎◌}, specs.Int.{int_min, int_max}, proofs.lemmas.Int.{ints, clamps, by_lt_z}}
use Rattle.item_fns.proofs.Products.{times_assoc}
use Rattle.fold_trees.{specs.declared.product.Product.{Product}, specs.Products.{Products, products_of_none, before, products_of, joined_products, AreOrdered, AreFar, kept_products, TellsProducts}, proofs.Multiples.{between, bounds_times, stretched}}

pub products_eq : (a b : Products) → a.total ≡ b.total → a.least ≡ b.least → a.greatest ≡ b.greatest → a ≡ b
products_eq a b e f g = λ i. record { total = e i; least = f i; greatest = g i }

-- a part stands for the values that it stores
pub tells_same : (s : Product) (m : Products) → AreOrdered m → (kept_products s).total ≡ m.total → (kept_products s).least ≡ m.least → (kept_products s).greatest ≡ m.greatest
    → s.below ≤ 2 ^ 63 → s.above ≤ 2 ^ 63 → TellsProducts s m
tells_same s m ordered e f g below above =
    let same = products_eq (kept_products s) m e f g in
    record { ordered = ordered; sound = subst AreOrdered (sym same) ordered; below = below; above = above; is = inl same }

pub ordered_none : AreOrdered products_of_none
ordered_none = record { least_total = omega (arith, ints); total_greatest = omega (arith, ints); least_zero = omega (arith, ints); zero_greatest = omega (arith, ints) }

pub ordered_before : (z : ℤ) (s : Products) → AreOrdered s → AreOrdered (before z s)
ordered_before z s h =
    record {
      least_total = omega (arith, ints, clamps);
      total_greatest = omega (arith, ints, clamps);
      least_zero = omega (arith, ints, clamps);
      zero_greatest = omega (arith, ints, clamps);
    }

pub ordered_of : (xs : List ℤ) → AreOrdered (products_of xs)
ordered_of [] = ordered_none
ordered_of (z ∷ rest) = ordered_before z (products_of rest) (ordered_of rest)

pub ordered_join : (a b : Products) → AreOrdered a → AreOrdered b → AreOrdered (joined_products a b)
ordered_join a b h k =
    let inside = between a.least a.total a.greatest b.total h.least_total h.total_greatest in
    record {
      least_total = omega (arith, ints, clamps, inside.0);
      total_greatest = omega (arith, ints, clamps, inside.1);
      least_zero = omega (arith, ints, clamps);
      zero_greatest = omega (arith, ints, clamps);
    }

none_join : (s : Products) → AreOrdered s → joined_products products_of_none s ≡ s
none_join s h = products_eq _ _ (omega (arith, ints)) (omega (arith, ints, clamps)) (omega (arith, ints, clamps))

before_join : (z : ℤ) (a b : Products) → AreOrdered a → before z (joined_products a b) ≡ joined_products (before z a) b
before_join z a b h =
    let assoc = times_assoc z a.total b.total in
    let bounds = bounds_times a.least a.greatest (z *ℤ a.total) b.total (omega (arith, ints)) in
    products_eq _ _ (sym assoc) (omega (arith, ints, clamps)) (omega (arith, ints, clamps))

pub products_append : (xs ys : List ℤ) → products_of (xs ++ ys) ≡ joined_products (products_of xs) (products_of ys)
products_append [] ys = sym (none_join (products_of ys) (ordered_of ys))
products_append (z ∷ xs) ys = ap (before z) (products_append xs ys) ∙ before_join z (products_of xs) (products_of ys) (ordered_of xs)

-- ---- products that are too far from 0 stay too far, unless multiplied by 0

pub far_behind : (a b : Products) → AreFar b → AreFar (joined_products a b)
far_behind a b h =
    record { as_they_are = omega (arith, ints, clamps); negated = omega (arith, ints, clamps) }

pub far_before : (a b : Products) → AreOrdered a → (b.total ≡ pos 0 → ⊥) → AreFar a → AreFar (joined_products a b)
far_before a b h some far =
    elim (stretched a.least a.greatest b.total some h.least_zero h.zero_greatest) [
      | inl same ↦ let low = same.0 in let high = same.1 in record { as_they_are = omega (arith, ints, clamps); negated = omega (arith, ints, clamps) }
      | inr other ↦ let low = other.0 in let high = other.1 in record { as_they_are = omega (arith, ints, clamps); negated = omega (arith, ints, clamps) }
    ]

all_zero : (a m b : Products) → b.total ≡ pos 0 → joined_products a b ≡ joined_products m b
all_zero a m b e = products_eq _ _ (same_times a.total m.total)
    (λ i. int_min b.least (int_min (same_times a.least m.least i) (same_times a.greatest m.greatest i)))
    (λ i. int_max b.greatest (int_max (same_times a.least m.least i) (same_times a.greatest m.greatest i)))
  where
    same_times : (x y : ℤ) → x *ℤ b.total ≡ y *ℤ b.total
    same_times x y = ap (λ t. x *ℤ t) e ∙ (omega (arith, ints)) ∙ sym (ap (λ t. y *ℤ t) e)

is_zero_or_not : (z : ℤ) → (z ≡ pos 0) ⊎ (z ≡ pos 0 → ⊥)
is_zero_or_not z = by_lt_z z (pos 0) (λ h. inr (λ e. omega (arith, ints)))
    (λ h. by_lt_z (pos 0) z (λ k. inr (λ e. omega (arith, ints))) (λ k. inl (omega (arith, ints))))

-- a part of the join of two stored values is a part of the join of the lists
pub tells_join : (a b s : Product) (m n : Products) → TellsProducts a m → TellsProducts b n → TellsProducts s (joined_products (kept_products a) (kept_products b)) → TellsProducts s (joined_products m n)
tells_join a b s m n h k j = record {
  ordered = ordered_join m n h.ordered k.ordered;
  sound = j.sound;
  below = j.below;
  above = j.above;
  is = elim k.is [
    | inl alike ↦ elim h.is [
      | inl same ↦ carried (λ i. joined_products (same i) (alike i))
      | inr far ↦ elim (is_zero_or_not n.total) [
        | inl zero ↦ carried (ap (joined_products (kept_products a)) alike ∙ all_zero (kept_products a) m n zero)
        | inr some ↦
            inr (
              far_before m n h.ordered some far.0,
              spread (far_before (kept_products a) (kept_products b) h.sound (λ e. some (sym (λ i. (alike i).total) ∙ e)) far.1),
            )
      ]
    ]
    | inr far ↦ inr (far_behind m n far.0, spread (far_behind (kept_products a) (kept_products b) far.1))
  ];
}
  where
    carried : joined_products (kept_products a) (kept_products b) ≡ joined_products m n → (kept_products s ≡ joined_products m n) ⊎ (AreFar (joined_products m n) × AreFar (kept_products s))
    carried e = elim j.is [
      | inl told_so ↦ inl (told_so ∙ e)
      | inr far ↦ inr (subst AreFar e far.0, far.1)
    ]

    spread : AreFar (joined_products (kept_products a) (kept_products b)) → AreFar (kept_products s)
    spread far = elim j.is [
      | inl told_so ↦ subst AreFar (sym told_so) far
      | inr both ↦ both.1
    ]

-- a far part also stands for any list that ends with its own
told_far : (b : Product) → (b.below ≡ 2 ^ 63) × (b.above ≡ 2 ^ 63) → AreFar (kept_products b)
told_far b h =
    record { as_they_are = omega (arith, ints, clamps); negated = omega (arith, ints, clamps) }

pub far_joined : (a b : Product) (m n : Products) → (b.below ≡ 2 ^ 63) × (b.above ≡ 2 ^ 63) → TellsProducts a m → TellsProducts b n → TellsProducts b (joined_products m n)
far_joined a b m n far h k =
    let both = told_far b far in
    tells_join a b b m n h k (record {
      ordered = ordered_join (kept_products a) (kept_products b) h.sound k.sound;
      sound = k.sound;
      below = k.below;
      above = k.above;
      is = inr (far_behind (kept_products a) (kept_products b) both, both);
    })
