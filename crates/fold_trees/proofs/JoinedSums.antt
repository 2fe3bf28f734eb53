-- Suffix sums join as their lists do, and so do their parts.
use Rattle.std.{proofs.Common.{◌≡◌, ap, sym, subst, ◌∙◌, arith, inl, inr, List, [], ◌∷◌, ◌++◌, ℤ}, proofs.lemmas.Int.{ints, clamps}}
use Rattle.fold_trees.{specs.declared.summary.Summary.{Summary}, specs.Sums.{Sums, sums_of_none, sums_of, single, join, IsOrdered, told_sums, IsFar, IsSummaryOf}}

pub sums_eq : (a b : Sums) → a.total ≡ b.total → a.least ≡ b.least → a.greatest ≡ b.greatest → a ≡ b
sums_eq a b e f g = λ i. record { total = e i; least = f i; greatest = g i }

pub join_assoc : (a b c : Sums) → join (join a b) c ≡ join a (join b c)
join_assoc a b c = sums_eq _ _ (omega (arith, ints)) (omega (arith, ints, clamps)) (omega (arith, ints, clamps))

pub join_none : (s : Sums) → IsOrdered s → join s sums_of_none ≡ s
join_none s h = sums_eq _ _ (omega (arith, ints)) (omega (arith, ints, clamps)) (omega (arith, ints, clamps))

pub none_join : (s : Sums) → IsOrdered s → join sums_of_none s ≡ s
none_join s h = sums_eq _ _ (omega (arith, ints)) (omega (arith, ints, clamps)) (omega (arith, ints, clamps))

pub ordered_join : (a b : Sums) → IsOrdered a → IsOrdered b → IsOrdered (join a b)
ordered_join a b h k =
    record {
      least_total = omega (arith, ints, clamps);
      total_greatest = omega (arith, ints, clamps);
      least_zero = omega (arith, ints, clamps);
      zero_greatest = omega (arith, ints, clamps);
    }

pub ordered_single : (z : ℤ) → IsOrdered (single z)
ordered_single z = record {
  least_total = omega (arith, ints, clamps);
  total_greatest = omega (arith, ints, clamps);
  least_zero = omega (arith, ints, clamps);
  zero_greatest = omega (arith, ints, clamps);
}

pub ordered_none : IsOrdered sums_of_none
ordered_none = record { least_total = omega (arith, ints); total_greatest = omega (arith, ints); least_zero = omega (arith, ints); zero_greatest = omega (arith, ints) }

-- a range that is too wide stays too wide
pub far_before : (a b : Sums) → IsFar a → IsFar (join a b)
far_before a b h = omega (arith, ints, clamps)

pub far_behind : (a b : Sums) → IsFar b → IsFar (join a b)
far_behind a b h = omega (arith, ints, clamps)

-- a part of the join of two stored values is a part of the join of the lists
pub tells_join : (a b s : Summary) (m n : Sums) → IsSummaryOf a m → IsSummaryOf b n → IsSummaryOf s (join (told_sums a) (told_sums b)) → IsSummaryOf s (join m n)
tells_join a b s m n h k j = record {
  ordered = ordered_join m n h.ordered k.ordered;
  sound = j.sound;
  is = elim h.is [
    | inl same ↦ elim k.is [
      | inl alike ↦ elim j.is [
        | inl told_so ↦ inl (told_so ∙ (λ i. join (same i) (alike i)))
        | inr far ↦ inr (subst IsFar (λ i. join (same i) (alike i)) far.0, far.1)
      ]
      | inr far ↦ inr (far_behind m n far.0, spread (far_behind (told_sums a) (told_sums b) far.1))
    ]
    | inr far ↦ inr (far_before m n far.0, spread (far_before (told_sums a) (told_sums b) far.1))
  ];
}
  where
    spread : IsFar (join (told_sums a) (told_sums b)) → IsFar (told_sums s)
    spread far = elim j.is [
      | inl told_so ↦ subst IsFar (sym told_so) far
      | inr both ↦ both.1
    ]

-- ---- the sums of a list

pub ordered_of : (xs : List ℤ) → IsOrdered (sums_of xs)
ordered_of [] = ordered_none
ordered_of (z ∷ rest) = ordered_join (single z) (sums_of rest) (ordered_single z) (ordered_of rest)

-- the sums of two lists joined
pub sums_append : (xs ys : List ℤ) → sums_of (xs ++ ys) ≡ join (sums_of xs) (sums_of ys)
sums_append [] ys = sym (none_join (sums_of ys) (ordered_of ys))
sums_append (z ∷ rest) ys = ap (join (single z)) (sums_append rest ys) ∙ sym (join_assoc (single z) (sums_of rest) (sums_of ys))
