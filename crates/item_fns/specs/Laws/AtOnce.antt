-- The laws of the functions whose folds take one pass.
use Rattle.std.{proofs.Common.{◌≡◌, ℕ, ◌+◌, ◌<◌, ◌≤◌, refl, ap, sym, ◌∙◌, subst, arith, ltb, ◌^◌, ℤ, pos, negsuc, ◌+ℤ◌, Result, Bool, true, false, ◌&&◌, ◌||◌, not, Ok, w64, SFits}, specs.Int.{int_bit_and, int_bit_or, int_bit_xor, int_max, int_min, int_wrapping_add}, proofs.lemmas.Int.{ints, clamps, wrapping_add_is, int_wrap_fits}, proofs.lemmas.Bool.{lt-ltb}}
use Rattle.arrays_core.specs.declared.item.Kind.{Kind}
use Rattle.function_names.specs.declared.scalar.Scalar2.TheVariants.{Plus, Maximum, Minimum, NotEqual, Equal, And, Or}
use Rattle.item_fns.specs.{Numbers.{dyadic_on_numbers, number_or_limit, truth}, AtOnce.{IsAtOnce, IsNear, IsTruth, IsSum, IsAny, int_bit_same}}

pub near_fits : (z : ℤ) → IsNear 9223372036854775807 z → SFits w64 z
near_fits (pos n) h = record { sfits = omega (arith, ints, h.low, h.high) }
near_fits (negsuc n) h = record { sfits = omega (arith, ints, h.low, h.high) }

held : (z : ℤ) → SFits w64 z → number_or_limit z ≡ Ok z
held (pos n) f = let inside : ltb n (2 ^ 63) ≡ true = lt-ltb n (2 ^ 63) f.sfits in rw inside refl
held (negsuc n) f = let inside : ltb n (2 ^ 63) ≡ true = lt-ltb n (2 ^ 63) f.sfits in rw inside refl

-- a sum that fits is the wrapping sum
pub near_sum : (a b : ℤ) → SFits w64 a → SFits w64 b → SFits w64 (a +ℤ b) → int_wrapping_add w64 a b ≡ a +ℤ b
near_sum a b f g h = wrapping_add_is w64 a b f g ∙ int_wrap_fits w64 (a +ℤ b) h

-- the sums of n numbers fit
pub sum_fits : (n : ℕ) (z : ℤ) → n < 2097152 → IsSum n z → SFits w64 z
sum_fits n z few h = near_fits z (record { low = omega (arith, ints, h.low); high = omega (arith, ints, h.high) })

record Added (m n : ℕ) (a b : ℤ) : Type 0 where
  is : int_wrapping_add w64 a b ≡ a +ℤ b
  near : IsSum (m + n) (a +ℤ b)

added : (m n : ℕ) (a b : ℤ) → m + n ≤ 1048576 → IsSum m a → IsSum n b → Added m n a b
added m n a b few h k =
    let near : IsSum (m + n) (a +ℤ b) = record { low = omega (arith, ints, h.low, k.low); high = omega (arith, ints, h.high, k.high) } in
    record { is = near_sum a b (sum_fits m a (omega arith) h) (sum_fits n b (omega arith) k) (sum_fits (m + n) (a +ℤ b) (omega arith) near); near = near }

pub sums : IsAtOnce (dyadic_on_numbers Plus) (int_wrapping_add w64) IsSum
sums = record {
  gives = λ m n a b few h k. let s = added m n a b few h k in held (a +ℤ b) (sum_fits (m + n) (a +ℤ b) (omega arith) s.near) ∙ ap Ok (sym s.is);
  keeps = λ m n a b few h k. let s = added m n a b few h k in subst (IsSum (m + n)) (sym s.is) s.near;
  joins = λ k m n a b c few h i j.
      let left = added k m a b (omega arith) h i in
      let right = added m n b c (omega arith) i j in
      let e : a +ℤ b +ℤ c ≡ a +ℤ (b +ℤ c) = omega (arith, ints) in
      ap (λ z. int_wrapping_add w64 z c) left.is
      ∙ (added (k + m) n (a +ℤ b) c few left.near j).is
      ∙ e
      ∙ sym ((added k (m + n) a (b +ℤ c) (omega arith) h right.near).is)
      ∙ ap (int_wrapping_add w64 a) (sym right.is);
}

-- functions of truth values
module _ (f : ℤ → ℤ → Result ℤ Kind) (plain : ℤ → ℤ → ℤ) (g : Bool → Bool → Bool) where
  pub truths : ((p q : Bool) → f (truth p) (truth q) ≡ Ok (truth (g p q))) → ((p q : Bool) → plain (truth p) (truth q) ≡ truth (g p q)) → ((p q r : Bool) → g (g p q) r ≡ g p (g q r))
      → IsAtOnce f plain (λ n. IsTruth)
  truths gives is joins =
      let both : (a b : ℤ) (h : IsTruth a) (k : IsTruth b) → plain a b ≡ truth (g h.value k.value) = λ a b h k. (λ i. plain (h.is i) (k.is i)) ∙ is h.value k.value in
      record {
        gives = λ m n a b few h k. (λ i. f (h.is i) (k.is i)) ∙ gives h.value k.value ∙ ap Ok (sym (both a b h k));
        keeps = λ m n a b few h k. record { value = g h.value k.value; is = both a b h k };
        joins = λ l m n a b c few h i j.
            (λ x. plain (both a b h i x) (j.is x))
            ∙ is (g h.value i.value) j.value
            ∙ ap truth (joins h.value i.value j.value)
            ∙ sym (is h.value (g i.value j.value))
            ∙ (λ x. plain (sym h.is x) (sym (both b c i j) x));
      }

and_joins : (p q r : Bool) → ((p && q) && r) ≡ (p && (q && r))
and_joins true q r = refl
and_joins false q r = refl

or_joins : (p q r : Bool) → ((p || q) || r) ≡ (p || (q || r))
or_joins true q r = refl
or_joins false q r = refl

pub both_true : IsAtOnce (dyadic_on_numbers And) (int_bit_and w64) (λ n. IsTruth)
both_true = truths _ _ (λ p q. p && q) (elim [ true ↦ elim [ true ↦ refl | false ↦ refl ] | false ↦ elim [ true ↦ refl | false ↦ refl ] ]) (elim [ true ↦ elim [ true ↦ refl | false ↦ refl ] | false ↦ elim [ true ↦ refl | false ↦ refl ] ]) and_joins

pub any_true : IsAtOnce (dyadic_on_numbers Or) (int_bit_or w64) (λ n. IsTruth)
any_true = truths _ _ (λ p q. p || q) (elim [ true ↦ elim [ true ↦ refl | false ↦ refl ] | false ↦ elim [ true ↦ refl | false ↦ refl ] ]) (elim [ true ↦ elim [ true ↦ refl | false ↦ refl ] | false ↦ elim [ true ↦ refl | false ↦ refl ] ]) or_joins

abbrev differs : Bool → Bool → Bool
differs true q = not q
differs false q = q

differs_joins : (p q r : Bool) → differs (differs p q) r ≡ differs p (differs q r)
differs_joins true true true = refl
differs_joins true true false = refl
differs_joins true false r = refl
differs_joins false q r = refl

pub differ : IsAtOnce (dyadic_on_numbers NotEqual) (int_bit_xor w64) (λ n. IsTruth)
differ = truths _ _ differs (elim [ true ↦ elim [ true ↦ refl | false ↦ refl ] | false ↦ elim [ true ↦ refl | false ↦ refl ] ]) (elim [ true ↦ elim [ true ↦ refl | false ↦ refl ] | false ↦ elim [ true ↦ refl | false ↦ refl ] ]) differs_joins

abbrev equals : Bool → Bool → Bool
equals true q = q
equals false q = not q

equals_joins : (p q r : Bool) → equals (equals p q) r ≡ equals p (equals q r)
equals_joins true q r = refl
equals_joins false true r = refl
equals_joins false false true = refl
equals_joins false false false = refl

pub agree : IsAtOnce (dyadic_on_numbers Equal) int_bit_same (λ n. IsTruth)
agree = truths _ _ equals (elim [ true ↦ elim [ true ↦ refl | false ↦ refl ] | false ↦ elim [ true ↦ refl | false ↦ refl ] ]) (elim [ true ↦ elim [ true ↦ refl | false ↦ refl ] | false ↦ elim [ true ↦ refl | false ↦ refl ] ]) equals_joins

pub greatest : IsAtOnce (dyadic_on_numbers Maximum) int_max IsAny
greatest = record { gives = λ m n a b few h k. refl; keeps = λ m n a b few h k. tt; joins = λ k m n a b c few h i j. omega (arith, ints, clamps) }

pub least : IsAtOnce (dyadic_on_numbers Minimum) int_min IsAny
least = record { gives = λ m n a b few h k. refl; keeps = λ m n a b few h k. tt; joins = λ k m n a b c few h i j. omega (arith, ints, clamps) }
