-- The extension of two arrays to their common shape.
use Rattle.std.{proofs.Common.{◌≡◌, ℕ, Bool, true, false, cond, eqb, List, refl, ◌⊎◌, inl, inr, Ok, Err, bytes_eq}, proofs.lemmas.Bool.{eqb-true}, proofs.lemmas.Slice.Eq.{bytes_eq-Decides}}
use Rattle.arrays_core.{specs.declared.item.Kind.{Kind}, specs.Shapes.{size}}
use Rattle.scalar_fns.specs.ScalarExtension.{common}

-- an array has one item or the common shape
pub record ExtendsTo (s shape : List ℕ) : Type 0 where
  pub either : (size s ≡ 1) ⊎ (s ≡ shape)

both_extend : (a b shape : List ℕ) (one_a one_b long same : Bool) (other : List ℕ) (e f : Kind) → eqb (size a) 1 ≡ one_a → eqb (size b) 1 ≡ one_b
    → (same ≡ true → a ≡ b)
    → cond one_a (Ok (cond one_b other b)) (cond one_b (Ok a) (cond long (cond same (Ok a) (Err e)) (Err f))) ≡ Ok shape
    → ExtendsTo a shape × ExtendsTo b shape
both_extend a b shape true true long same other e f p q s h = (record { either = inl (eqb-true (size a) 1 p) }, record { either = inl (eqb-true (size b) 1 q) })
both_extend a b shape true false long same other e f p q s h = (record { either = inl (eqb-true (size a) 1 p) }, record { either = inr (cc) })
both_extend a b shape false true long same other e f p q s h = (record { either = inr (cc) }, record { either = inl (eqb-true (size b) 1 q) })
both_extend a b shape false false true true other e f p q s h = let t = s refl in (record { either = inr (cc) }, record { either = inr (cc) })
both_extend a b shape false false true false other e f p q s h = cc
both_extend a b shape false false false same other e f p q s h = cc

pub common_extends : (a b shape : List ℕ) → common a b ≡ Ok shape → ExtendsTo a shape × ExtendsTo b shape
common_extends a b shape h = both_extend a b shape _ _ _ (bytes_eq a b) _ _ _ refl refl (bytes_eq-Decides a b).0 h
