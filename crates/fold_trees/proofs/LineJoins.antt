-- The parts that are joined for a place of a line, one for each width.
use Rattle.std.{proofs.Common.{◌≡◌, ℕ, suc, ◌+◌, ◌*◌, ◌/◌, ◌%◌, ◌^◌, ◌<◌, ◌≤◌, ◌++◌, ◌∷◌, [], ℤ, List, length, get_or, sym, subst, arith, inl, inr}, proofs.lemmas.Bool.{cases_lt, cases_eq}, proofs.lemmas.List.{length-append, get_or_append_left, get_or_push}}
use Rattle.fold_trees.{specs.LineTrees.{numbers_of_block, block_up}, proofs.Halves.{half_below}, proofs.LineParts.{IsClimb, odd_block, even_block}}

-- each part stands for the numbers of its block
abbrev pub AreTold : {P : Type 0} → (P → List ℤ → Type 0) → (count : ℕ) → (ℕ → ℤ) → (place : ℕ) → List P → Type 0
AreTold {P = P} tells count x place parts =
    (level : ℕ) (blank : P) → level < length parts → tells (get_or parts level blank) (numbers_of_block count x (block_up place (suc level)) (2 ^ suc level))

pub told_more : {P : Type 0} (tells : P → List ℤ → Type 0) (count : ℕ) (x : ℕ → ℤ) (place : ℕ) (parts : List P) (s : P) → AreTold tells count x place parts
    → tells s (numbers_of_block count x (block_up place (length parts) / 2) (2 * 2 ^ length parts)) → AreTold tells count x place (parts ++ s ∷ [])
told_more tells count x place parts s each told level blank below = elim (cases_lt level (length parts)) [
  | inl less ↦
      subst (λ p. tells p (numbers_of_block count x (block_up place (suc level)) (2 ^ suc level))) (sym (get_or_append_left parts (s ∷ []) blank level less)) (each level blank less)
  | inr enough ↦
      let is : level ≡ length parts = omega (arith, length-append parts (s ∷ []), below, enough) in
      subst (λ p. tells p (numbers_of_block count x (block_up place (suc level)) (2 ^ suc level))) (sym (get_or_push parts s blank level (sym is)))
      (subst (λ k. tells s (numbers_of_block count x (block_up place (suc k)) (2 ^ suc k))) (sym is)
      (subst (λ w. tells s (numbers_of_block count x (block_up place (length parts) / 2) w)) (grind arith) told))
]

-- a width below the count is the width of one of the parts
pub level_below : (level digits count : ℕ) → 2 ^ level < count → count ≤ 2 ^ digits → level < digits
level_below level digits count more enough = half_below level digits (omega (arith, more, enough))

-- the halves of the part twice as wide as a block meet within the block or at its end
module _ (place block width : ℕ) (climb : IsClimb place block width) where
  pub meeting_near : (block / 2 * 2 + 1) * width ≤ place + width
  meeting_near =
      let is : (block / 2 * 2 + 1) * width ≡ 2 * (block / 2 * width) + width = grind arith in
      elim (cases_eq (block % 2) 0) [
        | inl even ↦ let at = even_block block width even in omega (arith, is, at.0, climb.low)
        | inr odd ↦
            omega (arith, is, (odd_block block width (omega (arith, odd))).0, climb.low)
      ]

  -- a line that does not reach the meeting ends with the block
  pub ends_here : (count : ℕ) → place < count → count ≤ (block / 2 * 2 + 1) * width → (block % 2 ≡ 0) × (count ≤ block * width + width)
  ends_here count inside short =
      let is : (block / 2 * 2 + 1) * width ≡ 2 * (block / 2 * width) + width = grind arith in
      elim (cases_eq (block % 2) 0) [
        | inl even ↦ let at = even_block block width even in (even, omega (arith, is, at.0, short))
        | inr odd ↦
            let no : ⊥ = omega (arith, is, (odd_block block width (omega (arith, odd))).0, climb.low, inside, short) in
            absurd no
      ]
