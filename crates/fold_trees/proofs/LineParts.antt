-- The parts of a line of numbers, and the steps from a place to the whole line.
use Rattle.std.{proofs.Common.{◌≡◌, ◌≢◌, ◌∙◌, ℕ, ℤ, zero, suc, ◌+◌, ◌-◌, ◌*◌, ◌/◌, ◌%◌, ◌^◌, ◌<◌, ◌≤◌, ◌++◌, ◌∷◌, [], List, ◌⊎◌, min, refl, ap, sym, subst, arith, inl, inr}, specs.Int.{IsNextPowerOfTwo}, proofs.lemmas.Bool.{cases_lt, cases_eq, eq-eqb, ne_eqb, cond-true, cond-false}}
use Rattle.fold_trees.{specs.LineTrees.{IsPart, other_half, AreSameIn, replaced, segment, numbers_of_block}, proofs.Halves.{half_up, half_grows, half_doubled, half_below, half_times}, proofs.Segments.{segment_split}}

-- ---- the beginning of a part

-- the least part with this many numbers, at the beginning of a part
pub record IsLeast (from width long p : ℕ) : Type 0 where
  pub level : ℕ
  pub place : ℕ
  pub power : p ≡ 2 ^ level
  pub from_is : from ≡ place * 2 ^ level
  pub enough : long ≤ p
  pub within : p ≤ width

pub least_part : (from width long p : ℕ) → IsPart from width → 1 ≤ long → long ≤ width → IsNextPowerOfTwo long p → IsLeast from width long p
least_part from width long p part some few next = elim (cases_lt part.level next.0.0) [
  | inl above ↦ let no : ⊥ = omega (arith, half_doubled part.level next.0.0 above, next.0.1, next.2, few, part.width_is) in absurd no
  | inr within ↦ record {
    level = next.0.0;
    place = part.place * 2 ^ (part.level - next.0.0);
    power = next.0.1;
    from_is = part.from_is ∙ ap (λ k. part.place * k) (half_times next.0.0 part.level within) ∙ grind arith;
    enough = next.1;
    within = omega (arith, half_grows next.0.0 part.level within, next.0.1, part.width_is);
  }
]

-- a power of two that has a half
pub half_level : (level p : ℕ) → p ≡ 2 ^ level → 2 ≤ p → (less : ℕ) × (p ≡ 2 * 2 ^ less)
half_level zero p is some = let no : ⊥ = omega (arith, is, some) in absurd no
half_level (suc less) p is some = let double : 2 ^ suc less ≡ 2 * 2 ^ less = grind arith in (less, is ∙ double)

-- ---- a part and the one twice as wide

-- the beginning of the wider part
pub odd_block : (block width : ℕ) → block % 2 ≡ 1 → (block * width ≡ 2 * (block / 2 * width) + width) × (other_half block * width ≡ 2 * (block / 2 * width)) × (block / 2 * (2 * width) ≡ 2 * (block / 2 * width))
odd_block block width odd =
    let half = block / 2 in
    let is : block ≡ 2 * half + 1 = omega (arith, odd) in
    let before : block - 1 ≡ 2 * half = omega (arith, odd) in
    (ap (λ b. b * width) is ∙ grind arith, ap (λ b. b * width) (cond-false _ _ _ (ne_eqb (block % 2) 0 (λ e. let no : ⊥ = omega (arith, e, odd) in no)) ∙ before) ∙ grind arith, grind arith)

pub even_block : (block width : ℕ) → block % 2 ≡ 0 → (block * width ≡ 2 * (block / 2 * width)) × (other_half block * width ≡ 2 * (block / 2 * width) + width) × (block / 2 * (2 * width) ≡ 2 * (block / 2 * width))
even_block block width even =
    let half = block / 2 in
    let is : block ≡ 2 * half = omega (arith, even) in
    let behind : block + 1 ≡ 2 * half + 1 = omega (arith, even) in
    (ap (λ b. b * width) is ∙ grind arith, ap (λ b. b * width) (cond-true _ _ _ (eq-eqb (block % 2) 0 even) ∙ behind) ∙ grind arith, grind arith)

-- the numbers of a part and of the one twice as wide
module _ (count : ℕ) (x : ℕ → ℤ) (block width : ℕ) where
  pub widen_odd : block % 2 ≡ 1 → block * width < count
      → segment x (block * width - width) (min width (count - (block * width - width))) ++ numbers_of_block count x block width ≡ numbers_of_block count x (block / 2) (2 * width)
  widen_odd odd below =
      let at = odd_block block width odd in
      let start = block / 2 * (2 * width) in
      let first : block * width - width ≡ start = omega (arith, at.0, at.2) in
      let whole : min width (count - (block * width - width)) ≡ width = omega (arith, at.0, below) in
      let next : block * width ≡ start + width = omega (arith, at.0, at.2) in
      let all : width + min width (count - block * width) ≡ min (2 * width) (count - start) = omega (arith, at.0, at.2, below) in
      (λ i. segment x (first i) (whole i) ++ segment x (next i) (min width (count - block * width)))
      ∙ sym (segment_split x start width (min width (count - block * width)))
      ∙ ap (segment x start) all

  pub widen_even : block % 2 ≡ 0 → block * width + width < count
      → numbers_of_block count x block width ++ segment x (block * width + width) (min width (count - (block * width + width))) ≡ numbers_of_block count x (block / 2) (2 * width)
  widen_even even below =
      let at = even_block block width even in
      let start = block / 2 * (2 * width) in
      let first : block * width ≡ start = omega (arith, at.0, at.2) in
      let whole : min width (count - block * width) ≡ width = omega (arith, below) in
      let next : block * width + width ≡ start + width = omega (arith, at.0, at.2) in
      (λ i. segment x (first i) (whole i) ++ segment x (next i) (min width (count - (block * width + width))))
      ∙ sym (segment_split x start width (min width (count - (block * width + width))))
      ∙ ap (segment x start) (omega (arith, at.0, at.2, below))

  pub widen_alone : block % 2 ≡ 0 → block * width < count → count ≤ block * width + width → numbers_of_block count x block width ≡ numbers_of_block count x (block / 2) (2 * width)
  widen_alone even some last =
      let at = even_block block width even in
      let start = block / 2 * (2 * width) in
      let first : block * width ≡ start = omega (arith, at.0, at.2) in
      let all : min width (count - block * width) ≡ min (2 * width) (count - start) = omega (arith, at.0, at.2, some, last) in
      λ i. segment x (first i) (all i)

-- ---- the steps from a place to the whole line

-- the block of the place at this step
pub record IsClimb (place block width : ℕ) : Type 0 where
  pub level : ℕ
  pub width_is : width ≡ 2 ^ level
  pub low : block * width ≤ place
  pub high : place < block * width + width

pub climb_start : (place : ℕ) → IsClimb place place 1
climb_start place = record { level = 0; width_is = refl; low = grind arith; high = grind arith }

pub climb_up : (place block width : ℕ) → IsClimb place block width → IsClimb place (block / 2) (2 * width)
climb_up place block width climb = record { level = suc climb.level; width_is = ap (λ w. 2 * w) climb.width_is ∙ grind arith; low = within.0; high = within.1 }
  where
    within : (block / 2 * (2 * width) ≤ place) × (place < block / 2 * (2 * width) + 2 * width)
    within = elim (cases_eq (block % 2) 0) [
      | inl even ↦ let at = even_block block width even in (omega (arith, at.0, at.2, climb.low), omega (arith, at.0, at.2, climb.high))
      | inr odd ↦
          let at = odd_block block width (omega (arith, odd)) in
          (omega (arith, at.0, at.2, climb.low), omega (arith, at.0, at.2, climb.high))
    ]

pub level_up : (place block width : ℕ) (climb : IsClimb place block width) → (climb_up place block width climb).level ≡ suc climb.level
unfolding climb_up
level_up place block width climb = refl

-- at the last step the block is the whole line
pub climb_end : (count place block width : ℕ) → IsClimb place block width → place < count → count ≤ width → block ≡ 0
climb_end count place zero width climb h wide = refl
climb_end count place (suc block) width climb h wide =
    let more : suc block * width ≡ block * width + width = grind arith in
    let no : ⊥ = omega (arith, more, climb.low, h, wide) in
    absurd no

-- there are at most as many levels as the count less one has binary digits
pub levels_within : (level digits count : ℕ) → 2 ^ level < 2 * count → count - 1 < 2 ^ digits → level ≤ digits
levels_within level digits count few enough = omega (arith, half_below level (suc digits) (omega (arith, few, enough, half_up digits)))

-- the block of the place alone
pub told_place : {P : Type 0} (tells : P → List ℤ → Type 0) (count place : ℕ) (x : ℕ → ℤ) (s : P) (z : ℤ) → place < count → z ≡ x place → tells s (z ∷ [])
    → tells s (numbers_of_block count x place 1)
told_place tells count place x s z inside is told =
    let start : place * 1 ≡ place = omega arith in
    let one : min 1 (count - place * 1) ≡ 1 = omega (arith, inside) in
    subst (tells s) (ap (λ y. y ∷ []) is ∙ sym (λ i. segment x (start i) (one i))) told

-- at the last step the block has all numbers
pub told_all : {P : Type 0} (tells : P → List ℤ → Type 0) (count place block width : ℕ) (x : ℕ → ℤ) (s : P) → IsClimb place block width → place < count → count ≤ width
    → tells s (numbers_of_block count x block width) → tells s (segment x 0 count)
told_all tells count place block width x s climb inside wide told =
    let start : block * width ≡ 0 = ap (λ b. b * width) (climb_end count place block width climb inside wide) ∙ grind arith in
    let all : min width (count - block * width) ≡ count = omega (arith, start, wide) in
    subst (tells s) (λ i. segment x (start i) (all i)) told

-- a block without a join has one place, or the line ends with it
pub alone_up : (count place block width : ℕ) → (block * width ≡ place) × (width ≡ 1 ⊎ count ≤ place + 1) → (block % 2 ≡ 0) × (count ≤ block * width + width)
    → (block / 2 * (2 * width) ≡ place) × (2 * width ≡ 1 ⊎ count ≤ place + 1)
alone_up count place block width nothing alone =
    let at = even_block block width alone.0 in (
      omega (arith, at.0, at.2, nothing.0),
      inr (elim nothing.1 [
        | inl one ↦ omega (arith, one, alone.1, nothing.0)
        | inr last ↦ last
      ]),
    )

-- the number at the place, and those at others
pub replaced_here : (x : ℕ → ℤ) (place : ℕ) (z : ℤ) → replaced x place z place ≡ z
replaced_here x place z = cond-true _ _ _ (eq-eqb place place refl)

pub replaced_other : (x : ℕ → ℤ) (place : ℕ) (z : ℤ) (i : ℕ) → i ≢ place → replaced x place z i ≡ x i
replaced_other x place z i h = cond-false _ _ _ (ne_eqb i place h)

-- the other half has no number of the block
pub other_half_same : (place block width : ℕ) (x : ℕ → ℤ) (z : ℤ) → IsClimb place block width → AreSameIn (other_half block * width) width x (replaced x place z)
other_half_same place block width x z climb i low high = sym (replaced_other x place z i apart)
  where
    apart : i ≢ place
    apart e = elim (cases_eq (block % 2) 0) [
      | inl even ↦ let at = even_block block width even in omega (arith, at.0, at.1, low, high, e, climb.low, climb.high)
      | inr odd ↦
          let at = odd_block block width (omega (arith, odd)) in
          omega (arith, at.0, at.1, low, high, e, climb.low, climb.high)
    ]
