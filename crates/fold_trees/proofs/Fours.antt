-- The parts of the next four numbers of a line.
use Rattle.std.{proofs.Common.{◌≡◌, ◌∙◌, ℕ, ℤ, List, zero, suc, ◌+◌, ◌-◌, ◌*◌, ◌/◌, ◌%◌, ◌^◌, ◌<◌, ◌≤◌, ◌⊎◌, min, get_or, ap, sym, subst, arith, inl, inr}, proofs.lemmas.Bool.{cases_lt, cases_eq}, proofs.lemmas.Nat.{pow_pos, mul-le}}
use Rattle.fold_trees.{specs.declared.line.Line.{Line}, specs.LineTrees.{nth_node, slot_of, segment, node_of, ArePartsKeptIn, ArePartsKeptUpTo, AreFourKept}, specs.LineBlocks.{line_of, ArePartsKeptBehind, ArePartsKeptFrom}, proofs.BlockRows.{line_node}}

module _ {P : Type 0} (tells : P → List ℤ → Type 0) (from count : ℕ) (x : ℕ → ℤ) (n : ℕ → P) (four : from % 4 ≡ 0) (full : from + 4 ≤ count) (told : AreFourKept tells x n from) where
  -- a part at one of the three meetings
  told_at : (level place start long : ℕ) → place * (2 * 2 ^ level) ≡ start → 2 * 2 ^ level ≡ long → start + long ≤ from + 4 → tells (n (start + long / 2)) (segment x start long)
      → tells (n (place * (2 * 2 ^ level) + 2 ^ level)) (segment x (place * (2 * 2 ^ level)) (min (2 * 2 ^ level) (count - place * (2 * 2 ^ level))))
  told_at level place start long begins wide ends told =
      let meeting : place * (2 * 2 ^ level) + 2 ^ level ≡ start + long / 2 = omega (arith, begins, wide) in
      let most : min (2 * 2 ^ level) (count - place * (2 * 2 ^ level)) ≡ long = omega (arith, begins, wide, ends, full) in
      subst (λ k. tells (n k) (segment x (place * (2 * 2 ^ level)) (min (2 * 2 ^ level) (count - place * (2 * 2 ^ level))))) (sym meeting)
      (subst (tells (n (start + long / 2))) (sym (λ i. segment x (begins i) (most i))) told)

  pub four_within : ArePartsKeptIn tells from 4 count x n
  four_within level place low high inside = by level low high
    where
      by : (level : ℕ) → from ≤ place * (2 * 2 ^ level) → place * (2 * 2 ^ level) + 2 * 2 ^ level ≤ from + 4
          → tells (n (place * (2 * 2 ^ level) + 2 ^ level)) (segment x (place * (2 * 2 ^ level)) (min (2 * 2 ^ level) (count - place * (2 * 2 ^ level))))
      by zero low high = elim (cases_eq (place * 2) from) [
        | inl e ↦ told_at zero place from 2 e (omega arith) (omega arith) told.first
        | inr other ↦
            told_at zero place (from + 2) 2 (omega (arith, low, high, other, four)) (omega arith) (omega arith)
            (subst (λ k. tells (n k) (segment x (from + 2) 2)) (omega arith) told.last)
      ]
      by (suc zero) low high = told_at (suc zero) place from 4 (omega (arith, low, high)) (omega arith) (omega arith) told.all
      by (suc (suc more)) low high =
          let power : 2 ^ suc (suc more) ≡ 4 * 2 ^ more = grind arith in
          let no : ⊥ = omega (arith, pow_pos more, power, low, high) in
          absurd no

-- ---- appended to the nodes of a contiguous line

-- the earlier nodes stay correct, and the new ones are
pub four_more : {P : Type 0} (tells : P → List ℤ → Type 0) (from count : ℕ) (x : ℕ → ℤ) (m n : ℕ → P) → from % 4 ≡ 0 → from + 4 ≤ count → ((meeting : ℕ) → 1 ≤ meeting → meeting < from + 1 → n meeting ≡ m meeting)
    → AreFourKept tells x n from → ArePartsKeptIn tells 0 from count x m → ArePartsKeptUpTo tells (from + 4) 4 count x n
four_more tells from count x m n four full same told kept level place which inside = elim (cases_lt from (place * (2 * 2 ^ level) + 2 * 2 ^ level)) [
  | inl behind ↦ four_within tells from count x n four full told level place (begins level behind which) (ends which) inside
  | inr before ↦
      let p = pow_pos level in
      rw (same (place * (2 * 2 ^ level) + 2 ^ level) (omega (arith, p)) (omega (arith, before, p))) (kept level place (omega arith) (omega (arith, before)) inside)
]
  where
    ends : (place * (2 * 2 ^ level) + 2 * 2 ^ level < from + 4 ⊎ place * (2 * 2 ^ level) + 2 * 2 ^ level ≡ from + 4 × 2 * 2 ^ level ≤ 4) → place * (2 * 2 ^ level) + 2 * 2 ^ level ≤ from + 4
    ends which = elim which [
      | inl before ↦ omega (arith, before)
      | inr here ↦ omega (arith, here.0)
    ]

    begins : (level : ℕ) → from < place * (2 * 2 ^ level) + 2 * 2 ^ level → (place * (2 * 2 ^ level) + 2 * 2 ^ level < from + 4 ⊎ place * (2 * 2 ^ level) + 2 * 2 ^ level ≡ from + 4 × 2 * 2 ^ level ≤ 4)
        → from ≤ place * (2 * 2 ^ level)
    begins zero behind which = omega (arith, behind, four)
    begins (suc more) behind which = elim which [
      | inl before ↦
          let power : 2 ^ suc more ≡ 2 * 2 ^ more = grind arith in
          let e : place * (2 * 2 ^ suc more) + 2 * 2 ^ suc more ≡ 4 * (place * 2 ^ more + 2 ^ more) = ap (λ u. place * (2 * u) + 2 * u) power ∙ grind arith in
          let no : ⊥ = omega (arith, e, before, behind, four) in
          absurd no
      | inr here ↦ omega (arith, here.0, here.1)
    ]

-- ---- written in front of the nodes of each line of a block

module _ {P : Type 0} (blank : P) (tells : P → List ℤ → Type 0) (from : ℕ) (first : Line) (slots : List ℤ) (nodes : List P) (four : from % 4 ≡ 0) (kept : ArePartsKeptFrom blank tells (from + 4) first slots nodes) where
  -- a part wider than two that begins fewer than four places further begins here
  narrow : (level place : ℕ) → place * (2 * 2 ^ suc level) < from + 4 → from ≤ place * (2 * 2 ^ suc level) → place * (2 * 2 ^ suc level) ≡ from
  narrow level place below low =
      let power : 2 ^ suc level ≡ 2 * 2 ^ level = grind arith in
      let e : place * (2 * 2 ^ suc level) ≡ 4 * (place * 2 ^ level) = ap (λ u. place * (2 * u)) power ∙ grind arith in
      omega (arith, e, below, low, four)

  -- other parts stay correct, and the later nodes stay
  pub four_before : (after : List P) → from + 4 ≤ first.count
      → ((p : ℕ) → (p < nth_node first (from + 1) ⊎ nth_node first (from + 3) + first.step ≤ p) → get_or after p blank ≡ get_or nodes p blank)
      → ((column : ℕ) → column < first.step → AreFourKept tells (slot_of (line_of first column) slots) (node_of blank (line_of first column) after) from)
      → ArePartsKeptBehind blank tells from 4 first slots after
  four_before after full others told column below level place which inside = elim (cases_lt (place * (2 * 2 ^ level)) (from + 4)) [
    | inl before ↦
        four_within tells from first.count (slot_of (line_of first column) slots) (node_of blank (line_of first column) after) four full (told column below) level place begins (ends level before which) inside
    | inr later ↦
        rw (stays (place * (2 * 2 ^ level) + 2 ^ level) (omega (arith, later, pow_pos level))) (kept column below level place later inside)
  ]
    where
      begins : from ≤ place * (2 * 2 ^ level)
      begins = elim which [
        | inl behind ↦ omega (arith, behind)
        | inr here ↦ omega (arith, here.0)
      ]

      ends : (level : ℕ) → place * (2 * 2 ^ level) < from + 4 → (from < place * (2 * 2 ^ level) ⊎ place * (2 * 2 ^ level) ≡ from × 2 * 2 ^ level ≤ 4) → place * (2 * 2 ^ level) + 2 * 2 ^ level ≤ from + 4
      ends zero before which = omega (arith, before, four)
      ends (suc more) before which = elim which [
        | inl behind ↦ let no : ⊥ = omega (arith, narrow more place before (omega (arith, behind)), behind) in absurd no
        | inr here ↦ omega (arith, here.0, here.1)
      ]

      stays : (meeting : ℕ) → from + 4 < meeting → node_of blank (line_of first column) after meeting ≡ node_of blank (line_of first column) nodes meeting
      stays meeting high =
          let rows = mul-le (from + 3) first.step (meeting - 1) first.step (omega (arith, high)) (omega arith) in
          let less : from + 3 - 1 ≡ from + 2 = omega arith in
          let sum : (from + 3) * first.step ≡ (from + 2) * first.step + first.step = grind arith in
          others (nth_node (line_of first column) meeting) (inr (omega (arith, rows, sum, ap (λ k. k * first.step) less, line_node first column meeting)))
