-- The nodes of each line of a block, from the last parts to the first.
use Rattle.std.{proofs.Common.{◌≡◌, ◌≢◌, ◌∙◌, ℕ, zero, suc, ◌+◌, ◌-◌, ◌*◌, ◌/◌, ◌%◌, ◌^◌, ◌<◌, ◌≤◌, ◌⊎◌, min, List, get_or, ap, sym, subst, arith, inl, inr, ℤ}, proofs.lemmas.Nat.{pow_pos, mod-mul-add}, proofs.lemmas.Bool.{cases_lt}}
use Rattle.fold_trees.{specs.declared.line.Line.{Line}, specs.LineTrees.{nth_node, slot_of, node_of, segment, ArePartsKeptIn}, specs.LineBlocks.{line_of, nodes_end, ArePartsKeptBehind, ArePartsKeptFrom}, proofs.Halves.{half_up, half_grows, half_doubled, half_or_same, half_times, meetings_apart, meeting_some}}
use Rattle.fold_trees.{proofs.BlockRows.{row_away, nodes_within}, proofs.LineNodes.{told_at}}

-- ---- one more part that begins at a place

module _ {P : Type 0} (blank : P) (tells : P → List ℤ → Type 0) (first : Line) (slots : List ℤ) (nodes after : List P)
    (at part from half : ℕ) (half_is : half ≡ 2 ^ at) (from_is : from ≡ part * (2 * half))
    (others : (p : ℕ) → (p < nth_node first (from + half) ⊎ nth_node first (from + half) + first.step ≤ p) → get_or after p blank ≡ get_or nodes p blank) where
  begins : from ≡ part * (2 * 2 ^ at)
  begins = from_is ∙ ap (λ n. part * (2 * n)) half_is

  meets : from + half ≡ part * (2 * 2 ^ at) + 2 ^ at
  meets = omega (arith, begins, half_is)

  -- the nodes of parts that meet elsewhere stay
  stays : (column level place : ℕ) → column < first.step → place * (2 * 2 ^ level) + 2 ^ level ≢ from + half
      → node_of blank (line_of first column) after (place * (2 * 2 ^ level) + 2 ^ level) ≡ node_of blank (line_of first column) nodes (place * (2 * 2 ^ level) + 2 ^ level)
  stays column level place below apart =
      let k = place * (2 * 2 ^ level) + 2 ^ level in
      others (nth_node (line_of first column) k)
      (row_away first column k (from + half) below (meeting_some level place) (omega (arith, meets, meeting_some at part)) apart)

  pub kept_on : ((column : ℕ) → column < first.step
      → tells (node_of blank (line_of first column) after (from + half)) (segment (slot_of (line_of first column) slots) from (min (2 * half) (first.count - from))))
      → ArePartsKeptBehind blank tells from half first slots nodes → ArePartsKeptBehind blank tells from (2 * half) first slots after
  kept_on told kept column below level place which inside = elim which [
    | inl behind ↦ old (λ e.
        let no : ⊥ = omega (arith, e, ap (λ k. 2 ^ k) (meetings_apart level place at part (e ∙ meets)), half_is, behind) in
        no) (inl behind)
    | inr here ↦ elim (half_or_same level at (omega (arith, here.1, half_is))) [
      | inl less ↦ old (λ e. let no : ⊥ = omega (arith, e, here.0, less, half_is, pow_pos at) in no) (inr (here.0, omega (arith, less, half_is)))
      | inr same ↦
          let meeting : place * (2 * 2 ^ level) + 2 ^ level ≡ from + half = omega (arith, here.0, same, half_is) in
          let long : 2 * 2 ^ level ≡ 2 * half = omega (arith, same, half_is) in
          let start : place * (2 * 2 ^ level) ≡ from = here.0 in
          subst (λ s. tells s (segment (slot_of (line_of first column) slots) (place * (2 * 2 ^ level)) (min (2 * 2 ^ level) (first.count - place * (2 * 2 ^ level)))))
          (sym (ap (node_of blank (line_of first column) after) meeting))
          (subst (tells (node_of blank (line_of first column) after (from + half)))
          (sym (λ i. segment (slot_of (line_of first column) slots) (start i) (min (long i) (first.count - start i)))) (told column below))
    ]
  ]
    where
      old : place * (2 * 2 ^ level) + 2 ^ level ≢ from + half → (from < place * (2 * 2 ^ level) ⊎ place * (2 * 2 ^ level) ≡ from × 2 * 2 ^ level ≤ half)
          → tells (node_of blank (line_of first column) after (place * (2 * 2 ^ level) + 2 ^ level))
          (segment (slot_of (line_of first column) slots) (place * (2 * 2 ^ level)) (min (2 * 2 ^ level) (first.count - place * (2 * 2 ^ level))))
      old apart one = rw (stays column level place below apart) (kept column below level place one inside)

-- a row of nodes of the block
pub rows_outside : {P : Type 0} (blank : P) (first : Line) (meeting : ℕ) (nodes after : List P) → 1 ≤ meeting → meeting < first.count
    → ((p : ℕ) → (p < nth_node first meeting ⊎ nth_node first meeting + first.step ≤ p) → get_or after p blank ≡ get_or nodes p blank)
    → (p : ℕ) → (p < first.node ⊎ nodes_end first ≤ p) → get_or after p blank ≡ get_or nodes p blank
rows_outside blank first meeting nodes after low high others p away = others p (elim away [
  | inl before ↦ inl (omega (arith, before))
  | inr behind ↦ inr (omega (arith, behind, nodes_within first meeting low high))
])

-- ---- from one place to the one before it

module _ {P : Type 0} (blank : P) (tells : P → List ℤ → Type 0) (from : ℕ) (first : Line) (slots : List ℤ) (nodes : List P) where
  -- no wider part begins there, or none that does has a second half
  pub end_from : (half at : ℕ) → half ≡ 2 ^ at → (first.count ≤ from + half ⊎ from % (2 * half) ≢ 0) → ArePartsKeptBehind blank tells from half first slots nodes
      → ArePartsKeptFrom blank tells from first slots nodes
  end_from half at half_is last kept column below level place low inside = elim (cases_lt from (place * (2 * 2 ^ level))) [
    | inl behind ↦ kept column below level place (inl behind) inside
    | inr not_behind ↦
        let here : place * (2 * 2 ^ level) ≡ from = omega (arith, low, not_behind) in
        elim (cases_lt at (suc level)) [
          | inl wide ↦
              absurd (elim last [
                | inl ends ↦ let no : ⊥ = omega (arith, half_grows at level (omega (arith, wide)), ends, here, inside, half_is) in no
                | inr uneven ↦ uneven (whole (omega (arith, wide)) here)
              ])
          | inr narrow ↦ kept column below level place (inr (here, omega (arith, half_doubled level at (omega (arith, narrow)), half_is))) inside
        ]
  ]
    where
      whole : at ≤ level → place * (2 * 2 ^ level) ≡ from → from % (2 * half) ≡ 0
      whole levels here =
          let multiple : from ≡ place * 2 ^ (level - at) * (2 * half) + 0 =
          sym here ∙ ap (λ n. place * (2 * n)) (half_times at level levels ∙ ap (λ n. 2 ^ (level - at) * n) (sym half_is)) ∙ grind arith in
          ap (λ n. n % (2 * half)) multiple ∙ mod-mul-add (place * 2 ^ (level - at)) (2 * half) 0 (omega (arith, half_is, pow_pos at))

  -- ---- the parts within the two halves

  pub kept_in_first : (half column : ℕ) → column < first.step → ArePartsKeptBehind blank tells from half first slots nodes
      → ArePartsKeptIn tells from half first.count (slot_of (line_of first column) slots) (node_of blank (line_of first column) nodes)
  kept_in_first half column below kept level place low high inside = elim (cases_lt from (place * (2 * 2 ^ level))) [
    | inl behind ↦ kept column below level place (inl behind) inside
    | inr here ↦ kept column below level place (inr (omega (arith, low, here), omega (arith, low, here, high))) inside
  ]

  pub kept_in_second : (half column : ℕ) → column < first.step → 0 < half → ArePartsKeptBehind blank tells from half first slots nodes
      → ArePartsKeptIn tells (from + half) half first.count (slot_of (line_of first column) slots) (node_of blank (line_of first column) nodes)
  kept_in_second half column below some kept level place low high inside = kept column below level place (inl (omega (arith, low, some))) inside

-- the parts of a line depend on its nodes alone
pub kept_in_still : {P : Type 0} (tells : P → List ℤ → Type 0) (from width count : ℕ) (x : ℕ → ℤ) (m n : ℕ → P) → ((meeting : ℕ) → n meeting ≡ m meeting)
    → ArePartsKeptIn tells from width count x m → ArePartsKeptIn tells from width count x n
kept_in_still tells from width count x m n same kept level place low high inside =
    rw (same (place * (2 * 2 ^ level) + 2 ^ level)) (kept level place low high inside)

-- ---- the two halves of a part whose halves have nodes

-- a half of more than one number is twice as wide as another
pub quarter : (half at : ℕ) → half ≡ 2 ^ at → half ≢ 1 → (low : ℕ) × (half ≡ 2 * 2 ^ low)
quarter half zero is other = absurd (other is)
quarter half (suc low) is other = (low, is ∙ half_up low)

module _ {P : Type 0} (blank : P) (tells : P → List ℤ → Type 0) (from half low part : ℕ) (first : Line) (slots : List ℤ) (nodes : List P)
    (half_is : half ≡ 2 * 2 ^ low) (from_is : from ≡ part * (2 * half)) (full : from + 2 * half ≤ first.count) (kept : ArePartsKeptBehind blank tells from half first slots nodes)
    (column : ℕ) (below : column < first.step) where
  pub half_told : tells (node_of blank (line_of first column) nodes (from + half / 2)) (segment (slot_of (line_of first column) slots) from half)
  half_told =
      let start : from ≡ 2 * part * (2 * 2 ^ low) = from_is ∙ ap (λ n. part * (2 * n)) half_is ∙ grind arith in
      told_at tells first.count half low _ (node_of blank (line_of first column) nodes) half_is from (2 * part) start (omega (arith, full)) (kept column below low (2 * part) (inr (sym start, omega (arith, half_is))))

  pub later_told : tells (node_of blank (line_of first column) nodes (from + half + half / 2)) (segment (slot_of (line_of first column) slots) (from + half) half)
  later_told =
      let start : from + half ≡ (2 * part + 1) * (2 * 2 ^ low) = (λ i. from_is i + half) ∙ (λ i. part * (2 * half_is i) + half_is i) ∙ grind arith in
      told_at tells first.count half low _ (node_of blank (line_of first column) nodes) half_is (from + half) (2 * part + 1) start (omega (arith, full)) (kept column below low (2 * part + 1) (inl (omega (arith, sym start, half_is, pow_pos low))))
