-- The nodes of a line, while the parts of a place are rewritten.
use Rattle.std.{proofs.Common.{◌≡◌, ◌≢◌, ◌∙◌, ℕ, ◌+◌, ◌-◌, ◌*◌, ◌/◌, ◌%◌, ◌^◌, ◌<◌, ◌≤◌, ◌⊎◌, min, List, length, get_or, set, ap, sym, subst, arith, inl, inr, ℤ}, proofs.lemmas.Nat.{pow_pos}, proofs.lemmas.Bool.{cases_lt, cases_eq}, proofs.lemmas.List.{get_or-set_same, get_or-set_other}}
use Rattle.fold_trees.{specs.declared.line.Line.{Line}, specs.LineTrees.{nth_node, node_of, segment, numbers_of_block, IsKept, ArePartsKept, ArePartsKeptIn, ArePartsKeptBeside, other_half}, proofs.LineParts.{IsClimb, climb_up, odd_block, even_block}, proofs.Segments.{segment_same}}
use Rattle.fold_trees.proofs.Halves.{steps_apart, half_grows, half_doubled, half_below, meetings_apart, meeting_some}

-- the nodes of the parts without the place, and of all parts up to a width, are correct
abbrev pub AreKeptTo : {P : Type 0} → (P → List ℤ → Type 0) → (width at count : ℕ) → (ℕ → ℤ) → (ℕ → P) → Type 0
AreKeptTo tells width at count x node = (level place : ℕ) → (2 * 2 ^ level ≤ width ⊎ (at < place * (2 * 2 ^ level) ⊎ place * (2 * 2 ^ level) + 2 * 2 ^ level ≤ at))
    → IsKept tells count x node (place * (2 * 2 ^ level)) (2 ^ level)

module _ {P : Type 0} (blank : P) (l : Line) (nodes : List P) where
  -- a node that was set is the new one
  pub node_here : (k : ℕ) (s : P) → nth_node l k < length nodes → get_or (set nodes (nth_node l k) s) (nth_node l k) blank ≡ s
  node_here k s h = get_or-set_same nodes (nth_node l k) s blank h

  pub node_other : (m k : ℕ) (s : P) → 0 < l.step → 1 ≤ m → 1 ≤ k → k ≢ m → get_or (set nodes (nth_node l m) s) (nth_node l k) blank ≡ get_or nodes (nth_node l k) blank
  node_other m k s some h g other =
      get_or-set_other nodes (nth_node l m) (nth_node l k) s blank (λ e. other (
      omega (arith, steps_apart (k - 1) (m - 1) l.step some (omega (arith, e)), h, g)))

-- ---- a step up from a place

-- after a step the node of the wider part is the new one; without a second half nothing changes
abbrev pub IsStepUp : {P : Type 0} → (l : Line) (nodes after : List P) (block width : ℕ) → P → Type 0
IsStepUp l nodes after block width s =
    (after ≡ set nodes (nth_node l ((block / 2 * 2 + 1) * width)) s × nth_node l ((block / 2 * 2 + 1) * width) < length nodes × (block / 2 * 2 + 1) * width < l.count)
    ⊎ (after ≡ nodes × block % 2 ≡ 0 × l.count ≤ block * width + width)

-- the halves never meet at place 0
pub some_meeting : (block width level : ℕ) → width ≡ 2 ^ level → 1 ≤ (block / 2 * 2 + 1) * width
some_meeting block width level is =
    let all : (block / 2 * 2 + 1) * width ≡ 2 * (block / 2 * width) + width = grind arith in
    omega (arith, all, pow_pos level, is)

-- a step replaces at most one node of the line
pub others_stay : {P : Type 0} (blank : P) (l : Line) (nodes after before : List P) (block width : ℕ) (s : P) → IsStepUp l nodes after block width s → 1 ≤ (block / 2 * 2 + 1) * width
    → ((p : ℕ) → ((meeting : ℕ) → 1 ≤ meeting → meeting < l.count → p ≢ nth_node l meeting) → get_or nodes p blank ≡ get_or before p blank)
    → (p : ℕ) → ((meeting : ℕ) → 1 ≤ meeting → meeting < l.count → p ≢ nth_node l meeting) → get_or after p blank ≡ get_or before p blank
others_stay {P = P} blank l nodes after before block width s new some stayed p apart = elim new [
  | inl set_so ↦
      ap (λ (ns : List P). get_or ns p blank) set_so.0
      ∙ get_or-set_other nodes (nth_node l ((block / 2 * 2 + 1) * width)) p s blank (apart ((block / 2 * 2 + 1) * width) some set_so.2)
      ∙ stayed p apart
  | inr none ↦ ap (λ (ns : List P). get_or ns p blank) none.0 ∙ stayed p apart
]

module _ {P : Type 0} (blank : P) (tells : P → List ℤ → Type 0) (l : Line) (nodes after : List P) (x : ℕ → ℤ) (at block width top : ℕ) (s : P)
    (climb : IsClimb at block width) (width_is : width ≡ 2 ^ top) (some : 0 < l.step) (kept : AreKeptTo tells width at l.count x (node_of blank l nodes))
    (told : tells s (numbers_of_block l.count x (block / 2) (2 * width))) (new : IsStepUp l nodes after block width s) where
  meeting : ℕ
  meeting = (block / 2 * 2 + 1) * width

  meeting_is : meeting ≡ block / 2 * (2 * 2 ^ top) + 2 ^ top
  unfolding meeting
  meeting_is = ap (λ w. (block / 2 * 2 + 1) * w) width_is ∙ grind arith

  stays : (level place : ℕ) → place * (2 * 2 ^ level) + 2 ^ level ≢ block / 2 * (2 * 2 ^ top) + 2 ^ top
      → node_of blank l after (place * (2 * 2 ^ level) + 2 ^ level) ≡ node_of blank l nodes (place * (2 * 2 ^ level) + 2 ^ level)
  unfolding meeting
  stays level place apart = elim new [
    | inl set_so ↦
        let m = place * (2 * 2 ^ level) + 2 ^ level in
        ap (λ (ns : List P). node_of blank l ns m) (set_so.0 ∙ ap (λ k. set nodes (nth_node l k) s) meeting_is)
        ∙ node_other blank l nodes ((block / 2 * (2 * 2 ^ top) + 2 ^ top)) m s some (meeting_some top (block / 2)) (meeting_some level place) apart
    | inr none ↦ ap (λ (ns : List P). node_of blank l ns (place * (2 * 2 ^ level) + 2 ^ level)) none.0
  ]

  -- the step's own part
  renewed : (level place : ℕ) → level ≡ top → place ≡ block / 2 → IsKept tells l.count x (node_of blank l after) (place * (2 * 2 ^ level)) (2 ^ level)
  unfolding meeting
  renewed level place e f inside = elim new [
    | inl set_so ↦
        subst (λ n. tells n (segment x (place * (2 * unit)) (min (2 * unit) (l.count - place * (2 * unit)))))
        (sym (ap (node_of blank l after) (sym meets) ∙ ap (λ (ns : List P). node_of blank l ns meeting) set_so.0 ∙ node_here blank l nodes meeting s set_so.1))
        (subst (tells s) (λ i. segment x (start i) (min (double i) (l.count - start i))) told)
    | inr none ↦
        let at = even_block block width none.1 in
        let no : ⊥ = omega (arith, at.0, at.2, start, w, none.2, inside) in
        absurd no
  ]
    where
      unit : ℕ
      unit = 2 ^ level

      w : width ≡ unit
      w = width_is ∙ sym (ap (λ k. 2 ^ k) e)

      double : 2 * width ≡ 2 * unit
      double = ap (λ k. 2 * k) w

      start : block / 2 * (2 * width) ≡ place * (2 * unit)
      start = λ i. sym f i * (2 * w i)

      meets : meeting ≡ place * (2 * unit) + unit
      meets = (λ i. (sym f i * 2 + 1) * w i) ∙ grind arith

  -- another part of the same width does not contain the place
  elsewhere : (level place : ℕ) → level ≡ top → place ≢ block / 2 → at < place * (2 * 2 ^ level) ⊎ place * (2 * 2 ^ level) + 2 * 2 ^ level ≤ at
  elsewhere level place e other = elim (cases_lt place (block / 2)) [
    | inl less ↦
        let more = block / 2 - place - 1 in
        let is : block / 2 ≡ place + 1 + more = omega (arith, less) in
        let all : block / 2 * (2 * unit) ≡ place * (2 * unit) + 2 * unit + more * (2 * unit) = ap (λ k. k * (2 * unit)) is ∙ grind arith in
        inr (omega (arith, all, start, up.low))
    | inr enough ↦
        let more = place - block / 2 - 1 in
        let is : place ≡ block / 2 + 1 + more = omega (arith, enough, other) in
        let all : place * (2 * unit) ≡ block / 2 * (2 * unit) + 2 * unit + more * (2 * unit) = ap (λ k. k * (2 * unit)) is ∙ grind arith in
        inl (omega (arith, all, start, w, up.high))
  ]
    where
      unit : ℕ
      unit = 2 ^ level

      up : IsClimb at (block / 2) (2 * width)
      up = climb_up at block width climb

      w : width ≡ unit
      w = width_is ∙ sym (ap (λ k. 2 ^ k) e)

      start : block / 2 * (2 * width) ≡ block / 2 * (2 * unit)
      start = ap (λ k. block / 2 * (2 * k)) w

  -- a part at most as wide as the step, and of another width, is at most as wide as its half
  narrower : (level : ℕ) → level ≢ top → 2 * 2 ^ level ≤ 2 * width → 2 * 2 ^ level ≤ width
  narrower level differ few = elim (cases_lt level top) [
    | inl less ↦ omega (arith, half_doubled level top less, width_is)
    | inr enough ↦
        let no : ⊥ = omega (arith, half_doubled top level (omega (arith, enough, differ)), width_is, few, pow_pos top) in
        absurd no
  ]

  pub step_up : AreKeptTo tells (2 * width) at l.count x (node_of blank l after)
  step_up level place where_it_is = elim (cases_eq level top) [
    | inl e ↦ elim (cases_eq place (block / 2)) [
      | inl f ↦ renewed level place e f
      | inr other ↦ λ inside.
          let unit = 2 ^ level in
          let w : 2 ^ top ≡ unit = ap (λ k. 2 ^ k) (sym e) in
          let apart : place * (2 * unit) + unit ≢ block / 2 * (2 * 2 ^ top) + 2 ^ top = λ same.
          other (steps_apart place (block / 2) (2 * unit) (omega (arith, pow_pos level)) (omega (arith, same, ap (λ k. block / 2 * (2 * k)) w, w))) in
          rw (stays level place apart) (kept level place (inr (elsewhere level place e other)) inside)
    ]
    | inr differ ↦ λ inside.
        let unit = 2 ^ level in
        let apart : place * (2 * unit) + unit ≢ block / 2 * (2 * 2 ^ top) + 2 ^ top = λ same. differ (meetings_apart level place top (block / 2) same) in
        let old : 2 * unit ≤ width ⊎ (at < place * (2 * unit) ⊎ place * (2 * unit) + 2 * unit ≤ at) = elim where_it_is [
          | inl few ↦ inl (narrower level differ few)
          | inr beside ↦ inr beside
        ] in
        rw (stays level place apart) (kept level place old inside)
  ]

module _ {P : Type 0} (tells : P → List ℤ → Type 0) where
  -- the node of a part that lies wholly on the line stands for its numbers
  pub told_at : (count half low : ℕ) (x : ℕ → ℤ) (node : ℕ → P) → half ≡ 2 * 2 ^ low → (start place : ℕ) → start ≡ place * (2 * 2 ^ low) → start + half ≤ count
      → IsKept tells count x node (place * (2 * 2 ^ low)) (2 ^ low) → tells (node (start + half / 2)) (segment x start half)
  told_at count half low x node half_is start place is ends this =
      let long : min (2 * 2 ^ low) (count - place * (2 * 2 ^ low)) ≡ half = omega (arith, is, half_is, ends) in
      subst (λ m. tells (node m) (segment x start half)) (omega (arith, is, half_is))
      (subst (tells (node (place * (2 * 2 ^ low) + 2 ^ low))) (λ i. segment x (sym is i) (long i)) (this (omega (arith, is, half_is, ends, pow_pos low))))

  -- before the first step
  pub kept_first : (at count : ℕ) (x : ℕ → ℤ) (node : ℕ → P) → ArePartsKeptBeside tells at count x node → AreKeptTo tells 1 at count x node
  kept_first at count x node kept level place where_it_is = kept level place (elim where_it_is [
    | inl few ↦ let no : ⊥ = omega (arith, few, half_grows 0 level (omega arith), pow_pos 0) in absurd no
    | inr beside ↦ beside
  ])

  -- after the last step all nodes are correct
  pub all_kept : (width at count top : ℕ) (x : ℕ → ℤ) (node : ℕ → P) → width ≡ 2 ^ top → count ≤ width → AreKeptTo tells width at count x node → ArePartsKept tells count x node
  all_kept width at count top x node is wide kept level place inside =
      kept level place (inl (omega (arith, half_doubled level top (half_below level top (omega (arith, is, wide, inside))), is))) inside

  -- the parts of the other half do not contain the place
  pub kept_beside : (width at block count : ℕ) (x : ℕ → ℤ) (node : ℕ → P) → IsClimb at block width → AreKeptTo tells width at count x node
      → ArePartsKeptIn tells (other_half block * width) width count x node
  kept_beside width at block count x node climb kept level place low high = kept level place (inr beside)
    where
      beside : at < place * (2 * 2 ^ level) ⊎ place * (2 * 2 ^ level) + 2 * 2 ^ level ≤ at
      beside = elim (cases_eq (block % 2) 0) [
        | inl even ↦ let a = even_block block width even in inl (omega (arith, a.0, a.1, low, climb.high))
        | inr odd ↦ let is : block % 2 ≡ 1 = omega (arith, odd) in let a = odd_block block width is in inr (omega (arith, a.0, a.1, high, climb.low))
      ]

  -- with another number at a place, the nodes of the parts without it stay correct
  pub kept_replaced : (at count : ℕ) (x y : ℕ → ℤ) (node : ℕ → P) → ((i : ℕ) → i < count → i ≢ at → y i ≡ x i) → ArePartsKept tells count x node
      → ArePartsKeptBeside tells at count y node
  kept_replaced at count x y node stays kept level place beside inside =
      let from = place * (2 * 2 ^ level) in
      let half = 2 ^ level in
      let same = segment_same x y from (min (2 * half) (count - from)) (λ i low high.
      let apart : i ≢ at = λ e. elim beside [
        | inl after ↦ omega (arith, after, low, e)
        | inr before ↦ omega (arith, before, high, e)
      ] in
      sym (stays i (omega (arith, low, high)) apart)) in
      subst (tells (node (from + half))) same (kept level place inside)

  -- where the numbers and the nodes of a line stay, the nodes stay correct
  pub kept_alike : (count : ℕ) (x y : ℕ → ℤ) (m n : ℕ → P) → ((i : ℕ) → i < count → y i ≡ x i)
      → ((meeting : ℕ) → 1 ≤ meeting → meeting < count → n meeting ≡ m meeting) → ArePartsKept tells count x m → ArePartsKept tells count y n
  kept_alike count x y m n same nodes kept level place inside =
      let from = place * (2 * 2 ^ level) in
      rw (nodes (from + 2 ^ level) (omega (arith, half_grows 0 level (omega arith))) inside)
      (subst (tells (m (from + 2 ^ level))) (segment_same x y from (min (2 * 2 ^ level) (count - from)) (λ i low high. sym (same i (omega (arith, low, high))))) (kept level place inside))
