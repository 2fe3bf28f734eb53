-- The nodes of four numbers of a line of a block are written.
use Rattle.std.{proofs.Common.{◌≡◌, ◌≢◌, ◌∙◌, ℕ, ℤ, List, ◌+◌, ◌-◌, ◌*◌, ◌<◌, ◌≤◌, ◌⊎◌, length, get_or, set, ap, sym, subst, arith, inl, inr}, proofs.lemmas.Bool.{cases_eq}, proofs.lemmas.List.{length-set, get_or-set_same, get_or-set_other}, proofs.lemmas.Nat.{same_from_place}}
use Rattle.fold_trees.{specs.declared.line.Line.{Line}, specs.LineTrees.{nth_node, slot_of, segment, node_of, AreFourKept}, specs.LineBlocks.{line_of}, proofs.BlockRows.{line_node}}

-- the node some rows later
pub later_row : (first : Line) (from more : ℕ) → nth_node first (from + (more + 1)) ≡ nth_node first (from + 1) + more * first.step
later_row first from more =
    let here = ap (λ n. n * first.step) (let e : from + 1 - 1 ≡ from = omega arith in e) in
    let sum : (from + more) * first.step ≡ from * first.step + more * first.step = grind arith in
    omega (arith, here, ap (λ n. n * first.step) (let e : from + (more + 1) - 1 ≡ from + more = omega arith in e), sum)

module _ {P : Type 0} (blank : P) (first : Line) (from k here : ℕ) (nodes : List P) (a b d : P) (below : k < first.step) (here_is : here ≡ nth_node first (from + 1) + k)
    (fits : here + 2 * first.step < length nodes) where
  abbrev pub with_four : List P
  with_four = set (set (set nodes here a) (here + first.step) b) (here + 2 * first.step) d

  pub as_long : length with_four ≡ length nodes
  as_long = length-set (set (set nodes here a) (here + first.step) b) (here + 2 * first.step) d ∙ length-set (set nodes here a) (here + first.step) b ∙ length-set nodes here a

  elsewhere : (p : ℕ) → p ≢ here → p ≢ here + first.step → p ≢ here + 2 * first.step → get_or with_four p blank ≡ get_or nodes p blank
  elsewhere p one two three =
      get_or-set_other (set (set nodes here a) (here + first.step) b) (here + 2 * first.step) p d blank three
      ∙ get_or-set_other (set nodes here a) (here + first.step) p b blank two ∙ get_or-set_other nodes here p a blank one

  -- the other nodes
  pub others_stay : (before : List P) → ((p : ℕ) → (p < nth_node first (from + 1) ⊎ nth_node first (from + 3) + first.step ≤ p) → get_or nodes p blank ≡ get_or before p blank)
      → (p : ℕ) → (p < nth_node first (from + 1) ⊎ nth_node first (from + 3) + first.step ≤ p) → get_or with_four p blank ≡ get_or before p blank
  others_stay before others p away =
      elsewhere p (outside 0 (omega arith) here (omega (arith, here_is))) (outside 1 (omega arith) (here + first.step) (omega (arith, here_is)))
      (outside 2 (omega arith) (here + 2 * first.step) (omega (arith, here_is)))
      ∙ others p away
    where
      outside : (more : ℕ) → more ≤ 2 → (q : ℕ) → (nth_node first (from + 1) ≤ q) × (q < nth_node first (from + 1) + 3 * first.step) → p ≢ q
      outside more few q within e = elim away [
        | inl low ↦ omega (arith, low, within.0, e)
        | inr high ↦ omega (arith, high, later_row first from 2, within.1, e)
      ]

  -- the node of this line is the new one
  first_set : node_of blank (line_of first k) with_four (from + 1) ≡ a
  first_set =
      ap (λ p. get_or with_four p blank) (line_node first k (from + 1) ∙ sym here_is)
      ∙ get_or-set_other (set (set nodes here a) (here + first.step) b) (here + 2 * first.step) here d blank (λ e. let no : ⊥ = omega (arith, e, below) in no)
      ∙ get_or-set_other (set nodes here a) (here + first.step) here b blank (λ e. let no : ⊥ = omega (arith, e, below) in no)
      ∙ get_or-set_same nodes here a blank (omega (arith, fits))

  second_set : node_of blank (line_of first k) with_four (from + 2) ≡ b
  second_set =
      ap (λ p. get_or with_four p blank) (let e : nth_node (line_of first k) (from + 2) ≡ here + first.step = omega (arith, line_node first k (from + 2), later_row first from 1, here_is) in e)
      ∙ get_or-set_other (set (set nodes here a) (here + first.step) b) (here + 2 * first.step) (here + first.step) d blank (λ e. let no : ⊥ = omega (arith, e, below) in no)
      ∙ get_or-set_same (set nodes here a) (here + first.step) b blank (omega (arith, fits, length-set nodes here a))

  third_set : node_of blank (line_of first k) with_four (from + 3) ≡ d
  third_set =
      ap (λ p. get_or with_four p blank) (let e : nth_node (line_of first k) (from + 3) ≡ here + 2 * first.step = omega (arith, line_node first k (from + 3), later_row first from 2, here_is) in e)
      ∙ get_or-set_same (set (set nodes here a) (here + first.step) b) (here + 2 * first.step) d blank
      (omega (arith, fits, length-set nodes here a, length-set (set nodes here a) (here + first.step) b))

  -- the node of another line is a different one
  apart : (column m more q : ℕ) → column < first.step → column ≢ k → q ≡ here + more * first.step → nth_node (line_of first column) m ≢ q
  apart column m more q inside other is e =
      let less = ap (λ n. n * first.step) (let e : from + 1 - 1 ≡ from = omega arith in e) in
      let sum : (from + more) * first.step ≡ from * first.step + more * first.step = grind arith in
      other (same_from_place (m - 1) column (from + more) k first.step inside below (omega (arith, e, is, here_is, less, sum, line_node first column m))).1

  stays : (column m : ℕ) → column < first.step → column ≢ k → node_of blank (line_of first column) with_four m ≡ node_of blank (line_of first column) nodes m
  stays column m inside other =
      elsewhere (nth_node (line_of first column) m) (apart column m 0 here inside other (omega arith)) (apart column m 1 (here + first.step) inside other (omega arith))
      (apart column m 2 (here + 2 * first.step) inside other (omega arith))

  -- the nodes of one more line
  pub four_on : (tells : P → List ℤ → Type 0) (slots : List ℤ) → tells a (segment (slot_of (line_of first k) slots) from 2) → tells b (segment (slot_of (line_of first k) slots) from 4)
      → tells d (segment (slot_of (line_of first k) slots) (from + 2) 2)
      → ((column : ℕ) → column < k → AreFourKept tells (slot_of (line_of first column) slots) (node_of blank (line_of first column) nodes) from)
      → (column : ℕ) → column < k + 1 → AreFourKept tells (slot_of (line_of first column) slots) (node_of blank (line_of first column) with_four) from
  four_on tells slots one all two told column more = elim (cases_eq column k) [
    | inl e ↦
        let x = slot_of (line_of first k) slots in
        subst (λ j. AreFourKept tells (slot_of (line_of first j) slots) (node_of blank (line_of first j) with_four) from) (sym e) (record {
          first = subst (λ t. tells t (segment x from 2)) (sym first_set) one;
          all = subst (λ t. tells t (segment x from 4)) (sym second_set) all;
          last = subst (λ t. tells t (segment x (from + 2) 2)) (sym third_set) two;
        })
    | inr other ↦
        let x = slot_of (line_of first column) slots in
        let inside : column < first.step = omega (arith, more, below) in
        let was = told column (omega (arith, more, other)) in
        record {
          first = subst (λ t. tells t (segment x from 2)) (sym (stays column (from + 1) inside other)) was.first;
          all = subst (λ t. tells t (segment x from 4)) (sym (stays column (from + 2) inside other)) was.all;
          last = subst (λ t. tells t (segment x (from + 2) 2)) (sym (stays column (from + 3) inside other)) was.last;
        }
  ]
