-- The slots and the nodes of a block of lines, row by row.
use Rattle.std.{proofs.Common.{◌≡◌, ◌≢◌, ◌∙◌, ℕ, ◌+◌, ◌-◌, ◌*◌, ◌<◌, ◌≤◌, ◌⊎◌, List, length, get_or, set, ap, sym, subst, arith, inl, inr}, proofs.lemmas.Nat.{mul-le}, proofs.lemmas.Bool.{cases_lt, cases_eq}, proofs.lemmas.List.{get_or-set_same, get_or-set_other, get_or_read}}
use Rattle.fold_trees.{specs.declared.line.Line.{Line}, specs.LineTrees.{slot_at, nth_node, node_of, IsIn}, specs.LineBlocks.{line_of, HaveSlots, nodes_end, HaveNodes}}

-- ---- the slots of rows

-- a row of `step` items ends within all rows
pub rows_end : (row rows step : ℕ) → row < rows → row * step + step ≤ rows * step
rows_end row rows step below =
    let sum : (row + 1) * step ≡ row * step + step = grind arith in
    omega (arith, mul-le (row + 1) step rows step (omega (arith, below)) (omega arith), sum)

-- the slots of a place in all lines
pub slot_row : (first : Line) (slots place : ℕ) → HaveSlots first slots → place < first.count → slot_at first place + first.step ≤ slots
slot_row first slots place has below = omega (arith, rows_end place first.count first.step below, has.end)

-- the slot of a place of one line
pub line_slot : (first : Line) (column place : ℕ) → slot_at (line_of first column) place ≡ slot_at first place + column
line_slot first column place = omega arith

pub line_node : (first : Line) (column k : ℕ) → nth_node (line_of first column) k ≡ nth_node first k + column
line_node first column k = omega arith

-- the slot of a place some rows later
pub next_slot : (first : Line) (place more : ℕ) → slot_at first (place + more) ≡ slot_at first place + more * first.step
next_slot first place more = let e : (place + more) * first.step ≡ place * first.step + more * first.step = grind arith in omega (arith, e)

-- the nodes of a row lie in the list
pub nodes_within : (first : Line) (meeting : ℕ) → 1 ≤ meeting → meeting < first.count → nth_node first meeting + first.step ≤ nodes_end first
nodes_within first meeting low high = omega (arith, rows_end (meeting - 1) (first.count - 1) first.step (omega (arith, low, high)))

pub node_row : (first : Line) (nodes meeting : ℕ) → HaveNodes first nodes → 1 ≤ meeting → meeting < first.count → nth_node first meeting + first.step ≤ nodes
node_row first nodes meeting has low high = omega (arith, nodes_within first meeting low high, has.end)

-- each line lies in the lists
pub line_in : (first : Line) (slots nodes column : ℕ) → HaveSlots first slots → HaveNodes first nodes → column < first.step → IsIn (line_of first column) slots nodes
line_in first slots nodes column has have below = record {
  slots = record {
    few = has.few;
    apart = has.apart;
    fit = omega (arith, has.fit);
    slot = λ place p. omega (arith, slot_row first slots place has p, below, line_slot first column place);
  };
  nodes = record {
    fit = omega (arith, have.fit);
    node = λ meeting low high. omega (arith, node_row first nodes meeting have low high, below, line_node first column meeting);
  };
}

-- nodes of other rows lie outside a row
pub row_away : (first : Line) (column k m : ℕ) → column < first.step → 1 ≤ k → 1 ≤ m → k ≢ m
    → nth_node (line_of first column) k < nth_node first m ⊎ nth_node first m + first.step ≤ nth_node (line_of first column) k
row_away first column k m below some one other =
    let at = line_node first column k in
    elim (cases_lt k m) [
      | inl before ↦
          inl (omega (arith, rows_end (k - 1) (m - 1) first.step (omega (arith, before, some)), at, below))
      | inr behind ↦
          inr (omega (arith, rows_end (m - 1) (k - 1) first.step (omega (arith, behind, other, one)), at))
    ]

-- in any row, the nodes of later columns lie outside the columns already written
pub column_away : (first : Line) (column k a b : ℕ) → column < first.step → k ≤ column
    → nth_node (line_of first column) a < nth_node first b ⊎ nth_node first b + k ≤ nth_node (line_of first column) a
column_away first column k a b below high =
    let at = line_node first column a in
    elim (cases_lt (a - 1) (b - 1)) [
      | inl before ↦ inl (omega (arith, rows_end (a - 1) (b - 1) first.step before, at, below))
      | inr behind ↦
          inr (omega (arith, mul-le (b - 1) first.step (a - 1) first.step (omega (arith, behind)) (omega arith), at, high))
    ]

-- ---- one line after another

module _ {P : Type 0} (blank : P) where
  -- the node at a column of a row is correct, and so are those before it
  pub told_on : (Told : ℕ → P → Type 0) (at : ℕ → ℕ) (base : ℕ) → ((column : ℕ) → at column ≡ base + column) → (nodes : List P) (k here : ℕ) (s : P) → here ≡ base + k
      → here < length nodes → ((column : ℕ) → column < k → Told column (get_or nodes (at column) blank)) → Told k s
      → (column : ℕ) → column < k + 1 → Told column (get_or (set nodes here s) (at column) blank)
  told_on Told at base is nodes k here s here_is inside told p column below = elim (cases_eq column k) [
    | inl e ↦
        let same : get_or (set nodes here s) (at k) blank ≡ s =
        ap (λ i. get_or (set nodes here s) i blank) (is k ∙ sym here_is) ∙ get_or-set_same nodes here s blank inside in
        subst (λ j. Told j (get_or (set nodes here s) (at j) blank)) (sym e) (subst (Told k) (sym same) p)
    | inr other ↦
        subst (Told column) (sym (get_or-set_other nodes here (at column) s blank (λ f. other (omega (arith, f, is column, here_is)))))
        (told column (omega (arith, below, other)))
  ]

  -- the other nodes stay
  pub others_on : (nodes before : List P) (base k here : ℕ) (s : P) → here ≡ base + k
      → ((p : ℕ) → (p < base ⊎ base + k ≤ p) → get_or nodes p blank ≡ get_or before p blank)
      → (p : ℕ) → (p < base ⊎ base + (k + 1) ≤ p) → get_or (set nodes here s) p blank ≡ get_or before p blank
  others_on nodes before base k here s here_is others p away =
      get_or-set_other nodes here p s blank (λ e. elim away [
        | inl low ↦ let no : ⊥ = omega (arith, low, e, here_is) in no
        | inr high ↦ let no : ⊥ = omega (arith, high, e, here_is) in no
      ])
      ∙ others p (elim away [
        | inl low ↦ inl low
        | inr high ↦ inr (omega (arith, high))
      ])

  -- the nodes of the next line are the old ones in all rows
  pub still : (first : Line) (k b : ℕ) (nodes before : List P) → k < first.step
      → ((p : ℕ) → (p < nth_node first b ⊎ nth_node first b + k ≤ p) → get_or nodes p blank ≡ get_or before p blank)
      → (a base : ℕ) → base ≡ nth_node first a → get_or nodes (base + k) blank ≡ get_or before (nth_node (line_of first k) a) blank
  still first k b nodes before below others a base is =
      ap (λ p. get_or nodes p blank) (ap (λ n. n + k) is ∙ sym (line_node first k a)) ∙ others (nth_node (line_of first k) a) (column_away first k k a b below (omega arith))

-- a node that is read there is the old one
pub read_before : {P : Type 0} (blank : P) (first : Line) (k b : ℕ) (nodes before : List P) → HaveNodes first (length before) → length nodes ≡ length before
    → k < first.step → ((p : ℕ) → (p < nth_node first b ⊎ nth_node first b + k ≤ p) → get_or nodes p blank ≡ get_or before p blank)
    → (a base : ℕ) (v : P) → 1 ≤ a → a < first.count → base ≡ nth_node first a → v ≡ get_or nodes (base + k) v → v ≡ node_of blank (line_of first k) before a
read_before blank first k b nodes before has sized below others a base v low high is read =
    let row = node_row first (length before) a has low high in
    get_or_read nodes (base + k) v (omega (arith, row, is, sized, below)) read blank ∙ still blank first k b nodes before below others a base is
