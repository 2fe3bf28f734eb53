-- The blocks of lines among all lines.
use Rattle.std.{proofs.Common.{◌≡◌, ◌∙◌, ℕ, ◌+◌, ◌-◌, ◌*◌, ◌/◌, ◌%◌, ◌^◌, ◌<◌, ◌≤◌, ◌⊎◌, List, get_or, ap, sym, subst, arith, inl, inr, ℤ, refl}, proofs.lemmas.Nat.{div-mul-add, mod-mul-add, div_below, mod_below, mul-le}, proofs.lemmas.Bool.{cases_lt}}
use Rattle.fold_trees.{specs.LineTrees.{nth_node, slot_of, node_of, ArePartsKept, nodes_in_line}, specs.LineBlocks.{line_of, HaveSlots, nodes_end, block_at, line_at, HaveNodes}, specs.PartTrees.{AreLines}, proofs.LineSpots.{short_lines, blocks, slots_are, lines_are, nodes_are, fewer_nodes}}
use Rattle.fold_trees.proofs.LineNodes.{kept_alike}

-- ---- a line and its block

pub line_in_block : (count step block column : ℕ) → column < step → line_at count step (block * step + column) ≡ line_of (block_at count step block) column
line_in_block count step block column below =
    let d = div-mul-add block step column below in
    let m = mod-mul-add block step column below in
    λ i. record { count = count; step = step; slot = d i * (count * step) + m i; node = d i * (nodes_in_line count * step) + m i }

-- a block ends at or before the first slot of any later one
pub units_before : (unit a b : ℕ) → a < b → a * unit + unit ≤ b * unit
units_before unit a b less =
    let sum : (a + 1) * unit ≡ a * unit + unit = grind arith in
    omega (arith, mul-le (a + 1) unit b unit (omega (arith, less)) (omega arith), sum)

module _ (count step slots : ℕ) (are : AreLines count step slots) where
  pub block_count : slots / count / step ≡ blocks count step slots are
  block_count = ap (λ n. n / step) (lines_are count step slots are ∙ grind arith) ∙ div-mul-add (blocks count step slots are) step 0 are.apart

  module _ (block : ℕ) (h : block < slots / count / step) where
    pub block_ends : block * (count * step) + count * step ≤ slots
    block_ends = omega (arith, units_before (count * step) block (blocks count step slots are) (omega (arith, h, block_count)), slots_are count step slots are)

    pub have_slots : slots < 2 ^ 62 → HaveSlots (block_at count step block) slots
    have_slots few = record { few = short_lines count step slots _ are.apart block_ends few; apart = are.apart; fit = few; end = block_ends }

    -- the nodes of a block end within the list; each line has equally many
    pub nodes_ends : (unit nodes : ℕ) → nodes ≡ slots / count * unit → block * (unit * step) + unit * step ≤ nodes
    nodes_ends unit nodes sized =
        omega (arith, units_before (unit * step) block (blocks count step slots are) (omega (arith, h, block_count)), nodes_are count step slots are unit nodes sized)

    pub have_nodes : (nodes : ℕ) → nodes ≡ slots / count * nodes_in_line count → slots < 2 ^ 62 → HaveNodes (block_at count step block) nodes
    have_nodes nodes sized few = record {
      fit = omega (arith, few, fewer_nodes count step slots are (nodes_in_line count) nodes (omega arith) sized);
      end = nodes_ends (nodes_in_line count) nodes sized;
    }

-- the node of a line before a block lies before the nodes of the block
node_before : (count step line block meeting : ℕ) → 0 < step → line < block * step → 1 ≤ meeting → meeting < count
    → nth_node (line_at count step line) meeting < block * (nodes_in_line count * step)
node_before count step line block meeting apart low one below =
    let ends = units_before (nodes_in_line count * step) (line / step) block (div_below line step block apart low) in
    omega (arith, units_before step (meeting - 1) (nodes_in_line count) (omega (arith, one, below)), ends, mod_below line step apart)

-- the first node of a line, if every line has this count of nodes
pub line_node_first : (unit line : ℕ) → line / 1 * (unit * 1) + line % 1 ≡ line * unit
line_node_first unit line =
    let whole : line / 1 ≡ line = omega arith in
    let none : line % 1 ≡ 0 = omega arith in
    (λ i. whole i * (unit * 1) + none i) ∙ grind arith

-- the end of the nodes of a line
pub line_nodes_end : (count line : ℕ) → nodes_end (line_at count 1 line) ≡ (line + 1) * nodes_in_line count
line_nodes_end count line = ap (λ n. n + nodes_in_line count * 1) (line_node_first (nodes_in_line count) line) ∙ grind arith

module _ {P : Type 0} (blank : P) (tells : P → List ℤ → Type 0) where
  -- the nodes of one more block of lines are correct
  pub block_kept : (count step : ℕ) (slots : List ℤ) (now after : List P) (block : ℕ) → 0 < step
      → ((column : ℕ) → column < step → ArePartsKept tells count (slot_of (line_of (block_at count step block) column) slots) (node_of blank (line_of (block_at count step block) column) after))
      → ((p : ℕ) → (p < block * (nodes_in_line count * step) ⊎ block * (nodes_in_line count * step) + nodes_in_line count * step ≤ p) → get_or after p blank ≡ get_or now p blank)
      → ((line : ℕ) → line < block * step → ArePartsKept tells count (slot_of (line_at count step line) slots) (node_of blank (line_at count step line) now))
      → (line : ℕ) → line < (block + 1) * step → ArePartsKept tells count (slot_of (line_at count step line) slots) (node_of blank (line_at count step line) after)
  block_kept count step slots now after block apart here others kept line high = elim (cases_lt line (block * step)) [
    | inl low ↦
        let l = line_at count step line in
        kept_alike tells count (slot_of l slots) (slot_of l slots) (node_of blank l now) (node_of blank l after) (λ i p. refl)
        (λ m one below. others (nth_node l m) (inl (node_before count step line block m apart low one below))) (kept line low)
    | inr enough ↦
        let sum : (block + 1) * step ≡ block * step + step = grind arith in
        let column = line - block * step in
        let below : column < step = omega (arith, enough, high, sum) in
        let lies = ap (line_at count step) (omega (arith, enough)) ∙ line_in_block count step block column below in
        subst (λ l. ArePartsKept tells count (slot_of l slots) (node_of blank l after)) (sym lies) (here column below)
  ]

  -- the nodes of one more contiguous line are correct
  pub line_kept : (count : ℕ) (slots : List ℤ) (now after : List P) (line : ℕ) → ArePartsKept tells count (slot_of (line_at count 1 line) slots) (node_of blank (line_at count 1 line) after)
      → ((p : ℕ) → p < line * nodes_in_line count → get_or after p blank ≡ get_or now p blank)
      → ((other : ℕ) → other < line → ArePartsKept tells count (slot_of (line_at count 1 other) slots) (node_of blank (line_at count 1 other) now))
      → (other : ℕ) → other < line + 1 → ArePartsKept tells count (slot_of (line_at count 1 other) slots) (node_of blank (line_at count 1 other) after)
  line_kept count slots now after line here others kept other below = elim (cases_lt other line) [
    | inl less ↦
        let l = line_at count 1 other in
        let ends = units_before (nodes_in_line count) other line less in
        kept_alike tells count (slot_of l slots) (slot_of l slots) (node_of blank l now) (node_of blank l after) (λ i p. refl)
        (λ m one high. others (nth_node l m) (omega (arith, line_node_first (nodes_in_line count) other, ends, one, high))) (kept other less)
    | inr enough ↦
        subst (λ k. ArePartsKept tells count (slot_of (line_at count 1 k) slots) (node_of blank (line_at count 1 k) after)) (omega (arith, below, enough)) here
  ]
