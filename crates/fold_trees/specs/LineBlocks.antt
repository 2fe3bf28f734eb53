-- Blocks of interleaved lines: each has as many lines as the step.
use Rattle.std.specs.Prelude.{◌≡◌, ℕ, ◌+◌, ◌*◌, ◌/◌, ◌%◌, ◌^◌, ◌<◌, ◌≤◌, ◌⊎◌, ℤ, List, length}
use Rattle.item_fns.specs.Folds.{line_start}
use Rattle.fold_trees.{specs.declared.line.Line.{Line}, specs.LineTrees.{slot_of, nodes_in_line, node_of, IsKept, ArePartsKept}}

-- a line of a block, by the first line of the block and an offset
abbrev pub line_of : Line → (column : ℕ) → Line
line_of first column = record { count = first.count; step = first.step; slot = first.slot + column; node = first.node + column }

-- the end of the slots of a block
abbrev pub slots_end : Line → ℕ
slots_end first = first.slot + first.count * first.step

-- the end of the nodes of a block
abbrev pub nodes_end : Line → ℕ
nodes_end first = first.node + nodes_in_line first.count * first.step

-- the first line of a block, by the index of the block from 0
abbrev pub block_at : (count step block : ℕ) → Line
block_at count step block = record { count = count; step = step; slot = block * (count * step); node = block * (nodes_in_line count * step) }

-- a line, by its index from 0
abbrev pub line_at : (count step line : ℕ) → Line
line_at count step line = record {
  count = count;
  step = step;
  slot = line_start step count line;
  node = line / step * (nodes_in_line count * step) + line % step;
}

-- a list of this count of slots holds the block
pub record HaveSlots (first : Line) (slots : ℕ) : Type 0 where
  pub few : first.count < 2 ^ 62
  pub apart : 0 < first.step
  pub fit : slots < 2 ^ 62
  pub end : slots_end first ≤ slots

-- a list of this count of nodes holds the block
pub record HaveNodes (first : Line) (nodes : ℕ) : Type 0 where
  pub fit : nodes < 2 ^ 62
  pub end : nodes_end first ≤ nodes

-- ---- the nodes of each line

-- the nodes of the parts that begin after a place, and of those at the place up to a width, are correct
abbrev pub ArePartsKeptBehind : {P : Type 0} → P → (P → List ℤ → Type 0) → (from width : ℕ) → Line → List ℤ → List P → Type 0
ArePartsKeptBehind blank tells from width first slots nodes = (column : ℕ) → column < first.step → (level place : ℕ)
    → (from < place * (2 * 2 ^ level) ⊎ place * (2 * 2 ^ level) ≡ from × 2 * 2 ^ level ≤ width)
    → IsKept tells first.count (slot_of (line_of first column) slots) (node_of blank (line_of first column) nodes) (place * (2 * 2 ^ level)) (2 ^ level)

-- the nodes of all parts from a place on are correct
abbrev pub ArePartsKeptFrom : {P : Type 0} → P → (P → List ℤ → Type 0) → (from : ℕ) → Line → List ℤ → List P → Type 0
ArePartsKeptFrom blank tells from first slots nodes = (column : ℕ) → column < first.step → (level place : ℕ) → from ≤ place * (2 * 2 ^ level)
    → IsKept tells first.count (slot_of (line_of first column) slots) (node_of blank (line_of first column) nodes) (place * (2 * 2 ^ level)) (2 ^ level)

-- the nodes of all parts of all lines are correct
abbrev pub AreAllKept : {P : Type 0} → P → (P → List ℤ → Type 0) → (count step : ℕ) → List ℤ → List P → Type 0
AreAllKept blank tells count step slots nodes =
    (line : ℕ) → line < length slots / count → ArePartsKept tells count (slot_of (line_at count step line) slots) (node_of blank (line_at count step line) nodes)
