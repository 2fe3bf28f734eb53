-- The slots of a line of numbers, and the nodes of its parts.
use Rattle.std.specs.Prelude.{◌≡◌, ℕ, zero, suc, ◌+◌, ◌-◌, ◌*◌, ◌/◌, ◌%◌, ◌^◌, ◌<◌, ◌≤◌, min, nat_eq, ℤ, pos, List, [], ◌∷◌, length, get_or, if◌then◌else◌, ◌⊎◌}
use Rattle.fold_trees.specs.declared.line.Line.{Line}

-- the slot of a place
abbrev pub slot_at : Line → ℕ → ℕ
slot_at l place = l.slot + place * l.step

-- the slot of a node, counted from 1
abbrev pub nth_node : Line → ℕ → ℕ
nth_node l k = l.node + (k - 1) * l.step

-- the number in the slot of a place
abbrev pub slot_of : Line → List ℤ → ℕ → ℤ
slot_of l slots place = get_or slots (slot_at l place) (pos 0)

-- a list of this count of slots holds the line
pub record HasSlots (l : Line) (slots : ℕ) : Type 0 where
  pub few : l.count < 2 ^ 62
  pub apart : 0 < l.step
  pub fit : slots < 2 ^ 64
  pub slot : (place : ℕ) → place < l.count → slot_at l place < slots

-- the width of a part is a power of two, and a part begins at a multiple of its width
pub record IsPart (from width : ℕ) : Type 0 where
  pub level : ℕ
  pub place : ℕ
  pub width_is : width ≡ 2 ^ level
  pub from_is : from ≡ place * 2 ^ level

-- the other half of the part twice as wide; parts of one width are counted from 0
abbrev pub other_half : ℕ → ℕ
other_half block = if nat_eq (block % 2) 0 then block + 1 else block - 1

-- two lines agree on the numbers of a part
abbrev pub AreSameIn : (from width : ℕ) → (x y : ℕ → ℤ) → Type 0
AreSameIn from width x y = (i : ℕ) → from ≤ i → i < from + width → x i ≡ y i

-- the numbers with another one at a place
abbrev pub replaced : (ℕ → ℤ) → (place : ℕ) → ℤ → ℕ → ℤ
replaced x place number i = if nat_eq i place then number else x i

-- the line without its last number
abbrev pub shorter : Line → Line
shorter l = record { count = l.count - 1; step = l.step; slot = l.slot; node = l.node }

-- ---- the parts of two or more numbers: each has a node, at the place where its halves meet

-- the count of nodes of a line, by the count of its numbers
abbrev pub nodes_in_line : ℕ → ℕ
nodes_in_line count = count - 1

-- the node of the part whose halves meet at a place
abbrev pub node_of : {P : Type 0} → P → Line → List P → ℕ → P
node_of blank l nodes meeting = get_or nodes (nth_node l meeting) blank

-- a list of this count of nodes holds the line
pub record HasNodes (l : Line) (nodes : ℕ) : Type 0 where
  pub fit : nodes < 2 ^ 64
  pub node : (meeting : ℕ) → 1 ≤ meeting → meeting < l.count → nth_node l meeting < nodes

-- lists of these counts of slots and nodes hold the line
pub record IsIn (l : Line) (slot_count node_count : ℕ) : Type 0 where
  pub slots : HasSlots l slot_count
  pub nodes : HasNodes l node_count

-- ---- the nodes, by a relation between a part and its numbers

-- a count of numbers from a place on
abbrev pub segment : (ℕ → ℤ) → (from count : ℕ) → List ℤ
segment x from zero = []
segment x from (suc count) = x from ∷ segment x (from + 1) count

-- the numbers of the part with this width at a block; the part may end with the line
abbrev pub numbers_of_block : (count : ℕ) → (ℕ → ℤ) → (block width : ℕ) → List ℤ
numbers_of_block count x block width = segment x (block * width) (min width (count - block * width))

-- the node of a part is correct: it stands for the numbers of the part
abbrev pub IsKept : {P : Type 0} → (P → List ℤ → Type 0) → (count : ℕ) → (ℕ → ℤ) → (ℕ → P) → (from half : ℕ) → Type 0
IsKept tells count x node from half = from + half < count → tells (node (from + half)) (segment x from (min (2 * half) (count - from)))

-- all nodes are correct
abbrev pub ArePartsKept : {P : Type 0} → (P → List ℤ → Type 0) → (count : ℕ) → (ℕ → ℤ) → (ℕ → P) → Type 0
ArePartsKept tells count x node = (level place : ℕ) → IsKept tells count x node (place * (2 * 2 ^ level)) (2 ^ level)

-- the nodes within a part are correct
abbrev pub ArePartsKeptIn : {P : Type 0} → (P → List ℤ → Type 0) → (from width count : ℕ) → (ℕ → ℤ) → (ℕ → P) → Type 0
ArePartsKeptIn tells from width count x node = (level place : ℕ) → from ≤ place * (2 * 2 ^ level) → place * (2 * 2 ^ level) + 2 * 2 ^ level ≤ from + width
    → IsKept tells count x node (place * (2 * 2 ^ level)) (2 ^ level)

-- the nodes of the parts that do not contain a place are correct
abbrev pub ArePartsKeptBeside : {P : Type 0} → (P → List ℤ → Type 0) → (at count : ℕ) → (ℕ → ℤ) → (ℕ → P) → Type 0
ArePartsKeptBeside tells at count x node = (level place : ℕ) → (at < place * (2 * 2 ^ level) ⊎ place * (2 * 2 ^ level) + 2 * 2 ^ level ≤ at)
    → IsKept tells count x node (place * (2 * 2 ^ level)) (2 ^ level)

-- the nodes of the parts that end before a place, and of those that end there up to a width, are correct
abbrev pub ArePartsKeptUpTo : {P : Type 0} → (P → List ℤ → Type 0) → (end width count : ℕ) → (ℕ → ℤ) → (ℕ → P) → Type 0
ArePartsKeptUpTo tells end width count x node = (level place : ℕ)
    → (place * (2 * 2 ^ level) + 2 * 2 ^ level < end ⊎ place * (2 * 2 ^ level) + 2 * 2 ^ level ≡ end × 2 * 2 ^ level ≤ width)
    → IsKept tells count x node (place * (2 * 2 ^ level)) (2 ^ level)

-- the nodes of four numbers from a place on: of the first two, of all, of the last two
pub record AreFourKept {P : Type 0} (tells : P → List ℤ → Type 0) (x : ℕ → ℤ) (node : ℕ → P) (from : ℕ) : Type 0 where
  pub first : tells (node (from + 1)) (segment x from 2)
  pub all : tells (node (from + 2)) (segment x from 4)
  pub last : tells (node (from + 3)) (segment x (from + 2) 2)

-- ---- the parts joined for another number at a place

-- the block that holds a place at a level, by its index among blocks of one width
abbrev pub block_up : (place level : ℕ) → ℕ
block_up place zero = place
block_up place (suc level) = block_up place level / 2

-- one part for each width, from two numbers to all, stands for the block that contains the place
pub record AreJoined {P : Type 0} (tells : P → List ℤ → Type 0) (count : ℕ) (x : ℕ → ℤ) (place : ℕ) (parts : List P) : Type 0 where
  pub each : (level : ℕ) (blank : P) → level < length parts → tells (get_or parts level blank) (numbers_of_block count x (block_up place (suc level)) (2 ^ suc level))
  pub enough : count ≤ 2 ^ length parts
