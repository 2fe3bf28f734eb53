-- The trees of all lines of an array along one axis, in a list of numbers and a list of nodes.
use Rattle.std.specs.Prelude.{◌≡◌, ℕ, ◌+◌, ◌*◌, ◌/◌, ◌%◌, ◌^◌, ◌<◌, max, ℤ, List, [], length}
use Rattle.arrays_core.specs.Growth.{IsRoomy, HasRoom}
use Rattle.fold_trees.{specs.ArrayLines.{TreesValue, line_count, line_through}, specs.LineTrees.{nodes_in_line, slot_of, replaced, AreJoined}, specs.LineBlocks.{line_at, AreAllKept}}

-- a count of numbers fills whole blocks of lines
pub record AreLines (count step numbers : ℕ) : Type 0 where
  pub some : 0 < count
  pub apart : 0 < step
  pub whole : numbers % (count * step) ≡ 0

-- the trees of all lines, by the relation between a part and its numbers
pub record AreLineTrees {P : Type 0} (blank : P) (tells : P → List ℤ → Type 0) (count step : ℕ) (numbers : List ℤ) (nodes : List P) : Type 0 where
  pub lines : AreLines count step (length numbers)
  pub sized : length nodes ≡ length numbers / count * nodes_in_line count
  pub kept : AreAllKept blank tells count step numbers nodes

-- the trees, with the capacities of their two lists: each has room for the next power of two of its length
pub record ArePartTrees {P : Type 0} (blank : P) (tells : P → List ℤ → Type 0) (count step : ℕ) (numbers : List ℤ) (nodes : List P) (slot_capacity node_capacity : ℕ) : Type 0 where
  pub trees : AreLineTrees blank tells count step numbers nodes
  pub slot_room : IsRoomy (length numbers) slot_capacity
  pub node_room : IsRoomy (length nodes) node_capacity

-- a single line of all numbers; its length is 1 where there are none
pub record IsOneLine (t : TreesValue) : Type 0 where
  pub near : t.step ≡ 1
  pub long : t.count ≡ max 1 (length t.numbers)

-- the parts, one for each width, are those of the line of a place with another number there
abbrev pub AreJoinedFor : {P : Type 0} → (P → List ℤ → Type 0) → TreesValue → (place : ℕ) → ℤ → List P → Type 0
AreJoinedFor tells t place number parts =
    let at = place / t.step % t.count in
    AreJoined tells t.count (replaced (slot_of (line_at t.count t.step (line_through t.count t.step place)) t.numbers) at number) at parts

-- ---- further lines

-- two empty lists of these capacities, for the numbers and nodes of old and new lines where the old memory is too small
pub record AreRooms {P : Type 0} (old_lines : ℕ) (more : TreesValue) (slots : List ℤ) (nodes : List P) (slot_capacity node_capacity : ℕ) : Type 0 where
  pub no_slots : slots ≡ []
  pub no_nodes : nodes ≡ []
  pub few : (old_lines + line_count more) * more.count < 2 ^ 63
  pub slot_room : HasRoom (old_lines * more.count) ((old_lines + line_count more) * more.count) slot_capacity
  pub node_room : HasRoom (old_lines * nodes_in_line more.count) ((old_lines + line_count more) * nodes_in_line more.count) node_capacity

-- ---- one more place of each line

-- the nodes that one more number adds to each line, and
-- two empty lists of these capacities, for the longer lines where the old memory is too small
pub record AreNextPartRooms {P : Type 0} (count : ℕ) (numbers slots : List ℤ) (more nodes : List P) (slot_capacity node_capacity : ℕ) : Type 0 where
  pub more_nodes : length more ≡ length numbers
  pub no_slots : slots ≡ []
  pub no_nodes : nodes ≡ []
  pub few : (count + 1) * length numbers < 2 ^ 63
  pub slot_room : HasRoom (count * length numbers) ((count + 1) * length numbers) slot_capacity
  pub node_room : HasRoom (nodes_in_line count * length numbers) (count * length numbers) node_capacity
