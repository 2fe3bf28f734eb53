-- A formula as a table of nodes, and the tree of each node.
use Rattle.std.{specs.Prelude.{◌≡◌, ◌<◌, ◌≤◌, ℕ, suc, List, [], ◌∷◌, ◌++◌, Bool, true, false, Option, Some, None, length, map, get_or}, specs.Option.{option_map}}
use Rattle.apl_expr.specs.Trees.{Tree, Const, Name, Monad, Dyad, Index, Reduce, Scan, Outer, Inner, before_argument, between_arguments, Positions, NoPositions, Empty, Filled, Numbers, positions_of}
use Rattle.formula_core.{specs.declared.table.Operand.{Operand}, specs.declared.table.Node.{Node}, specs.Meaning.{names_in, names_in_positions}}
use Rattle.formula_core.specs.declared.table.Operand.TheVariants as operand
use Rattle.formula_core.specs.declared.table.Node.TheVariants as node

abbrev mutual
  -- the trees of the operations in a tree, each after those inside it; literals and names have no node
  pub inside : Tree → List Tree
  inside (Const c) = []
  inside (Name x) = []
  inside (Monad f b) = inside b ++ Monad f b ∷ []
  inside (Dyad f a b) = inside a ++ (inside b ++ Dyad f a b ∷ [])
  inside (Index a ps) = inside a ++ (inside_positions ps ++ Index a ps ∷ [])
  inside (Reduce f k b) = inside b ++ Reduce f k b ∷ []
  inside (Scan f k b) = inside b ++ Scan f k b ∷ []
  inside (Outer f a b) = inside a ++ (inside b ++ Outer f a b ∷ [])
  inside (Inner f g a b) = inside a ++ (inside b ++ Inner f g a b ∷ [])

  pub inside_positions : Positions → List Tree
  inside_positions NoPositions = []
  inside_positions (Empty ps) = inside_positions ps
  inside_positions (Filled e ps) = inside e ++ inside_positions ps

-- the trees with a node: those in a tree, then the tree itself, even if it is a literal or name
abbrev pub subtrees : Tree → List Tree
subtrees (Const c) = Const c ∷ []
subtrees (Name x) = Name x ∷ []
subtrees t = inside t

abbrev pub tree_at : List Tree → ℕ → Tree
tree_at trees place = get_or trees place (Const (Numbers []))

-- the tree of an operand, from the names and the trees of the nodes
abbrev pub tree_of_operand : List (List ℕ) → List Tree → Operand → Tree
tree_of_operand names trees (operand.Literal literal) = Const literal.value
tree_of_operand names trees (operand.Name place) = Name (get_or names place [])
tree_of_operand names trees (operand.Node place) = tree_at trees place

-- the tree of an index of these operands
abbrev pub tree_of_index : List (List ℕ) → List Tree → Operand → List (Option Operand) → Tree
tree_of_index names trees array positions = Index (tree_of_operand names trees array) (positions_of (map (option_map (tree_of_operand names trees)) positions))

-- the tree of a node, from the names and the trees of the earlier nodes
abbrev pub tree_of_node : List (List ℕ) → List Tree → Node → Tree
tree_of_node names trees (node.Constant literal) = Const literal.value
tree_of_node names trees (node.Name place) = Name (get_or names place [])
tree_of_node names trees (node.Monad f right) = before_argument f (tree_of_operand names trees right)
tree_of_node names trees (node.Dyad f left right) = between_arguments f (tree_of_operand names trees left) (tree_of_operand names trees right)
tree_of_node names trees (node.Index array positions) = tree_of_index names trees array positions.items

-- the node applies a function
abbrev pub applies : Node → Bool
applies (node.Constant literal) = false
applies (node.Name place) = false
applies _ = true

-- the trees of further nodes, after these
abbrev pub trees_after : List (List ℕ) → List Tree → List Node → List Tree
trees_after names trees [] = trees
trees_after names trees (node ∷ nodes) = trees_after names (trees ++ tree_of_node names trees node ∷ []) nodes

-- the operand is a literal, one of the names, or a node before a place
abbrev pub IsOperand : ℕ → ℕ → Operand → Type 0
IsOperand names place (operand.Literal literal) = Unit {0}
IsOperand names place (operand.Name k) = k < names
IsOperand names place (operand.Node k) = k < place

-- each written position is a literal, one of the names, or a node before a place
abbrev pub AreOperands : ℕ → ℕ → List (Option Operand) → Type 0
AreOperands names place [] = Unit {0}
AreOperands names place (None ∷ operands) = AreOperands names place operands
AreOperands names place (Some o ∷ operands) = IsOperand names place o × AreOperands names place operands

-- each operand of the node at a place is a literal, one of the names, or an earlier node
abbrev pub IsNode : ℕ → ℕ → Node → Type 0
IsNode names place (node.Constant literal) = Unit {0}
IsNode names place (node.Name k) = k < names
IsNode names place (node.Monad f right) = IsOperand names place right
IsNode names place (node.Dyad f left right) = IsOperand names place left × IsOperand names place right
IsNode names place (node.Index array positions) = IsOperand names place array × AreOperands names place positions.items

-- each node, the first at this place, takes only literals, names and earlier nodes
abbrev pub IsTable : ℕ → ℕ → List Node → Type 0
IsTable names place [] = Unit {0}
IsTable names place (node ∷ nodes) = IsNode names place node × IsTable names (suc place) nodes

-- the names and nodes of a tree are appended, and this operand stands for it, however many names follow
pub record IsLowered (names names' : List (List ℕ)) (nodes nodes' : List Node) (t : Tree) (operand : Operand) : Type 0 where
  pub named : names' ≡ names ++ names_in t
  pub trees : (later : List (List ℕ)) → trees_after (names' ++ later) [] nodes' ≡ trees_after (names' ++ later) [] nodes ++ inside t
  pub stands : (later : List (List ℕ)) → tree_of_operand (names' ++ later) (trees_after (names' ++ later) [] nodes') operand ≡ t
  pub table : (count : ℕ) → length names' ≤ count → IsTable count 0 nodes → IsTable count 0 nodes'
  pub below : (count : ℕ) → length names' ≤ count → IsOperand count (length nodes') operand

-- the names and nodes of the positions are appended, and these operands stand for the written ones, however many names follow
pub record ArePositionsLowered (names names' : List (List ℕ)) (nodes nodes' : List Node) (positions : List (Option Tree)) (operands : List (Option Operand)) : Type 0 where
  pub named : names' ≡ names ++ names_in_positions (positions_of positions)
  pub trees : (later : List (List ℕ)) → trees_after (names' ++ later) [] nodes' ≡ trees_after (names' ++ later) [] nodes ++ inside_positions (positions_of positions)
  pub stand : (later : List (List ℕ)) → map (option_map (tree_of_operand (names' ++ later) (trees_after (names' ++ later) [] nodes'))) operands ≡ positions
  pub table : (count : ℕ) → length names' ≤ count → IsTable count 0 nodes → IsTable count 0 nodes'
  pub below : (count : ℕ) → length names' ≤ count → AreOperands count (length nodes') operands
