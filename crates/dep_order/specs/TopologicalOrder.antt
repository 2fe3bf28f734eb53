-- A graph lists the references of each node. An order has each node once, after all nodes that it refers to.
use Rattle.std.{specs.Prelude.{◌≡◌, ℕ, ◌<◌, ◌⊎◌, Bool, true, false, List, [], length, take, slice_index, slice_index_or, nat_eq}, specs.List.{Contains, IsDistinct}}
use Rattle.dep_order.{specs.Reachability.{IsCycle}, specs.declared.topological_order.OrderFault.{OrderFault}, specs.declared.topological_order.OrderFault.TheVariants.{Cycle, NoMemory}}

-- node a refers to node b
abbrev pub Points : List (List ℕ) → ℕ → ℕ → Type 0
Points graph a b = Contains (slice_index_or graph a []) b

-- every reference is to a node
abbrev pub IsInRange : List (List ℕ) → Type 0
IsInRange graph = (a b : ℕ) → Points graph a b → b < length graph

pub record IsOrder (graph : List (List ℕ)) (order : List ℕ) : Type 0 where
  pub once : IsDistinct nat_eq order
  pub all : (a : ℕ) → a < length graph → Contains order a
  pub nodes : (i : ℕ) → i < length order → slice_index order i < length graph
  pub after : (i b : ℕ) → i < length order → Points graph (slice_index order i) b → Contains (take i order) b

-- the node is marked
abbrev pub IsPlaced : List Bool → ℕ → Type 0
IsPlaced marks a = slice_index_or marks a false ≡ true

-- the node is not marked
abbrev pub IsUnplaced : List Bool → ℕ → Type 0
IsUnplaced marks a = (a < length marks) × (slice_index_or marks a true ≡ false)

-- each unmarked node refers to an unmarked node
abbrev pub IsStuck : List (List ℕ) → List Bool → Type 0
IsStuck graph marks = (a : ℕ) → IsUnplaced marks a → (b : ℕ) × Points graph a b × IsUnplaced marks b

-- a fault that names a cycle names a cycle of the graph
abbrev pub IsCycleOf : List (List ℕ) → OrderFault → Type 0
IsCycleOf graph (Cycle nodes) = IsCycle (Points graph) nodes.items
IsCycleOf graph NoMemory = Unit {0}

-- b is the node, or is marked
abbrev pub IsHit : List Bool → ℕ → ℕ → Type 0
IsHit marks node b = (b ≡ node) ⊎ IsPlaced marks b
