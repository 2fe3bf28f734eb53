-- The table of users: for each node, the list of the nodes that refer to it.
use Rattle.std.{specs.Prelude.{◌≡◌, ℕ, ◌<◌, ◌⊎◌, ◌++◌, ◌∷◌, Bool, true, List, [], length, Option, Some, None, IsSome, Vec, vec_capacity}, specs.Map.{lookup}, specs.List.{Contains}, specs.Option.{unwrap_or, option_map}}
use Rattle.dep_order.{specs.Reachability.{Chain}, specs.Follows.{Follows}}

-- nodes that the test finds equal are the same node
abbrev pub IsExact : {N : Type 0} → (N → N → Bool) → Type 0
IsExact {N} eq = (a b : N) → eq a b ≡ true → a ≡ b

-- the nodes that refer to this one, according to the table
abbrev pub users_of : {N S : Type 0} → (N → N → Bool) → List (N × Vec N S) → N → List N
users_of {N} {S} eq table node = unwrap_or (option_map (λ (s : Vec N S). s.items) (lookup (eq node) table)) []

-- a refers to b, according to the table
abbrev pub Uses : {N S : Type 0} → (N → N → Bool) → List (N × Vec N S) → N → N → Type 0
Uses eq table a b = Contains (users_of eq table b) a

-- every chain of references to this node has fewer inner nodes than the height
abbrev pub IsWithin : {N S : Type 0} → (N → N → Bool) → List (N × Vec N S) → ℕ → N → Type 0
IsWithin {N} eq table height node = (a : N) (via : List N) → Chain (Uses eq table) a via node → length via < height

-- each node comes after all nodes that refer to it
abbrev pub EachFollowsUsers : {N S : Type 0} → (N → N → Bool) → List (N × Vec N S) → List N → Type 0
EachFollowsUsers eq table found = Follows (λ a b. Uses eq table b a) (λ x. ⊥) found

-- the list has room for one more
abbrev pub TakesOneMore : {N S : Type 0} → Vec N S → Type 0
TakesOneMore those = length those.items < vec_capacity those

-- this node is the last of the list
abbrev pub EndsWith : {N : Type 0} → List N → N → Type 0
EndsWith {N} nodes node = (before : List N) × (nodes ≡ before ++ node ∷ [])

-- the list has room for one more, or ends with the node
abbrev pub IsReady : {N S : Type 0} → Vec N S → N → Type 0
IsReady those node = TakesOneMore those ⊎ EndsWith those.items node

-- each of these nodes has a list in the table, with room for one more
abbrev pub HasRoomFor : {N S : Type 0} → (N → N → Bool) → List (N × Vec N S) → List N → Type 0
HasRoomFor {N} {S} eq table references = (b : N) → Contains references b → (s : Vec N S) × (lookup (eq b) table ≡ Some s) × TakesOneMore s

-- each of these nodes has a list in the table that has room for one more or ends with the node
abbrev pub IsReadyFor : {N S : Type 0} → (N → N → Bool) → List (N × Vec N S) → N → List N → Type 0
IsReadyFor {N} {S} eq table node references = (b : N) → Contains references b → (s : Vec N S) × (lookup (eq b) table ≡ Some s) × IsReady s node

-- every list of the table has users, except those of these nodes
abbrev pub HasNoEmptyBut : {N S : Type 0} → (N → N → Bool) → List (N × Vec N S) → List N → Type 0
HasNoEmptyBut {N} eq table references = (b : N) → IsSome (lookup (eq b) table) → Contains references b ⊎ ((a : N) × Uses eq table a b)

-- no node of the list has a value
abbrev pub HasNothing : {N V : Type 0} → (N → N → Bool) → List (N × Option V) → Type 0
HasNothing {N} {V} eq found = (a : N) (v : Option V) → lookup (eq a) found ≡ Some v → v ≡ None
