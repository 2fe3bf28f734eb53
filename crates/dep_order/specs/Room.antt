-- Memory that a table lacks for an edit, allocated ahead of it.
use Rattle.std.{specs.Prelude.{◌≡◌, ◌+◌, ◌≤◌, ◌<◌, ◌⊎◌, ℕ, Bool, List, [], Option, Some, None, IsSome, length, Vec, vec_capacity}, specs.Map.{lookup}, specs.List.{Contains}}
use Rattle.indexmap.specs.IndexMap.{IndexMap, spare}
use Rattle.dep_order.specs.Users.{users_of, TakesOneMore}

-- a map with `count` entries has room for `more`, or a larger, empty map is brought that holds all of them
abbrev pub FindRoom : {K V S : Type 0} → (more count room : ℕ) → Option (IndexMap K V S) → Type 0
FindRoom more count room None = more ≤ room
FindRoom more count room (Some larger) = (larger.entries ≡ []) × (count + more ≤ spare larger)

-- an empty list with capacity for all of `those` and one more
pub record IsLarger {N S : Type 0} (s : Vec N S) (those : List N) : Type 0 where
  pub empty : s.items ≡ []
  pub room : length those < vec_capacity s

-- the node has a list in the table, with room for one more
abbrev pub HasRoomAt : {N S : Type 0} → (N → N → Bool) → List (N × Vec N S) → N → Type 0
HasRoomAt {N} {S} eq table b = (s : Vec N S) × (lookup (eq b) table ≡ Some s) × TakesOneMore s

-- `lists` are the lists that the table lacks for one more user of each of the references
pub record AreListsFor {N S : Type 0} (eq : N → N → Bool) (table : List (N × Vec N S)) (references : List N) (lists : List (N × Vec N S)) : Type 0 where
  pub enough : (b : N) → Contains references b → HasRoomAt eq table b ⊎ IsSome (lookup (eq b) lists)
  pub larger : (b : N) (s : Vec N S) → lookup (eq b) lists ≡ Some s → IsLarger s (users_of eq table b)
  pub asked : (b : N) → IsSome (lookup (eq b) lists) → Contains references b
