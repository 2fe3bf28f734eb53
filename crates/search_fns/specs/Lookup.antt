-- Lists that are prepared for lookups by the keys of their items.
use Rattle.std.{specs.Prelude.{◌≡◌, ◌<◌, ℕ, ℤ, pos, ◌+ℤ◌, ◌≤ℤ◌, ◌<ℤ◌, List, length, slice_index, vec_len}, specs.Ordering.{int_eq}, specs.List.{All, position_from, position_or_len}, specs.HashMap.{get}}
use Rattle.search_fns.{specs.declared.lookup.Lookup.{Lookup}, specs.declared.lookup.Lookup.TheVariants.{Plain, Table, Map}}

-- no key lies outside the span from the least key
abbrev pub IsWithinSpan : ℤ → ℕ → List ℤ → Type 0
IsWithinSpan least span keys = All (λ z. (least ≤ℤ z) × (z <ℤ (least +ℤ pos span))) keys

-- the first place of each key of the span, or the length of the list
abbrev pub HasFirsts : ℤ → List ℕ → List ℤ → Type 0
HasFirsts least firsts keys = (j : ℕ) → j < length firsts → slice_index firsts j ≡ position_or_len (int_eq (least +ℤ pos j)) keys

-- the lookup is made for these keys
abbrev pub Finds : List ℤ → Lookup → Type 0
Finds keys Plain = Unit {0}
Finds keys (Table least firsts) = IsWithinSpan least (vec_len firsts) keys × HasFirsts least firsts.items keys
Finds keys (Map places) = (q : ℤ) → get int_eq places q ≡ position_from (int_eq q) 0 keys
