-- Index generator, ⍳N: the numbers from 1 up.
use Rattle.std.specs.Prelude.{ℕ, pos, unsigned_abs, ◌&&◌, List, map, get_or, Result, Ok, [], ◌∷◌, true}
use Rattle.arrays_core.{specs.declared.item.Item.{Item}, specs.declared.item.Item.TheVariants.{Num}, specs.declared.item.ItemType.TheVariants.{Nums}, specs.declared.item.Kind.{Kind}, specs.declared.item.Kind.TheVariants.{Rank, Length, Domain}, specs.Arrays.{ArrayValue}}
use Rattle.index_region.{specs.Checks.{Form, check, limited, whole}, specs.Arguments.{is_list, has_one_item, counts_as_numbers, numbers, none_negative}, specs.ArgumentLists.{of_one_argument}}
use Rattle.change_core.{specs.Growth.{never}, specs.RuleModels.{RuleModel}, specs.Sourced.{uses_of_one}, specs.Ways.{unread}}

-- RANK, LENGTH and DOMAIN in this order; then a vector of n numbers
abbrev pub generator_form : ArrayValue → Result Form Kind
generator_form n =
    check (is_list n) Rank
    (check (has_one_item n) Length
    (check (counts_as_numbers n && none_negative (numbers n)) Domain
    (limited (map unsigned_abs (numbers n)) Nums)))

-- the item at each place is its index
abbrev pub generator_item : ArrayValue → List ℕ → Result Item Kind
generator_item n index = Ok (Num (pos (get_or index 0 0)))

-- the checks, and then the items
abbrev pub generator_whole : ArrayValue → Result ArrayValue Kind
generator_whole n = whole (generator_form n) (generator_item n)

-- The change rule of the index generator, ⍳N: a change may change all of the result, and its shape.

-- the number is a selector
abbrev pub generator_rule : RuleModel
generator_rule = record {
  selectors = true ∷ [];
  form = λ args. of_one_argument generator_form args;
  item = λ args index. of_one_argument (λ n. generator_item n index) args;
  uses = λ shape args. uses_of_one (λ _ n. unread) shape args;
  grows = never;
}
