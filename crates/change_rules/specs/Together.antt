-- The change of a node, by cases on the changed places of its arguments.
use Rattle.std.{specs.Prelude.{ℕ, List, Bool, true, false, ◌&&◌, ◌||◌, not, is_ok, if◌then◌else◌, map}, specs.List.{list_all, list_any}}
use Rattle.arrays_core.{specs.Arrays.{ArrayValue}, specs.Outcomes.{Outcome}}
use Rattle.index_region.{specs.declared.delta.Delta.{Delta}, specs.declared.delta.Delta.TheVariants.{Same, Whole}, specs.Moves.{changed_box}, specs.declared.moved.Moved.{Moved}, specs.declared.moved.Moved.TheVariants.{Not, Longer, Anew}}
use Rattle.change_core.specs.RuleModels.{RuleModel, form_size}
use Rattle.change_rules.{specs.Evaluation.{evaluation}, specs.Nodes.{grown_in, grown_size, reached_delta, reached_cost}}

abbrev pub is_unmoved : Moved → Bool
is_unmoved Not = true
is_unmoved _ = false

abbrev pub is_replaced : Moved → Bool
is_replaced Anew = true
is_replaced _ = false

abbrev pub is_longer : Moved → Bool
is_longer Longer = true
is_longer _ = false

-- no place changed, or there is one more place
abbrev pub is_longer_at_most : Moved → Bool
is_longer_at_most Not = true
is_longer_at_most Longer = true
is_longer_at_most _ = false

-- the node gets longer: every changed argument is longer, and the rule allows it
abbrev pub lengthens : RuleModel → List ArrayValue → List Moved → Bool
lengthens p seen moved = list_all is_longer_at_most moved && p.grows seen (map is_longer moved)

-- the change of a node that held an array, with an argument that is longer and none that was replaced
abbrev pub longer_delta : RuleModel → List ArrayValue → List Moved → Delta
longer_delta p seen moved = if lengthens p seen moved then grown_in (p.form seen) (p.item seen) else Whole (evaluation p seen)

abbrev pub longer_cost : RuleModel → List ArrayValue → List Moved → ℕ
longer_cost p seen moved = if lengthens p seen moved then grown_size (p.form seen) else form_size (p.form seen)

-- the change of a node, from its rule, the views of its arguments, their changed places and its old value
abbrev pub moved_delta : RuleModel → List ArrayValue → List Moved → Outcome → Delta
moved_delta p seen moved held =
    if list_all is_unmoved moved then Same
    else if list_any is_replaced moved || not (is_ok held) then Whole (evaluation p seen)
    else if list_any is_longer moved then longer_delta p seen moved
    else reached_delta p seen (map changed_box moved)

abbrev pub moved_cost : RuleModel → List ArrayValue → List Moved → Outcome → ℕ
moved_cost p seen moved held =
    if list_all is_unmoved moved then 0
    else if list_any is_replaced moved || not (is_ok held) then form_size (p.form seen)
    else if list_any is_longer moved then longer_cost p seen moved
    else reached_cost p seen (map changed_box moved)
