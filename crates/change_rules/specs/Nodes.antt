-- The change of a node, from the changes of its arguments.
use Rattle.std.{specs.Prelude.{◌≡◌, ℕ, List, [], ◌∷◌, ◌&&◌, Bool, true, false, ◌||◌, not, Option, Some, None, Result, Ok, Err, if◌then◌else◌, map, is_ok}, specs.Borrow.{Bor}, specs.List.{list_all, list_any}}
use Rattle.arrays_core.{specs.declared.item.Item.{Item}, specs.declared.item.ItemType.{ItemType}, specs.declared.item.Kind.{Kind}, specs.Arrays.{ArrayValue}, specs.Shapes.{size}, specs.Outcomes.{Outcome, fault, given}}
use Rattle.index_region.{specs.declared.delta.Delta.{Delta}, specs.declared.delta.Delta.TheVariants.{Same, Patch, Grown, Whole}, specs.declared.moved.Moved.{Moved}, specs.Boxes.{Interval, box_size}, specs.Checks.{Form, whole}, specs.Moves.{Tells}}
use Rattle.change_core.{specs.declared.reach.Reach.{Reach}, specs.declared.reach.Reach.TheVariants.{Unmoved, Inside, Anew}, specs.Parts.{items_in}, specs.Growth.{last_place}, specs.Reaches.{reach_of}, specs.RuleModels.{RuleModel, form_size}}
use Rattle.change_rules.specs.Evaluation.{evaluation}

-- an argument of a node: its new array, and its change
abbrev pub Argument : Type 0
Argument = ArrayValue × Bor Delta

abbrev pub views : List Argument → List ArrayValue
views args = map (λ a. a.0) args

-- the arguments have these views, and each `Moved` agrees with the change of its argument
abbrev pub AreArguments : List ArrayValue → List Moved → List Argument → Type 0
AreArguments [] [] [] = Unit {0}
AreArguments (v ∷ seen) (m ∷ moved) (a ∷ args) = (a.0 ≡ v) × Tells m a.1.now × AreArguments seen moved args
AreArguments _ _ _ = ⊥

abbrev pub is_same : Delta → Bool
is_same Same = true
is_same _ = false

abbrev pub is_whole : Delta → Bool
is_whole (Whole r) = true
is_whole _ = false

-- the change leaves an error
abbrev pub is_error : Delta → Bool
is_error (Whole (Err e)) = true
is_error _ = false

abbrev pub is_grown : Delta → Bool
is_grown (Grown t) = true
is_grown _ = false

-- the same, or patched
abbrev pub is_patched_at_most : Delta → Bool
is_patched_at_most Same = true
is_patched_at_most (Patch p) = true
is_patched_at_most _ = false

-- the same, or grown
abbrev pub is_grown_at_most : Delta → Bool
is_grown_at_most Same = true
is_grown_at_most (Grown t) = true
is_grown_at_most _ = false

-- the arguments that grew
abbrev pub marks : List Argument → List Bool
marks args = map (λ a. is_grown a.1.now) args

abbrev pub all_patched_at_most : List Argument → Bool
all_patched_at_most args = list_all (λ a. is_patched_at_most a.1.now) args

abbrev pub any_grown : List Argument → Bool
any_grown args = list_any (λ a. is_grown a.1.now) args

-- the changed box of an argument
abbrev pub moved_by : Delta → Option (List Interval)
moved_by (Patch p) = Some p.region
moved_by _ = None

abbrev pub moved : List Argument → List (Option (List Interval))
moved args = map (λ a. moved_by a.1.now) args

abbrev pub all_same : List Argument → Bool
all_same args = list_all (λ a. is_same a.1.now) args

-- an argument was replaced as a whole, or the node held an error
abbrev pub starts_anew : List Argument → Outcome → Bool
starts_anew args old = list_any (λ a. is_whole a.1.now) args || not (is_ok old)

-- a patch of the items of a box, or the first error among them
abbrev pub patch_delta : ItemType → List Interval → Result (List Item) Kind → Delta
patch_delta item_type region (Ok items) = Patch (record { region = region; item_type = item_type; items = items })
patch_delta item_type region (Err kind) = Whole (Err (fault kind))

-- nothing, a patch of the box, or the whole, according to the reach; or the error of the checks
abbrev pub delta_in : Result Form Kind → (List ℕ → Result Item Kind) → Reach → Delta
delta_in (Err kind) item reach = Whole (Err (fault kind))
delta_in (Ok f) item Unmoved = Same
delta_in (Ok f) item (Inside region) = patch_delta f.item_type region (items_in item region)
delta_in (Ok f) item Anew = Whole (given (whole (Ok f) item))

-- the change of a node that held an array and whose arguments changed in boxes; the checks run again
abbrev pub reached_delta : RuleModel → List ArrayValue → List (Option (List Interval)) → Delta
reached_delta p args moves = delta_in (p.form args) (p.item args) (reach_of p args moves)

-- the node grows: every changed argument grew, and the rule allows it
abbrev pub node_grows : RuleModel → List Argument → Bool
node_grows p args = list_all (λ a. is_grown_at_most a.1.now) args && p.grows (views args) (marks args)

-- the items of a box if there is one, or the first error among them
abbrev pub items_at : (List ℕ → Result Item Kind) → Option (List Interval) → Result (List Item) Kind
items_at item None = Ok []
items_at item (Some region) = items_in item region

-- a growth by one place with these items, or the first error among them
abbrev pub tail_delta : ItemType → List ℕ → Result (List Item) Kind → Delta
tail_delta item_type shape (Ok items) = Grown (record { item_type = item_type; shape = shape; items = items })
tail_delta item_type shape (Err kind) = Whole (Err (fault kind))

-- a growth by the items of the last place; or the error of the checks
abbrev pub grown_in : Result Form Kind → (List ℕ → Result Item Kind) → Delta
grown_in (Err kind) item = Whole (Err (fault kind))
grown_in (Ok f) item = tail_delta f.item_type f.shape (items_at item (last_place f.shape))

-- the change of a node that held an array, with an argument that grew and none that was replaced; the checks run again
abbrev pub grown_delta : RuleModel → List Argument → Delta
grown_delta p args = if node_grows p args then grown_in (p.form (views args)) (p.item (views args)) else Whole (evaluation p (views args))

-- the change of a node, from its rule, its arguments and its old value
abbrev pub node_delta : RuleModel → List Argument → Outcome → Delta
node_delta p args old =
    if all_same args then Same
    else if starts_anew args old then Whole (evaluation p (views args))
    else if any_grown args then grown_delta p args
    else reached_delta p (views args) (moved args)

-- the number of places of the result that may change
abbrev pub size_in : Result Form Kind → Reach → ℕ
size_in (Err kind) reach = 0
size_in (Ok f) Unmoved = 0
size_in (Ok f) (Inside region) = box_size region
size_in (Ok f) Anew = size f.shape

abbrev pub reached_cost : RuleModel → List ArrayValue → List (Option (List Interval)) → ℕ
reached_cost p args moves = size_in (p.form args) (reach_of p args moves)

-- the number of places of a box if there is one
abbrev pub size_at : Option (List Interval) → ℕ
size_at None = 0
size_at (Some region) = box_size region

abbrev pub grown_size : Result Form Kind → ℕ
grown_size (Err kind) = 0
grown_size (Ok f) = size_at (last_place f.shape)

abbrev pub grown_cost : RuleModel → List Argument → ℕ
grown_cost p args = if node_grows p args then grown_size (p.form (views args)) else form_size (p.form (views args))

-- the most items of the result that a change computes
abbrev pub node_cost : RuleModel → List Argument → Outcome → ℕ
node_cost p args old =
    if all_same args then 0
    else if starts_anew args old then form_size (p.form (views args))
    else if any_grown args then grown_cost p args
    else reached_cost p (views args) (moved args)
