-- The evaluation as a walk along the box of all places.
use Rattle.std.proofs.Common.{◌≡◌, ℕ, List, map, refl, ap, ◌∙◌, Result, Ok, Err}
use Rattle.arrays_core.{specs.declared.item.Item.{Item}, specs.declared.item.Kind.{Kind}, specs.Items.{all_or_first_error}, specs.Arrays.{with_items}, specs.Shapes.{indices}, specs.Outcomes.{Outcome, fault, given}}
use Rattle.index_region.{specs.declared.delta.Delta.{Delta}, specs.declared.delta.Delta.TheVariants.{Same, Whole}, specs.Boxes.{whole_of}, specs.Checks.{Form, whole}}
use Rattle.change_core.{specs.declared.reach.Reach.{Reach}, specs.declared.reach.Reach.TheVariants.{Unmoved, Inside, Anew}, proofs.Collected.{collected, along, collected_is, items_are}, proofs.Walking.{walk_is}}
use Rattle.change_rules.specs.Nodes.{patch_delta, delta_in}

abbrev pub failing : Kind → Outcome
failing k = Err (fault k)

abbrev pub array_of : Form → Result (List Item) Kind → Outcome
array_of f (Ok xs) = Ok (record { item_type = f.item_type; shape = f.shape; items = xs })
array_of f (Err k) = failing k

-- the checks, and then the items along the box of all places
abbrev pub walked : Result Form Kind → (List ℕ → Result Item Kind) → Outcome
walked (Ok f) item = array_of f (collected (along item (whole_of f.shape)))
walked (Err k) item = failing k

array_is : (f : Form) (r : Result (List Item) Kind) → array_of f r ≡ given (with_items f.item_type f.shape r)
array_is f (Ok xs) = refl
array_is f (Err k) = refl

pub walked_is : (form : Result Form Kind) (item : List ℕ → Result Item Kind) → walked form item ≡ given (whole form item)
walked_is (Ok f) item =
    ap (λ (rs : List (Result Item Kind)). array_of f (collected rs)) (walk_is f.shape item)
    ∙ ap (array_of f) (collected_is (map item (indices f.shape)))
    ∙ array_is f (all_or_first_error (map item (indices f.shape)))
walked_is (Err k) item = refl

-- the change of a node, item by item
abbrev pub walked_delta : Result Form Kind → (List ℕ → Result Item Kind) → Reach → Delta
walked_delta (Err k) item reach = Whole (failing k)
walked_delta (Ok f) item Unmoved = Same
walked_delta (Ok f) item (Inside region) = patch_delta f.item_type region (collected (along item region))
walked_delta (Ok f) item Anew = Whole (walked (Ok f) item)

pub walked_delta_is : (form : Result Form Kind) (item : List ℕ → Result Item Kind) (reach : Reach) → walked_delta form item reach ≡ delta_in form item reach
walked_delta_is (Err k) item reach = refl
walked_delta_is (Ok f) item Unmoved = refl
walked_delta_is (Ok f) item (Inside region) = ap (patch_delta f.item_type region) (items_are item region)
walked_delta_is (Ok f) item Anew = ap (λ (r : Outcome). Whole r) (walked_is (Ok f) item)
