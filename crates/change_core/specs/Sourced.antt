-- Rules of one or two arguments, and of results whose items are copied from the arguments.
use Rattle.std.specs.Prelude.{ℕ, zero, suc, List, [], ◌∷◌, Bool, false, Option, Some, Result, set, get_or}
use Rattle.arrays_core.{specs.declared.item.Item.{Item}, specs.declared.item.ItemType.{ItemType}, specs.declared.item.Kind.{Kind}, specs.Arrays.{ArrayValue}}
use Rattle.index_region.{specs.ArgumentLists.{of_one_argument, of_two_arguments}, specs.Boxes.{Interval}, specs.Checks.{Form}, specs.Sources.{Source, Place, Fill, item_from}}
use Rattle.change_core.specs.RuleModels.{Use, RuleModel}

-- the intervals of a result for a changed box of an argument
abbrev pub Spread : Type 0
Spread = List Interval → Option (List Interval)

-- a changed interval on one axis (from 0) is replaced by its image; the other axes are kept
abbrev pub on_axis : ℕ → (Interval → Interval) → Spread
on_axis axis image region = Some (set region axis (image (get_or region axis (0, 0))))

-- the index list of the left or only argument that a source names
abbrev pub left_of : Source → List (List ℕ)
left_of (Place zero at) = at ∷ []
left_of (Place (suc n) at) = []
left_of Fill = []

-- the index list of the right argument that a source names
abbrev pub right_of : Source → List (List ℕ)
right_of (Place zero at) = []
right_of (Place (suc n) at) = at ∷ []
right_of Fill = []

-- an array of the same type and shape with other items
abbrev pub other : ArrayValue → List Item → ArrayValue
other d xs = record { item_type = d.item_type; shape = d.shape; items = xs }

-- the uses of one argument, and of two, given the shape of the result
abbrev pub uses_of_one : (List ℕ → ArrayValue → Use) → List ℕ → List ArrayValue → List Use
uses_of_one use_of shape (b ∷ []) = use_of shape b ∷ []
uses_of_one use_of shape args = []

abbrev pub uses_of_two : (List ℕ → ArrayValue → ArrayValue → Use) → (List ℕ → ArrayValue → ArrayValue → Use) → List ℕ → List ArrayValue → List Use
uses_of_two left right shape (a ∷ b ∷ []) = left shape a b ∷ right shape a b ∷ []
uses_of_two left right shape args = []

-- the uses of the left and of the right argument by a source
abbrev pub left_used : (List ℕ → Source) → Spread → Use
left_used source box = record { reads = λ index. left_of (source index); box = box }

abbrev pub right_used : (List ℕ → Source) → Spread → Use
right_used source box = record { reads = λ index. right_of (source index); box = box }

-- the rule of a function of one array, and of two, of which the left one may be a selector
abbrev pub one_rule : (ArrayValue → Result Form Kind) → (ArrayValue → List ℕ → Result Item Kind) → (List ℕ → ArrayValue → Use) → RuleModel
one_rule form item use_of = record {
  selectors = false ∷ [];
  form = λ args. of_one_argument form args;
  item = λ args index. of_one_argument (λ b. item b index) args;
  uses = λ shape args. uses_of_one use_of shape args;
  grows = λ args marks. false;
}

abbrev pub two_rule : Bool → (ArrayValue → ArrayValue → Result Form Kind) → (ArrayValue → ArrayValue → List ℕ → Result Item Kind)
    → (List ℕ → ArrayValue → ArrayValue → Use) → (List ℕ → ArrayValue → ArrayValue → Use) → RuleModel
two_rule selects form item left right = record {
  selectors = selects ∷ false ∷ [];
  form = λ args. of_two_arguments form args;
  item = λ args index. of_two_arguments (λ a b. item a b index) args;
  uses = λ shape args. uses_of_two left right shape args;
  grows = λ args marks. false;
}

-- a function of one array with items copied from it
abbrev pub one_sourced : (ArrayValue → Result Form Kind) → (ArrayValue → List ℕ → Source) → (List ℕ → ArrayValue → Spread) → RuleModel
one_sourced form source box = one_rule form (λ b index. item_from b b b.item_type (source b index)) (λ shape b. left_used (source b) (box shape b))

-- a function of two arrays with items copied from them
abbrev pub two_sourced : Bool → (ArrayValue → ArrayValue → Result Form Kind) → (ArrayValue → ArrayValue → ItemType) → (ArrayValue → ArrayValue → List ℕ → Source)
    → (List ℕ → ArrayValue → ArrayValue → Spread) → (List ℕ → ArrayValue → ArrayValue → Spread) → RuleModel
two_sourced selects form item_type source left right =
    two_rule selects form (λ a b index. item_from a b (item_type a b) (source a b index))
    (λ shape a b. left_used (source a b) (left shape a b)) (λ shape a b. right_used (source a b) (right shape a b))
