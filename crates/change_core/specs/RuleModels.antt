-- The model of a rule: an array function and its changes.
use Rattle.std.specs.Prelude.{◌≡◌, ℕ, zero, suc, List, [], ◌∷◌, Bool, Option, None, Result, Ok, Err, IsTrue}
use Rattle.arrays_core.{specs.declared.item.Item.{Item}, specs.declared.item.Kind.{Kind}, specs.Arrays.{ArrayValue}, specs.Shapes.{size}}
use Rattle.index_region.{specs.Boxes.{Interval, fits}, specs.Checks.{Form}}

-- the use of an argument: the index lists that an item of the result reads, and the intervals of the result that a changed box of the
-- argument may change
pub record Use : Type 0 where
  pub reads : List ℕ → List (List ℕ)
  pub box : List Interval → Option (List Interval)

-- true if a result grows, given the new arguments and marks for those that grew
abbrev pub Growth : Type 0
Growth = List ArrayValue → List Bool → Bool

-- the model of an array function: its checks, items, uses of the arguments, and growth. The items of a selector decide which items of the
-- other arguments are read
pub record RuleModel : Type 0 where
  pub selectors : List Bool
  pub form : List ArrayValue → Result Form Kind
  pub item : List ArrayValue → List ℕ → Result Item Kind
  pub uses : List ℕ → List ArrayValue → List Use
  pub grows : Growth

-- the intervals of the result for a changed box of one argument
abbrev pub box_at : List Use → ℕ → List Interval → Option (List Interval)
box_at [] which region = None
box_at (u ∷ uses) zero region = u.box region
box_at (u ∷ uses) (suc which) region = box_at uses which region

-- the box lies in the argument with this index
abbrev pub FitsAt : List ArrayValue → ℕ → List Interval → Type 0
FitsAt [] which region = Unit {0}
FitsAt (a ∷ args) zero region = IsTrue (fits region a.shape)
FitsAt (a ∷ args) (suc which) region = FitsAt args which region

-- the checks pass
abbrev pub Passes : Result Form Kind → Type 0
Passes r = (f : Form) × (r ≡ Ok f)

-- the checks pass, and this is the shape of the result
abbrev pub HasShape : Result Form Kind → List ℕ → Type 0
HasShape (Ok f) shape = f.shape ≡ shape
HasShape (Err kind) shape = ⊥

-- the number of places of the result; 0 if a check fails
abbrev pub form_size : Result Form Kind → ℕ
form_size (Ok f) = size f.shape
form_size (Err kind) = 0
