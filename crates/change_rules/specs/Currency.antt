-- Correctness of a change.
use Rattle.std.specs.Prelude.{◌≡◌, ◌<◌, ◌⊎◌, length, true, ℕ, List, [], ◌∷◌, Ok, Err, IsTrue, IfOk, map, get_or}
use Rattle.arrays_core.{specs.declared.item.Kind.{Kind}, specs.Arrays.{ArrayValue, IsArray}, specs.Items.{fill}, specs.Growth.{grown_by}, specs.Outcomes.{Outcome, fault}}
use Rattle.index_region.{specs.declared.delta.Delta.{Delta}, specs.declared.delta.Delta.TheVariants.{Same, Patch, Grown, Whole}, specs.Answers.{IsPlaceOf}, specs.Boxes.{is_within, fits, box_offset}, specs.Checks.{Form}, specs.Tails.{TailValue}, specs.Patches.{PatchValue, patched}}
use Rattle.change_core.{specs.Growth.{last_place}, specs.RuleModels.{RuleModel}}
use Rattle.change_rules.{specs.Evaluation.{evaluation}, specs.Nodes.{Argument, views, is_grown, items_at}}

-- a change applied to an array or an error
abbrev pub applied : Delta → Outcome → Outcome
applied Same old = old
applied (Patch p) (Ok a) = Ok (patched a p)
applied (Patch p) (Err f) = Err f
applied (Grown t) (Ok a) = Ok (grown_by a t.items)
applied (Grown t) (Err f) = Err f
applied (Whole r) old = r

-- an argument is its old value with its change applied; the old value was a valid array or an error
pub record Became (old : Outcome) (a : Argument) : Type 0 where
  pub becomes : applied a.1.now old ≡ Ok a.0
  pub sound : IfOk old IsArray

-- an argument that grew has an axis
abbrev pub HasAxis : List Argument → Type 0
HasAxis [] = Unit {0}
HasAxis (a ∷ args) = (is_grown a.1.now ≡ true → 0 < length a.0.shape) × HasAxis args

-- each argument became its new value by its change
abbrev pub Shows : List Outcome → List Argument → Type 0
Shows [] [] = Unit {0}
Shows (old ∷ olds) (a ∷ args) = Became old a × Shows olds args
Shows _ _ = ⊥

-- a value is the evaluation of these arguments, if all are arrays
abbrev pub IsEvaluation : RuleModel → List Outcome → Outcome → Type 0
IsEvaluation p olds old = (arrays : List ArrayValue) → olds ≡ map (λ a. Ok a) arrays → old ≡ evaluation p arrays

-- if the node held the evaluation of the old arguments, the change applied to it is the evaluation of the new ones
abbrev pub BringsUpToDate : RuleModel → List Argument → Outcome → Delta → Type 0
BringsUpToDate p args old d = (olds : List Outcome) → Shows olds args → IsEvaluation p olds old → applied d old ≡ evaluation p (views args)

-- the patch lies in the result, and each of its items is the item of the result at its place
pub record IsRightPatch (p : RuleModel) (args : List ArrayValue) (patch : PatchValue) : Type 0 where
  pub form : Form
  pub passes : p.form args ≡ Ok form
  pub fit : fits patch.region form.shape ≡ true
  pub typed : patch.item_type ≡ form.item_type
  pub items : (index : List ℕ) → IsTrue (is_within patch.region index) → p.item args index ≡ Ok (get_or patch.items (box_offset patch.region index) (fill patch.item_type))

-- the error of some item of the result
pub record IsItemError (p : RuleModel) (args : List ArrayValue) (r : Outcome) : Type 0 where
  pub kind : Kind
  pub index : List ℕ
  pub place : IsPlaceOf (p.form args) index
  pub fails : p.item args index ≡ Err kind
  pub is : r ≡ Err (fault kind)

-- the type and the shape belong to the result, and the items to its last place
pub record IsRightTail (p : RuleModel) (args : List ArrayValue) (t : TailValue) : Type 0 where
  pub form : Form
  pub passes : p.form args ≡ Ok form
  pub shaped : t.shape ≡ form.shape
  pub typed : t.item_type ≡ form.item_type
  pub items : items_at (p.item args) (last_place form.shape) ≡ Ok t.items

-- a patch and a growth hold items of the result, and a whole is the evaluation or the error of an item
abbrev pub IsRight : RuleModel → List ArrayValue → Delta → Type 0
IsRight p args Same = Unit {0}
IsRight p args (Patch patch) = IsRightPatch p args patch
IsRight p args (Grown t) = IsRightTail p args t
IsRight p args (Whole r) = (r ≡ evaluation p args) ⊎ IsItemError p args r
