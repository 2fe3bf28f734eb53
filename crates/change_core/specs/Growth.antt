-- Growth by one place of the first axis: of arrays, arguments and results, and the law of growth of a rule.
use Rattle.std.specs.Prelude.{◌≡◌, ◌<◌, ℕ, List, [], ◌∷◌, Bool, true, false, length, Ok, Some, Option}
use Rattle.arrays_core.{specs.declared.item.Item.{Item}, specs.Arrays.{ArrayValue, IsArray}, specs.Shapes.{is_index_of}, specs.Growth.{FitsGrowth, grown_by, one_longer}}
use Rattle.index_region.{specs.Boxes.{Interval}, specs.Checks.{Form}}
use Rattle.change_core.{specs.Tightness.{Each}, specs.Reaches.{bounded}, specs.RuleModels.{Growth, RuleModel}}

-- the new array is the old one with the items of one more place
pub record IsGrown (old new : ArrayValue) : Type 0 where
  pub items : List Item
  pub fits : FitsGrowth old items
  pub is : new ≡ grown_by old items

-- a marked argument grew; any other is unchanged
abbrev pub Grew : Bool → ArrayValue → ArrayValue → Type 0
Grew true old new = IsGrown old new
Grew false old new = old ≡ new

abbrev pub AllGrew : List Bool → List ArrayValue → List ArrayValue → Type 0
AllGrew [] [] [] = Unit {0}
AllGrew (mark ∷ marks) (old ∷ olds) (new ∷ news) = Grew mark old new × AllGrew marks olds news
AllGrew _ _ _ = ⊥

-- the new result extends the old one by one place of its first axis, with the same type, later axes and old items (or errors)
pub record Extends (p : RuleModel) (olds news : List ArrayValue) (f g : Form) : Type 0 where
  pub some_axis : 0 < length f.shape
  pub shaped : g.shape ≡ one_longer f.shape
  pub typed : g.item_type ≡ f.item_type
  pub kept : (index : List ℕ) → is_index_of f.shape index ≡ true → p.item olds index ≡ p.item news index

abbrev pub never : Growth
never args marks = false

-- the law of growth: if `grows` holds, and the checks pass before and after, the result grows by one place
abbrev pub IsGrowing : RuleModel → Growth → Type 0
IsGrowing p grows = (marks : List Bool) (olds news : List ArrayValue) (f g : Form) → AllGrew marks olds news → Each IsArray olds → Each IsArray news → grows news marks ≡ true
    → p.form olds ≡ Ok f → p.form news ≡ Ok g → Extends p olds news f g

-- `grows` of a function of one argument and of two, by cases on the marks
abbrev pub one_grows : (ArrayValue → Bool) → Growth
one_grows grows (b ∷ []) (true ∷ []) = grows b
one_grows grows _ _ = false

abbrev pub two_grow : (ArrayValue → ArrayValue → Bool) → (ArrayValue → ArrayValue → Bool) → (ArrayValue → ArrayValue → Bool) → Growth
two_grow left right both (a ∷ b ∷ []) (true ∷ false ∷ []) = left a b
two_grow left right both (a ∷ b ∷ []) (false ∷ true ∷ []) = right a b
two_grow left right both (a ∷ b ∷ []) (true ∷ true ∷ []) = both a b
two_grow left right both _ _ = false

-- the rule with another `grows`
abbrev pub growing : RuleModel → Growth → RuleModel
growing p grows = record { selectors = p.selectors; form = p.form; item = p.item; uses = p.uses; grows = grows }

-- the last place of the first axis of a result
abbrev pub last_interval : List ℕ → List Interval
last_interval [] = []
last_interval (n ∷ shape) = (n, n) ∷ []

-- the box of the last place of the first axis; None if the shape has no items
abbrev pub last_place : List ℕ → Option (List Interval)
last_place shape = bounded shape (Some (last_interval shape))
