-- The results of calls, compared with the definitions.
use Rattle.smallvec.specs.SmallVec.{SmallVec}
use Rattle.std.specs.Prelude.{◌≡◌, IsTrue, ℕ, zero, suc, List, Result, Ok, Err}
use Rattle.arrays_core.{specs.declared.item.Item.{Item}, specs.declared.item.ItemType.{ItemType}, specs.declared.item.Kind.{Kind}, specs.Arrays.{ArrayValue}, specs.Items.{type_of}, specs.Shapes.{IsWithinLimits, is_index_of}, specs.Building.{IsRowOf}}
use Rattle.index_region.{specs.declared.source.Source.{Source as SourceValue}, specs.declared.source.Source.TheVariants.{Place as PlaceValue, Fill as FillValue}, specs.Checks.{Form, form_of}, specs.Sources.{Source, Place, Fill}}

-- the wanted form, with an inline shape within the limits; or the wanted error
abbrev pub IsFormAnswerTo : Result Form Kind → Result (SmallVec ℕ × ItemType) Kind → Type 0
IsFormAnswerTo wanted (Ok form) = (wanted ≡ Ok (form_of form.0.items form.1)) × (form.0.capacity ≡ 4) × IsWithinLimits form.0.items
IsFormAnswerTo wanted (Err kind) = wanted ≡ Err kind

-- the checks pass, and `index` is an index list of the result
abbrev pub IsPlaceOf : Result Form Kind → List ℕ → Type 0
IsPlaceOf (Ok form) index = IsTrue (is_index_of form.shape index)
IsPlaceOf (Err kind) index = ⊥

-- the item has the type that the checks return
abbrev pub HasTypeOf : Result Form Kind → Item → Type 0
HasTypeOf (Ok form) item = type_of item ≡ form.item_type
HasTypeOf (Err kind) item = Unit {0}

-- the checks pass; `row` is an index list of all axes of the result but the last, which has `count` places; the items have this type
abbrev pub IsRowIn : Result Form Kind → List ℕ → ℕ → ItemType → Type 0
IsRowIn (Ok form) row count item_type = IsRowOf form.shape row count × (form.item_type ≡ item_type)
IsRowIn (Err kind) row count item_type = ⊥

-- the source that a value of the program means
abbrev pub source_value : SourceValue → Source
source_value (PlaceValue arg at) = Place arg at.items
source_value FillValue = Fill

-- the index list of a source is inline and lies in its argument; the arguments are a and b
abbrev pub IsSourceIn : ArrayValue → ArrayValue → SourceValue → Type 0
IsSourceIn a b (PlaceValue zero at) = IsTrue (is_index_of a.shape at.items) × (at.capacity ≡ 4)
IsSourceIn a b (PlaceValue (suc n) at) = IsTrue (is_index_of b.shape at.items) × (at.capacity ≡ 4)
IsSourceIn a b FillValue = Unit {0}
