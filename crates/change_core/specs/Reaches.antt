-- The part of a result that may change after boxes of the arguments changed.
use Rattle.std.specs.Prelude.{ℕ, List, ◌∷◌, Bool, true, false, Option, Some, None, Result, Ok, Err, IsTrue, if◌then◌else◌}
use Rattle.arrays_core.{specs.declared.item.Kind.{Kind}, specs.Arrays.{ArrayValue}}
use Rattle.index_region.{specs.Boxes.{Interval, is_within, fits, met, unless_empty, join_boxes}, specs.Checks.{Form}}
use Rattle.change_core.{specs.declared.reach.Reach.{Reach}, specs.declared.reach.Reach.TheVariants.{Unmoved, Inside, Anew}, specs.RuleModels.{Use, RuleModel}}

-- each changed box lies in its argument
abbrev pub Fits : ArrayValue → Option (List Interval) → Type 0
Fits a None = Unit {0}
Fits a (Some region) = IsTrue (fits region a.shape)

abbrev pub AllFit : List ArrayValue → List (Option (List Interval)) → Type 0
AllFit (a ∷ args) (moved ∷ moves) = Fits a moved × AllFit args moves
AllFit _ _ = Unit {0}

-- the part that lies in the result; None if it is empty
abbrev pub bounded : List ℕ → Option (List Interval) → Option (List Interval)
bounded shape None = None
bounded shape (Some region) = unless_empty (met shape region)

-- the part of the result that one argument may change
abbrev pub changed_by : List ℕ → Use → Option (List Interval) → Option (List Interval)
changed_by shape u None = None
changed_by shape u (Some region) = bounded shape (u.box region)

-- the part of the result that all arguments may change: the hull of the parts for each
abbrev pub changed : List ℕ → List Use → List (Option (List Interval)) → Option (List Interval)
changed shape (u ∷ uses) (m ∷ moves) = join_boxes (changed_by shape u m) (changed shape uses moves)
changed shape _ _ = None

-- a selector changed
abbrev pub is_anew : List Bool → List (Option (List Interval)) → Bool
is_anew (true ∷ selectors) (Some region ∷ moves) = true
is_anew (true ∷ selectors) (None ∷ moves) = is_anew selectors moves
is_anew (false ∷ selectors) (m ∷ moves) = is_anew selectors moves
is_anew _ _ = false

abbrev pub as_reach : Option (List Interval) → Reach
as_reach None = Unmoved
as_reach (Some region) = Inside region

-- the reach if no selector changed
abbrev pub reach_by : Result Form Kind → (List ℕ → List ArrayValue → List Use) → List ArrayValue → List (Option (List Interval)) → Reach
reach_by (Err kind) uses args moves = Anew
reach_by (Ok f) uses args moves = as_reach (changed f.shape (uses f.shape args) moves)

-- the reach, given the new arguments and the changed box of each
abbrev pub reach_of : RuleModel → List ArrayValue → List (Option (List Interval)) → Reach
reach_of p args moves = if is_anew p.selectors moves then Anew else reach_by (p.form args) p.uses args moves

-- the index list lies in the changed box of an argument
abbrev pub is_moved : Option (List Interval) → List ℕ → Bool
is_moved None index = false
is_moved (Some region) index = is_within region index

-- the index list lies in the reach
abbrev pub is_reached : Reach → List ℕ → Bool
is_reached Unmoved index = false
is_reached (Inside region) index = is_within region index
is_reached Anew index = true

-- the box of a reach lies in the result
abbrev pub LiesInResult : Result Form Kind → Reach → Type 0
LiesInResult (Ok f) (Inside region) = IsTrue (fits region f.shape)
LiesInResult _ _ = Unit {0}
