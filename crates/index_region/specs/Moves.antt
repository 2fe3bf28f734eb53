-- The changed places of an argument.
use Rattle.std.specs.Prelude.{◌≡◌, List, Option, Some, None}
use Rattle.index_region.{specs.Boxes.{Interval}, specs.declared.delta.Delta.{Delta}, specs.declared.delta.Delta.TheVariants.{Same, Patch, Grown, Whole}, specs.declared.moved.Moved.{Moved}, specs.declared.moved.Moved.TheVariants.{Not, Inside, Longer, Anew}}

-- `Moved` agrees with the change
abbrev pub Tells : Moved → Delta → Type 0
Tells Not Same = Unit {0}
Tells (Inside region) (Patch p) = region.now ≡ p.region
Tells Longer (Grown t) = Unit {0}
Tells Anew (Whole r) = Unit {0}
Tells _ _ = ⊥

-- the box of the changed places, if there is one
abbrev pub changed_box : Moved → Option (List Interval)
changed_box (Inside region) = Some region.now
changed_box _ = None
