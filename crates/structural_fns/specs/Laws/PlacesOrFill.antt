-- Sources that are a place of the right argument if a test passes, and fill otherwise.
use Rattle.std.proofs.Common.{◌≡◌, List, ℕ, [], Bool, true, false, if◌then◌else◌, refl}
use Rattle.index_region.specs.Sources.{Place, Fill}
use Rattle.change_core.{specs.Tightness.{Each}, specs.Sourced.{left_of, right_of}}

pub none_left : (test : Bool) (place : List ℕ) → left_of (if test then Place 1 place else Fill) ≡ []
none_left true place = refl
none_left false place = refl

pub where_there : (P : List ℕ → Type 0) (test : Bool) (place : List ℕ) → (test ≡ true → P place) → Each P (right_of (if test then Place 1 place else Fill))
where_there P true place h = (h refl, tt)
where_there P false place h = tt
