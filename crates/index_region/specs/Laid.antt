-- Views of an array: unchanged, with a patch over it, or with a tail behind it.
use Rattle.arrays_core.{specs.Arrays.{ArrayValue, IsArray}, specs.Growth.{grown_by}}
use Rattle.index_region.{specs.declared.seen.Laid.{Laid}, specs.declared.seen.Laid.TheVariants.{Nothing, Over, Behind}, specs.Patches.{FitsPatch, IsPatch, patched}, specs.Tails.{FitsTail, IsTail}}

-- the array that a view shows
abbrev pub seen : ArrayValue → Laid → ArrayValue
seen a Nothing = a
seen a (Over p) = patched a p.now
seen a (Behind t) = grown_by a t.now.items

-- the invariant of a view
abbrev pub IsLaid : ArrayValue → Laid → Type 0
IsLaid a Nothing = IsArray a
IsLaid a (Over p) = FitsPatch a p.now × (IsPatch p.now × IsArray (patched a p.now))
IsLaid a (Behind t) = FitsTail a t.now × (IsTail t.now × IsArray (grown_by a t.now.items))
