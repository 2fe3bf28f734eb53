-- The value of an evaluated argument.
use Rattle.std.{specs.Prelude.{List, [], ◌∷◌, map, Option, Some, None, Result, Ok, Err}, specs.Global.{Vec}}
use Rattle.selection_fns.specs.Index.{Position}
use Rattle.arrays_core.{specs.Arrays.{ArrayValue}, specs.declared.fault.Fault.{Fault}, specs.Outcomes.{Outcome}}
use Rattle.formula_core.{specs.declared.evaluation.Evaluated.{Evaluated}, specs.declared.evaluation.Evaluated.TheVariants.{Lent, Made}}

-- the array of an argument
abbrev pub array_in : Evaluated → ArrayValue
array_in (Lent a) = a.now
array_in (Made a) = a

-- the array of an argument, or its error
abbrev pub outcome_of : Result Evaluated Fault → Outcome
outcome_of (Ok o) = Ok (array_in o)
outcome_of (Err e) = Err e

-- a position of an index: the array of its argument, if it is written
abbrev pub position_in : Option Evaluated → Position
position_in None = None
position_in (Some o) = Some (array_in o)

-- the arrays of the written positions, in their order
abbrev pub written_arrays : List (Option Evaluated) → List ArrayValue
written_arrays [] = []
written_arrays (Some o ∷ positions) = array_in o ∷ written_arrays positions
written_arrays (None ∷ positions) = written_arrays positions

-- the positions of an index with their arrays, or their error
abbrev pub positions_in : Result (Vec (Option Evaluated)) Fault → Result (List Position) Fault
positions_in (Ok operands) = Ok (map position_in operands.items)
positions_in (Err e) = Err e
