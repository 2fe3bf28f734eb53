-- The whole evaluation of a node.
use Rattle.std.specs.Prelude.{List}
use Rattle.arrays_core.{specs.Arrays.{ArrayValue}, specs.Outcomes.{Outcome, given}}
use Rattle.index_region.specs.Checks.{whole}
use Rattle.change_core.specs.RuleModels.{RuleModel}

-- the evaluation of a rule: the checks, then all items
abbrev pub evaluation : RuleModel → List ArrayValue → Outcome
evaluation p args = given (whole (p.form args) (p.item args))
