use Rattle.{std.{proofs.Common.{◌≡◌, true, take}, specs.List.{list_all}, specs.Str.{IsAscii}}, names.specs.Characters.{is_name_part}}
use Rattle.apl_tokens.proofs.fronts.count_parts.Given as goal

abbrev pub invariant-loop-index : goal.invariant-loop-index
invariant-loop-index l = (list_all is_name_part (take l.index l.text) ≡ true) × IsAscii (take l.index l.text)
