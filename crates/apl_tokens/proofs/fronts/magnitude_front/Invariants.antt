use Rattle.std.{proofs.Common.{◌≡◌, true, take}, specs.Char.{is_ascii_digit}, specs.List.{list_all}, specs.Str.{IsAscii}}
use Rattle.apl_tokens.specs.Characters.{decimal_from}
use Rattle.apl_tokens.proofs.fronts.magnitude_front.Given as goal

abbrev pub invariant-loop-index : goal.invariant-loop-index
invariant-loop-index l = (list_all is_ascii_digit (take l.index l.text) ≡ true) × IsAscii (take l.index l.text) × (l.magnitude ≡ decimal_from 0 (take l.index l.text))
