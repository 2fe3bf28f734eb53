use Rattle.std.{proofs.Common.{◌≡◌, ◌++◌}, specs.Prelude.{string_bytes}, specs.List.{flat_map, range_with_len}}
use Rattle.array_text.specs.Text.{character_line, part_of}
use Rattle.array_text.proofs.characters.CharPrinted.push_plane.Given as goal

abbrev pub invariant-loop-row : goal.invariant-loop-row
invariant-loop-row l = string_bytes l.out ≡ string_bytes l.initial.out
    ++ flat_map (λ row. character_line (part_of l.columns row l.characters)) (range_with_len 0 l.row)
