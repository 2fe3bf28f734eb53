use Rattle.{std.{proofs.Common.{◌≡◌, ◌++◌, ◌*◌}, specs.Prelude.{string_bytes}, specs.List.{join_by, range_with_len}}, array_text.specs.Text.{part_of, line_end}}
use Rattle.array_text.proofs.planes.push_planes.Given as goal

abbrev pub invariant-loop-part : goal.invariant-loop-part
invariant-loop-part g l = string_bytes l.out ≡ string_bytes l.initial.out
    ++ join_by (λ part. g.T.Printed.plane l.rows l.columns (part_of (l.rows * l.columns) part l.items)) line_end (range_with_len 0 l.part)
