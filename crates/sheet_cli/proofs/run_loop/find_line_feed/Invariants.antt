use Rattle.{std.proofs.Common.{◌≡◌, ◌≤◌, ◌-◌, [], length, take}, sheet_cli.specs.Lines.{ended_lines}}
use Rattle.sheet_cli.proofs.run_loop.find_line_feed.Given as goal

abbrev pub invariant-loop-i : goal.invariant-loop-i
invariant-loop-i l = (l.i ≤ length l.bytes) × (ended_lines (take l.i l.bytes) ≡ [])

abbrev pub decreases-loop-i : goal.decreases-loop-i
decreases-loop-i l = length l.bytes - l.i
