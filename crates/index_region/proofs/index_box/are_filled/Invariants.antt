use Rattle.{std.{proofs.Common.{◌≡◌, ◌&&◌, nat_le, drop}, specs.List.{list_all}}, index_region.specs.Boxes.{Interval}}
use Rattle.index_region.proofs.index_box.are_filled.Given as goal

abbrev pub invariant-loop-first : goal.invariant-loop-first
invariant-loop-first l = list_all {X = Interval} (λ s. nat_le 1 s.0 && nat_le s.0 s.1) l.list ≡ list_all {X = Interval} (λ s. nat_le 1 s.0 && nat_le s.0 s.1) (drop l.first-index l.list)
