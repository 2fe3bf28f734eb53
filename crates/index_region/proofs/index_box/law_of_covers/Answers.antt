use Rattle.{std.proofs.Common.{List, ℕ, ◌≤◌, ◌<◌}, arrays_core.specs.Shapes.{size}}
use Rattle.index_region.{proofs.Boxes.{fits-cover}, proofs.Least.{cover_holds, cover_least}}
use Rattle.index_region.proofs.index_box.law_of_covers.Goals as goal

pub returns : goal.returns
returns c = λ (shape : List ℕ) (first last : ℕ) (order : first ≤ last) (below : last < size shape). record {
  fitting = fits-cover shape first last order below;
  holds = cover_holds shape first last below;
  least = λ other holds. cover_least shape first last other order below holds;
}
