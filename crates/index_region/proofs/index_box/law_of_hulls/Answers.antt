use Rattle.std.{proofs.Common.{List, IsTrue, ◌≡◌, length}, proofs.lemmas.Bool.{and_parts}}
use Rattle.index_region.{specs.Boxes.{Interval, is_box}, proofs.Boxes.{within-hull_left, within-hull_right, hull_box}, proofs.Least.{hull_least}}
use Rattle.index_region.proofs.index_box.law_of_hulls.Goals as goal

pub returns : goal.returns
returns c = λ (a b : List Interval) (ha : IsTrue (is_box a)) (hb : IsTrue (is_box b)) (same : length a ≡ length b). record {
  box = hull_box a b same ha hb;
  left = λ index inside. within-hull_left a b index same inside;
  right = λ index inside. within-hull_right a b index same inside;
  least = λ other left right. hull_least a b other (and_parts _ _ ha).1 (and_parts _ _ hb).1 same left right;
}
