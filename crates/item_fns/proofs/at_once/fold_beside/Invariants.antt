use Rattle.std.{proofs.Common.{◌≡◌, ℕ, ◌<◌, get_or, drop, pos, ◌≤◌}, specs.List.{fold}}
use Rattle.item_fns.proofs.at_once.fold_beside.Given as goal

abbrev pub invariant-loop-place : goal.invariant-loop-place
invariant-loop-place g l = record {
  left : fold (g.S.AtOnce.plain l.step) l.left (drop l.place l.first) ≡ fold (g.S.AtOnce.plain l.step) (get_or l.first 0 (pos 0)) (drop 1 l.first);
  right : fold (g.S.AtOnce.plain l.step) l.right (drop l.place l.second) ≡ fold (g.S.AtOnce.plain l.step) (get_or l.second 0 (pos 0)) (drop 1 l.second);
  near : l.doubt < g.S.AtOnce.LIMIT → (k : ℕ) → k < l.place → g.S.AtOnce.near l.step 1 (get_or l.first k (pos 0)) × g.S.AtOnce.near l.step 1 (get_or l.second k (pos 0));
  low : 1 ≤ l.place;
}
