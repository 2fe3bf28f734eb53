use Rattle.std.proofs.Common.{◌≡◌, ℕ, ◌+◌, ◌*◌, ◌<◌, ◌+ℤ◌, get_or, drop, pos}
use Rattle.item_fns.specs.AtOnce.{IsSum, in_turn}
use Rattle.item_fns.proofs.at_once.fold_by_pairs.Given as goal

abbrev pub invariant-loop-pair : goal.invariant-loop-pair
invariant-loop-pair l = record {
  whole : l.doubt < 8796093022208 → l.total +ℤ in_turn (drop (2 * l.pair) l.numbers) ≡ in_turn l.numbers +ℤ l.end;
  total_near : l.doubt < 8796093022208 → IsSum (2 * l.pair + 1) l.total;
  end_near : l.doubt < 8796093022208 → IsSum 1 l.end;
  near : l.doubt < 8796093022208 → (k : ℕ) → k < 2 * l.pair → IsSum 1 (get_or l.numbers k (pos 0));
}
