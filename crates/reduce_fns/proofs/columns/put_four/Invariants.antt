use Rattle.{std.proofs.Common.{◌≡◌, ℕ, ◌<◌, ◌≤◌, ◌++◌, [], ◌∷◌, get_or, length, pos, Ok}, item_fns.specs.Folds.{strided, folded}}
use Rattle.reduce_fns.proofs.columns.put_four.Given as goal

abbrev pub invariant-loop-column : goal.invariant-loop-column
invariant-loop-column g l = record {
  long : length l.folds ≡ l.columns;
  made : l.doubt ≡ 0 → (k : ℕ) → k < l.column → folded (g.S.TwoNumbers.gives l.step) (strided (pos 0) l.rows k l.columns 4 ++ get_or l.initial.folds k (pos 0) ∷ []) ≡ Ok (get_or l.folds k (pos 0));
  left : (k : ℕ) → l.column ≤ k → get_or l.folds k (pos 0) ≡ get_or l.initial.folds k (pos 0);
}
