-- The answers to a list of changes, and the sheet after them.
use Rattle.std.specs.Prelude.{◌≡◌, ℕ, List, [], ◌∷◌, Result, Ok, Err}
use Rattle.sheet_recalc.{specs.Names.{Names, SheetValue}, specs.Costs.{HasCost, HasTicks}, specs.Changes.{SheetChange, Define, Store, SetCell, AddRow, Erase, Accepts, Refuses}, specs.declared.refusal.Refusal.{Refusal}}
use Rattle.apl_expr.specs.Trees.{tree_of, literal_of}
use Rattle.apl_expr.specs.declared.command.Change as code
use Rattle.apl_expr.specs.declared.command.Change.TheVariants as made

-- the change of a sheet that a line asks for
abbrev pub change_of : code.Change → SheetChange
change_of (made.Define name tree) = Define name (tree_of tree)
change_of (made.Data name tree) = Store name (tree_of tree)
change_of (made.Cell name positions literal) = SetCell name positions.items (literal_of literal)
change_of (made.Row name literal) = AddRow name (literal_of literal)
change_of (made.Erase name) = Erase name

-- the state between changes: the names, and the cost and the ticks of the last change that was made
pub record SheetState : Type 0 where
  pub names : Names
  pub cost : ℕ
  pub ticks : ℕ

abbrev pub sheet_state_of : SheetValue → SheetState
sheet_state_of s = record { names = s.names; cost = s.cost; ticks = s.ticks }

-- the change may have this answer and lead from old to new; a refusal keeps the whole state
abbrev pub Step : SheetState → SheetChange → Result (Unit {0}) Refusal → SheetState → Type 0
Step old change (Ok u) new = Accepts old.names change new.names × HasCost old.names change new.names new.cost × HasTicks old.names change new.names new.ticks
Step old change (Err cause) new = Refuses old.names change cause × (new ≡ old)

-- the changes may have these answers, one after another, and lead to new
abbrev pub Run : SheetState → List SheetChange → List (Result (Unit {0}) Refusal) → SheetState → Type 0
Run old [] [] new = new ≡ old
Run old (change ∷ changes) (answer ∷ answers) new = (mid : SheetState) × Step old change answer mid × Run mid changes answers new
Run old [] (answer ∷ answers) new = ⊥
Run old (change ∷ changes) [] new = ⊥
