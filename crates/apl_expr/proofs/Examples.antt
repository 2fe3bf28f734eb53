-- Worked examples of the grammar: the meanings of some lines.
use Rattle.{std.{proofs.Common.{ℕ, [], ◌∷◌, refl, arith}, specs.Prelude.{pos, negsuc, codes}}, apl_tokens.specs.Lexemes.{Number, Characters, Named, Sign}}
use Rattle.apl_expr.{specs.Symbols.{scalar_monad_of, scalar_dyad_of, array_monad, array_dyad, folding_of, folding_along_of, monadic_along_of, dyadic_along_of}, specs.Trees.{Tree, Numbers, Text, Const, Name, Monad, Dyad, Index, Reduce, Scan, Outer, Inner, Filled, Empty, NoPositions}, specs.Machine.{run}}
use Rattle.apl_expr.{specs.Grammar.{IsTreeOf, one, more}, specs.Lines.{IsLine, show, change, cell, define, row, erase, word, about, opened, numbered, nums_lit, text_lit, last, further, Meaning, Define, Cell, Row, Erase, Show, Names, Cost, Csv, Open, Step, Commit, Drop}}
use Rattle.apl_expr.{specs.declared.fault.ParseFault.TheVariants.{Syntax}, proofs.Complete.{complete}, proofs.Sound.{correct, run_none}, proofs.Changes.{no_change_word, no_front}, proofs.Commands.{open_none, open_err, step_none, drop_none}}
use Rattle.function_names.specs.declared.scalar.Scalar1.TheVariants as monad
use Rattle.function_names.specs.declared.scalar.Scalar2.TheVariants as dyad
use Rattle.apl_expr.specs.declared.expr.Monadic.TheVariants as monadic
use Rattle.apl_expr.specs.declared.expr.Dyadic.TheVariants as dyadic
use Rattle.function_names.specs.declared.along.Along.TheVariants as along

abbrev number : ℕ → Tree
number n = Const (Numbers (pos n ∷ []))

abbrev minus : Tree → Tree → Tree
minus a b = Dyad (dyadic.Scalar dyad.Minus) a b

-- expressions, and their trees
trees :
    -- 10-5-2: the right argument of a function is everything to its right
    IsTreeOf (Number (pos 10) ∷ Sign 0x2d ∷ Number (pos 5) ∷ Sign 0x2d ∷ Number (pos 2) ∷ []) (minus (number 10) (minus (number 5) (number 2))) ×
    -- (10-5)-2
    IsTreeOf (Sign 0x28 ∷ Number (pos 10) ∷ Sign 0x2d ∷ Number (pos 5) ∷ Sign 0x29 ∷ Sign 0x2d ∷ Number (pos 2) ∷ []) (minus (minus (number 10) (number 5)) (number 2)) ×
    -- A[1]
    IsTreeOf (Named (0x41 ∷ []) ∷ Sign 0x5b ∷ Number (pos 1) ∷ Sign 0x5d ∷ []) (Index (Name (0x41 ∷ [])) (Filled (number 1) NoPositions)) ×
    -- A[;2]: the first position is empty
    IsTreeOf (Named (0x41 ∷ []) ∷ Sign 0x5b ∷ Sign 0x3b ∷ Number (pos 2) ∷ Sign 0x5d ∷ []) (Index (Name (0x41 ∷ [])) (Empty (Filled (number 2) NoPositions))) ×
    -- A[B[1]]
    IsTreeOf (Named (0x41 ∷ []) ∷ Sign 0x5b ∷ Named (0x42 ∷ []) ∷ Sign 0x5b ∷ Number (pos 1) ∷ Sign 0x5d ∷ Sign 0x5d ∷ []) (Index (Name (0x41 ∷ [])) (Filled (Index (Name (0x42 ∷ [])) (Filled (number 1) NoPositions)) NoPositions)) ×
    -- A[1][2]: an index of the first result
    IsTreeOf (Named (0x41 ∷ []) ∷ Sign 0x5b ∷ Number (pos 1) ∷ Sign 0x5d ∷ Sign 0x5b ∷ Number (pos 2) ∷ Sign 0x5d ∷ []) (Index (Index (Name (0x41 ∷ [])) (Filled (number 1) NoPositions)) (Filled (number 2) NoPositions)) ×
    -- A/[2]B: the bracket after a function is its axis
    IsTreeOf (Named (0x41 ∷ []) ∷ Sign 0x2f ∷ Sign 0x5b ∷ Number (pos 2) ∷ Sign 0x5d ∷ Named (0x42 ∷ []) ∷ []) (Dyad (dyadic.Replicate (along.Axis (pos 2))) (Name (0x41 ∷ [])) (Name (0x42 ∷ []))) ×
    -- ⌈⍀[1]B: a scan, with its axis
    IsTreeOf (Sign 0x2308 ∷ Sign 0x2340 ∷ Sign 0x5b ∷ Number (pos 1) ∷ Sign 0x5d ∷ Named (0x42 ∷ []) ∷ []) (Scan dyad.Maximum (along.Axis (pos 1)) (Name (0x42 ∷ []))) ×
    -- A/+/B: the first sign is a function between two arguments, the other one makes a reduction
    IsTreeOf (Named (0x41 ∷ []) ∷ Sign 0x2f ∷ Sign 0x2b ∷ Sign 0x2f ∷ Named (0x42 ∷ []) ∷ []) (Dyad (dyadic.Replicate along.Last) (Name (0x41 ∷ [])) (Reduce dyad.Plus along.Last (Name (0x42 ∷ [])))) ×
    -- A∘.+B∘.×C
    IsTreeOf (Named (0x41 ∷ []) ∷ Sign 0x2218 ∷ Sign 0x2e ∷ Sign 0x2b ∷ Named (0x42 ∷ []) ∷ Sign 0x2218 ∷ Sign 0x2e ∷ Sign 0xd7 ∷ Named (0x43 ∷ []) ∷ []) (Outer dyad.Plus (Name (0x41 ∷ [])) (Outer dyad.Times (Name (0x42 ∷ [])) (Name (0x43 ∷ [])))) ×
    -- M+.×⍉M
    IsTreeOf (Named (0x4d ∷ []) ∷ Sign 0x2b ∷ Sign 0x2e ∷ Sign 0xd7 ∷ Sign 0x2349 ∷ Named (0x4d ∷ []) ∷ []) (Inner dyad.Plus dyad.Times (Name (0x4d ∷ [])) (Monad monadic.Transpose (Name (0x4d ∷ []))))
unfolding run scalar_monad_of scalar_dyad_of monadic_along_of dyadic_along_of folding_along_of array_dyad folding_of array_monad
trees = (
  correct _ _ refl,
  correct _ _ refl,
  correct _ _ refl,
  correct _ _ refl,
  correct _ _ refl,
  correct _ _ refl,
  correct _ _ refl,
  correct _ _ refl,
  correct _ _ refl,
  correct _ _ refl,
  correct _ _ refl,
)

-- texts that are not expressions
no_trees :
    -- (1)2 is no expression
    ((e : Tree) → IsTreeOf (Sign 0x28 ∷ Number (pos 1) ∷ Sign 0x29 ∷ Number (pos 2) ∷ []) e → ⊥) ×
    -- 1 2[1] is no expression: an index after a literal needs parentheses
    ((e : Tree) → IsTreeOf (Number (pos 1) ∷ Number (pos 2) ∷ Sign 0x5b ∷ Number (pos 1) ∷ Sign 0x5d ∷ []) e → ⊥) ×
    -- A+/B is no expression: a reduction has no left argument
    ((e : Tree) → IsTreeOf (Named (0x41 ∷ []) ∷ Sign 0x2b ∷ Sign 0x2f ∷ Named (0x42 ∷ []) ∷ []) e → ⊥) ×
    -- /B is no expression: `/` makes a reduction of a scalar function before it, and needs a left argument otherwise
    ((e : Tree) → IsTreeOf (Sign 0x2f ∷ Named (0x42 ∷ []) ∷ []) e → ⊥) ×
    -- A∘.~B is no expression: ~ is no scalar function of two arguments
    ((e : Tree) → IsTreeOf (Named (0x41 ∷ []) ∷ Sign 0x2218 ∷ Sign 0x2e ∷ Sign 0x7e ∷ Named (0x42 ∷ []) ∷ []) e → ⊥)
unfolding run scalar_monad_of scalar_dyad_of folding_of array_monad array_dyad
no_trees = (
  λ e is. run_none 0 [] e (complete is),
  λ e is. run_none 0 (Number (pos 1) ∷ Sign 0x5d ∷ []) e (complete is),
  λ e is. run_none 1 (Sign 0x2f ∷ Named (0x42 ∷ []) ∷ []) e (complete is),
  λ e is. run_none 0 (Named (0x42 ∷ []) ∷ []) e (complete is),
  λ e is. run_none 0 (Sign 0x2e ∷ Sign 0x7e ∷ Named (0x42 ∷ []) ∷ []) e (complete is),
)

-- lines and their meanings
lines :
    -- D[1] shows its value
    IsLine (Named (0x44 ∷ []) ∷ Sign 0x5b ∷ Number (pos 1) ∷ Sign 0x5d ∷ []) (Show (Index (Name (0x44 ∷ [])) (Filled (number 1) NoPositions))) ×
    -- A←-B
    IsLine (Named (0x41 ∷ []) ∷ Sign 0x2190 ∷ Sign 0x2d ∷ Named (0x42 ∷ []) ∷ []) (Define (0x41 ∷ []) (Monad (monadic.Scalar monad.Negative) (Name (0x42 ∷ [])))) ×
    -- M[2;3]←'x'
    IsLine (Named (0x4d ∷ []) ∷ Sign 0x5b ∷ Number (pos 2) ∷ Sign 0x3b ∷ Number (pos 3) ∷ Sign 0x5d ∷ Sign 0x2190 ∷ Characters (0x78 ∷ []) ∷ []) (Cell (0x4d ∷ []) (pos 2 ∷ pos 3 ∷ []) (Text (0x78 ∷ []))) ×
    -- )ROW ROW 1 2: after its word, ROW is a name
    IsLine (Sign 0x29 ∷ Named (codes "ROW") ∷ Named (codes "ROW") ∷ Number (pos 1) ∷ Number (pos 2) ∷ []) (Row (codes "ROW") (Numbers (pos 1 ∷ pos 2 ∷ []))) ×
    -- )ERASE CSV
    IsLine (Sign 0x29 ∷ Named (codes "ERASE") ∷ Named (codes "CSV") ∷ []) (Erase (codes "CSV")) ×
    -- )NAMES
    IsLine (Sign 0x29 ∷ Named (codes "NAMES") ∷ []) Names ×
    -- )COST
    IsLine (Sign 0x29 ∷ Named (codes "COST") ∷ []) Cost ×
    -- )CSV D
    IsLine (Sign 0x29 ∷ Named (codes "CSV") ∷ Named (codes "D") ∷ []) (Csv (codes "D")) ×
    -- )OPEN 2 D[1]←5
    IsLine (Sign 0x29 ∷ Named (codes "OPEN") ∷ Number (pos 2) ∷ Named (codes "D") ∷ Sign 0x5b ∷ Number (pos 1) ∷ Sign 0x5d ∷ Sign 0x2190 ∷ Number (pos 5) ∷ []) (Open (pos 2) (Cell (codes "D") (pos 1 ∷ []) (Numbers (pos 5 ∷ [])))) ×
    -- )OPEN ¯1 )ERASE OPEN: any number is of the grammar, and after its word, OPEN is a name
    IsLine (Sign 0x29 ∷ Named (codes "OPEN") ∷ Number (negsuc 0) ∷ Sign 0x29 ∷ Named (codes "ERASE") ∷ Named (codes "OPEN") ∷ []) (Open (negsuc 0) (Erase (codes "OPEN"))) ×
    -- )STEP 9
    IsLine (Sign 0x29 ∷ Named (codes "STEP") ∷ Number (pos 9) ∷ []) (Step (pos 9)) ×
    -- )COMMIT 1
    IsLine (Sign 0x29 ∷ Named (codes "COMMIT") ∷ Number (pos 1) ∷ []) (Commit (pos 1)) ×
    -- )DROP ¯3
    IsLine (Sign 0x29 ∷ Named (codes "DROP") ∷ Number (negsuc 2) ∷ []) (Drop (negsuc 2)) ×
    -- OPEN←1: elsewhere it is a name
    IsLine (Named (codes "OPEN") ∷ Sign 0x2190 ∷ Number (pos 1) ∷ []) (Define (codes "OPEN") (number 1))
unfolding run scalar_monad_of scalar_dyad_of
lines = (
  show (correct _ _ refl),
  change (define (correct _ _ refl)),
  change (cell (further last) text_lit),
  change (row (nums_lit (more one)) refl),
  change (erase refl),
  word refl,
  word refl,
  about refl,
  opened (cell last (nums_lit one)) refl,
  opened (erase refl) refl,
  numbered refl,
  numbered refl,
  numbered refl,
  change (define (correct _ _ refl)),
)

-- texts that are not lines
no_lines :
    -- )OPEN 2 )NAMES is no line: only a change can be opened
    ((m : Meaning) → IsLine (Sign 0x29 ∷ Named (codes "OPEN") ∷ Number (pos 2) ∷ Sign 0x29 ∷ Named (codes "NAMES") ∷ []) m → ⊥) ×
    -- )OPEN 1 )STEP 2 is none
    ((m : Meaning) → IsLine (Sign 0x29 ∷ Named (codes "OPEN") ∷ Number (pos 1) ∷ Sign 0x29 ∷ Named (codes "STEP") ∷ Number (pos 2) ∷ []) m → ⊥) ×
    -- )OPEN 1 )OPEN 2 A←1 is none
    ((m : Meaning) → IsLine (Sign 0x29 ∷ Named (codes "OPEN") ∷ Number (pos 1) ∷ Sign 0x29 ∷ Named (codes "OPEN") ∷ Number (pos 2) ∷ Named (codes "A") ∷ Sign 0x2190 ∷ Number (pos 1) ∷ []) m → ⊥) ×
    -- )OPEN 1 1+1 is none
    ((m : Meaning) → IsLine (Sign 0x29 ∷ Named (codes "OPEN") ∷ Number (pos 1) ∷ Number (pos 1) ∷ Sign 0x2b ∷ Number (pos 1) ∷ []) m → ⊥) ×
    -- )OPEN 1 is none
    ((m : Meaning) → IsLine (Sign 0x29 ∷ Named (codes "OPEN") ∷ Number (pos 1) ∷ []) m → ⊥) ×
    -- )OPEN A←1 is none
    ((m : Meaning) → IsLine (Sign 0x29 ∷ Named (codes "OPEN") ∷ Named (codes "A") ∷ Sign 0x2190 ∷ Number (pos 1) ∷ []) m → ⊥) ×
    -- )STEP and )STEP 1 2 are none
    ((m : Meaning) → IsLine (Sign 0x29 ∷ Named (codes "STEP") ∷ []) m → ⊥) ×
    ((m : Meaning) → IsLine (Sign 0x29 ∷ Named (codes "STEP") ∷ Number (pos 1) ∷ Number (pos 2) ∷ []) m → ⊥) ×
    -- )DROP A is none
    ((m : Meaning) → IsLine (Sign 0x29 ∷ Named (codes "DROP") ∷ Named (codes "A") ∷ []) m → ⊥)
no_lines = (
  (open_err (Number (pos 2) ∷ Sign 0x29 ∷ Named (codes "NAMES") ∷ []) (omega arith) (pos 2) _ refl Syntax (no_change_word (codes "NAMES") [] refl)).1,
  (open_err (Number (pos 1) ∷ Sign 0x29 ∷ Named (codes "STEP") ∷ Number (pos 2) ∷ []) (omega arith) (pos 1) _ refl Syntax (no_change_word (codes "STEP") (Number (pos 2) ∷ []) refl)).1,
  let behind = Number (pos 2) ∷ Named (codes "A") ∷ Sign 0x2190 ∷ Number (pos 1) ∷ [] in (open_err (Number (pos 1) ∷ Sign 0x29 ∷ Named (codes "OPEN") ∷ behind) (omega arith) (pos 1) _ refl Syntax (no_change_word (codes "OPEN") behind refl)).1,
  (open_err (Number (pos 1) ∷ Number (pos 1) ∷ Sign 0x2b ∷ Number (pos 1) ∷ []) (omega arith) (pos 1) _ refl Syntax (no_front _ refl refl refl)).1,
  (open_err (Number (pos 1) ∷ []) (omega arith) (pos 1) [] refl Syntax (no_front [] refl refl refl)).1,
  (open_none (Named (codes "A") ∷ Sign 0x2190 ∷ Number (pos 1) ∷ []) (omega arith) refl).1,
  (step_none [] (omega arith) refl).1,
  (step_none (Number (pos 1) ∷ Number (pos 2) ∷ []) (omega arith) refl).1,
  (drop_none (Named (codes "A") ∷ []) (omega arith) refl).1,
)
