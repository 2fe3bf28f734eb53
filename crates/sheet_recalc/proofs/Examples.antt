-- Worked examples of the definitions, each true by computation.
use Rattle.std.{proofs.Common.{ℕ, Some, Ok, Err, List, [], ◌∷◌, length, refl}, specs.Prelude.{ℤ, pos, negsuc, codes}}
use Rattle.arrays_core.{specs.Arrays.{ArrayValue}, specs.declared.item.Kind.{Kind}, specs.Outcomes.{Outcome, fault}, proofs.CaseWords.{◌⇒◌, AllSame, nums, ints, chars, scalar, no_text}}
use Rattle.apl_expr.{specs.Trees.{Tree, Const, Numbers, Text, Name, Dyad}, specs.declared.expr.Dyadic.TheVariants.{Scalar}}
use Rattle.function_names.{specs.declared.scalar.Scalar2.{Scalar2}, specs.declared.scalar.Scalar2.TheVariants.{Plus, Times, Divide}}
use Rattle.formula_core.specs.Meaning.{eval}
use Rattle.sheet_recalc.{specs.Names.{Names, Data, Formula, binding, put}, specs.Meaning.{val}, specs.Cells.{cell_put}, specs.Rows.{row_put}, specs.declared.refusal.Refusal.TheVariants.{NotFound, NotData, Rank, Index, Length, Domain, Limit}}
use Rattle.arrays_core.specs.declared.item.Kind.TheVariants as kind

abbrev numbers : List ℤ → ArrayValue
numbers zs = ints (length zs ∷ []) zs

abbrev A : List ℕ
A = codes "A"

abbrev B : List ℕ
B = codes "B"

abbrev both : Scalar2 → Tree → Tree → Tree
both f a b = Dyad (Scalar f) a b

abbrev number : ℕ → Tree
number n = Const (Numbers (pos n ∷ []))

-- 1 2+1 2 3
abbrev unequal : Tree
unequal = both Plus (Const (Numbers (pos 1 ∷ pos 2 ∷ []))) (Const (Numbers (pos 1 ∷ pos 2 ∷ pos 3 ∷ [])))

-- T←D×2 and U←T+D, over these data of D
abbrev sheet : ArrayValue → Names
sheet a = put (put (put [] (codes "D") (Data a)) (codes "T") (Formula (both Times (Name (codes "D")) (number 2)))) (codes "U") (Formula (both Plus (Name (codes "T")) (Name (codes "D"))))

formulas_follow : AllSame (
    val (sheet (numbers (pos 1 ∷ pos 2 ∷ pos 3 ∷ []))) (codes "U") ⇒ Ok (numbers (pos 3 ∷ pos 6 ∷ pos 9 ∷ [])) ∷
    val (sheet (numbers (pos 1 ∷ pos 10 ∷ pos 3 ∷ []))) (codes "U") ⇒ Ok (numbers (pos 3 ∷ pos 30 ∷ pos 9 ∷ [])) ∷  -- D[2]←10
    [])
formulas_follow = refl

-- data with a new cell, or the refusal
cells : AllSame (
    cell_put (Some (Data (numbers (pos 1 ∷ pos 2 ∷ pos 3 ∷ [])))) (pos 2 ∷ []) (Numbers (pos 10 ∷ [])) ⇒ Ok (numbers (pos 1 ∷ pos 10 ∷ pos 3 ∷ [])) ∷
    cell_put (binding [] A) (pos 1 ∷ []) (Numbers (pos 5 ∷ [])) ⇒ Err NotFound ∷
    cell_put (Some (Formula (number 1))) (pos 1 ∷ []) (Numbers (pos 5 ∷ [])) ⇒ Err NotData ∷
    cell_put (Some (Data (numbers (pos 1 ∷ [])))) (pos 1 ∷ pos 1 ∷ []) (Numbers (pos 5 ∷ [])) ⇒ Err Rank ∷  -- two positions
    cell_put (Some (Data (numbers (pos 1 ∷ [])))) (negsuc 0 ∷ []) (Numbers (pos 5 ∷ pos 6 ∷ [])) ⇒ Err Index ∷  -- below one
    cell_put (Some (Data (numbers (pos 1 ∷ [])))) (pos 1 ∷ []) (Text []) ⇒ Err Length ∷  -- no item
    cell_put (Some (Data (numbers (pos 1 ∷ [])))) (pos 1 ∷ []) (Text (0x61 ∷ [])) ⇒ Err Domain ∷  -- other type
    [])
cells = refl

-- data with a new row, or the refusal: )ROW C 'ef' over a table of characters, )ROW V 9, and an empty row of a table without columns
rows : AllSame (
    row_put (Some (Data (chars (2 ∷ 2 ∷ []) (0x61 ∷ 0x62 ∷ 0x63 ∷ 0x64 ∷ [])))) (Text (0x65 ∷ 0x66 ∷ [])) ⇒ Ok (chars (3 ∷ 2 ∷ []) (0x61 ∷ 0x62 ∷ 0x63 ∷ 0x64 ∷ 0x65 ∷ 0x66 ∷ [])) ∷
    row_put (Some (Data (numbers (pos 1 ∷ pos 2 ∷ [])))) (Numbers (pos 9 ∷ [])) ⇒ Ok (numbers (pos 1 ∷ pos 2 ∷ pos 9 ∷ [])) ∷
    row_put (Some (Data (nums (2 ∷ 0 ∷ []) []))) (Text []) ⇒ Ok (nums (3 ∷ 0 ∷ []) []) ∷
    row_put (binding [] A) (Numbers (pos 5 ∷ [])) ⇒ Err NotFound ∷
    row_put (Some (Formula (number 1))) (Numbers (pos 5 ∷ [])) ⇒ Err NotData ∷
    row_put (Some (Data (scalar 5))) (Text []) ⇒ Err Rank ∷
    row_put (Some (Data (nums (1 ∷ 1 ∷ 1 ∷ []) (5 ∷ [])))) (Numbers (pos 1 ∷ [])) ⇒ Err Rank ∷
    row_put (Some (Data (numbers (pos 1 ∷ [])))) (Text (0x61 ∷ 0x62 ∷ [])) ⇒ Err Length ∷  -- too long
    row_put (Some (Data no_text)) (Numbers (pos 5 ∷ [])) ⇒ Err Domain ∷  -- other type
    row_put (Some (Data (nums (1048576 ∷ 0 ∷ []) []))) (Numbers []) ⇒ Err Limit ∷
    [])
rows = refl

-- the kinds of errors, each with the name where it arose
abbrev error_in : Kind → List ℕ → Outcome
error_in k name = Err (record { kind = k; origin = Some name })

errors : AllSame (
    val (put [] A (Formula (both Plus (Name B) (number 1)))) A ⇒ error_in kind.Value A ∷  -- A←B+1, where B is absent
    val (put (put [] A (Formula (both Divide (number 1) (number 0)))) B (Formula (both Plus (Name A) (number 1)))) B ⇒ error_in kind.Domain A ∷  -- A←1÷0 and B←A+1
    val (put [] A (Formula (both Plus (number 9223372036854775807) (number 1)))) A ⇒ error_in kind.Limit A ∷  -- A←9223372036854775807+1
    val (put [] A (Formula unequal)) A ⇒ error_in kind.Length A ∷
    -- A←B+1 2, where B is a matrix
    val (put (put [] B (Data (nums (1 ∷ 2 ∷ []) (1 ∷ 2 ∷ [])))) A (Formula (both Plus (Name B) (Const (Numbers (pos 1 ∷ pos 2 ∷ [])))))) A ⇒ error_in kind.Rank A ∷
    -- (1 2+1 2 3)×B, shown: the right argument is evaluated first, and the error has no origin
    eval (both Times unequal (Name B)) (val []) ⇒ Err (fault kind.Value) ∷
    [])
errors = refl
