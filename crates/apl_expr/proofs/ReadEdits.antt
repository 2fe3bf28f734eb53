-- Edits of a cell by a number, and rows of numbers, that are read from bytes are lines of the grammar.
use Rattle.std.{proofs.Common.{ℕ, ◌*◌, ◌<◌, ◌≤◌, List, [], ◌∷◌, ◌++◌, length, Ok, refl, sym, ap, subst, arith, true, ◌≡◌, ◌+◌, length-append, lit<}, specs.Prelude.{ℤ, Some}, proofs.lemmas.List.{length-map}}
use Rattle.{smallvec.specs.SmallVec.{SmallVec}, names.specs.declared.name.Name.{Name}}
use Rattle.apl_tokens.{specs.Lexemes.{Lexeme, Number, Sign}, specs.Signs.{right_bracket, left_arrow}, specs.NumberEdits.{position_lexemes, edit_lexemes, row_numbers_of, AreSeveral, row_lexemes, Says}, specs.declared.row_edit.RowNumbers.{RowNumbers}, specs.declared.row_edit.RowNumbers.TheVariants.{One, Several}}
use Rattle.apl_expr.{specs.declared.expr.Literal.{Literal}, specs.declared.expr.Literal.TheVariants.{Num}, specs.Limits.{most_tokens}, specs.Trees.{Numbers, literal_of, is_plain}, specs.Grammar.{one}, specs.Lines.{IsCellPositions, last, further, nums_lit, cell, row, change, IsCommand}, specs.Answers.{TokensAnswer}}
use Rattle.apl_expr.proofs.Pairs.{numbers_read}
use Rattle.apl_expr.specs.declared.command.Change.TheVariants as changed
use Rattle.apl_expr.specs.declared.command.Command.TheVariants as command
use Rattle.apl_expr.specs.Trees as trees
use Rattle.apl_expr.specs.Lines as lines

positions_are : (ps : List ℤ) (ts : List Lexeme) → 0 < length ps → IsCellPositions (position_lexemes ps ++ ts) ps ts
positions_are [] ts some = absurd (omega (arith, some))
positions_are (p ∷ []) ts some = last
positions_are (p ∷ q ∷ ps) ts some = further (positions_are (q ∷ ps) ts (omega arith))

few_lexemes : (ps : List ℤ) → length (position_lexemes ps) ≤ 2 * length ps
few_lexemes [] = omega arith
few_lexemes (p ∷ []) = omega arith
few_lexemes (p ∷ q ∷ ps) = let rest = few_lexemes (q ∷ ps) in omega (arith, rest)

module _ (name : Name) (ps : SmallVec ℤ) (k : ℤ) (some : 0 < length ps.items) (few : length ps.items ≤ 4) where
  edit_is : IsCommand (edit_lexemes name ps.items k) (Ok (command.Change (changed.Cell name ps (Num k))))
  edit_is =
      let size = length-append (position_lexemes ps.items) (Sign right_bracket ∷ Sign left_arrow ∷ Number k ∷ []) in
      (omega (arith, size, few_lexemes ps.items, few), change (cell (positions_are ps.items _ some) (nums_lit one)), λ no. no, refl)

  pub edit_answers : (cs : List ℕ) → Says 0 cs (edit_lexemes name ps.items k) → TokensAnswer cs (Ok (command.Change (changed.Cell name ps (Num k))))
  edit_answers cs says = (says.0, says.1, subst (λ (ts : List Lexeme). IsCommand ts (Ok (command.Change (changed.Cell name ps (Num k))))) (sym says.2) edit_is)

-- a row of numbers
row_is : (name : Name) (ns : List ℤ) (l : Literal) → 0 < length ns → 3 + length ns ≤ most_tokens → literal_of l ≡ Numbers ns → is_plain l ≡ true → IsCommand (row_lexemes name ns) (Ok (command.Change (changed.Row name l)))
row_is name [] l some few is plain = absurd (omega (arith, some))
row_is name (n ∷ ns) l some few is plain =
    let size = length-map ns (λ (k : ℤ). Number k) in
    (omega (arith, size, few), change (row (nums_lit (numbers_read n ns)) (ap (λ (m : trees.Literal). Some (lines.Row name m)) (sym is))), λ no. no, plain)

some_numbers : (r : RowNumbers) → AreSeveral r → 0 < length (row_numbers_of r)
some_numbers (One n) several = lit< tt
some_numbers (Several ns) several = omega (arith, several)

pub row_answers : (name : Name) (r : RowNumbers) (l : Literal) → 3 + length (row_numbers_of r) ≤ most_tokens → literal_of l ≡ Numbers (row_numbers_of r) → (AreSeveral r → is_plain l ≡ true) → (cs : List ℕ) → Says 0 cs (row_lexemes name (row_numbers_of r)) × AreSeveral r → TokensAnswer cs (Ok (command.Change (changed.Row name l)))
row_answers name r l few is plain cs says =
    (says.0.0, says.0.1, subst (λ (ts : List Lexeme). IsCommand ts (Ok (command.Change (changed.Row name l)))) (sym says.0.2) (row_is name (row_numbers_of r) l (some_numbers r says.1) few is (plain says.1)))
