-- The tree of a function between an operand of one token and an operand.
use Rattle.std.{proofs.Common.{◌≡◌, ◌∙◌, ℕ, ◌<◌, Some, List, [], ◌∷◌, length, map, sym, ap, subst, arith}, specs.Prelude.{ℤ}}
use Rattle.apl_tokens.{specs.Lexemes.{Lexeme, Number, Sign, lexeme, lexemes}, specs.declared.token.Spanned.{Spanned}}
use Rattle.apl_expr.{specs.declared.functions.Function2.{Function2}, specs.Grammar.{IsNums, one, more, IsExpr, operand, duo, IsWrittenOperand, nums, plain2, IsTreeOf}, specs.Symbols.{dyadic_of}, specs.Trees.{Tree, Numbers, Const, between_arguments}}

-- adjacent numbers are an operand
pub numbers_read : (n : ℤ) (ns : List ℤ) → IsNums (map (λ z. Number z) (n ∷ ns)) (n ∷ ns) []
numbers_read n [] = one
numbers_read n (m ∷ ns) = more (numbers_read m ns)

pub strand_read : (ts : List Lexeme) (ns : List ℤ) → 0 < length ts → ts ≡ map (λ z. Number z) ns → IsWrittenOperand ts (Const (Numbers ns)) []
strand_read ts [] some is = absurd (omega (arith, some, ap (λ (xs : List Lexeme). length xs) is))
strand_read ts (n ∷ ns) some is = subst (λ (xs : List Lexeme). IsWrittenOperand xs (Const (Numbers (n ∷ ns))) []) (sym is) (nums (numbers_read n ns))

pub pair_tree : (xs after rest : List Spanned) (x y : Spanned) (c : ℕ) (f : Function2) (a e : Tree) → xs ≡ x ∷ after → after ≡ y ∷ rest → lexeme y.token ≡ Sign c → dyadic_of c ≡ Some f
    → ((ts : List Lexeme) → IsWrittenOperand (lexeme x.token ∷ ts) a ts) → IsWrittenOperand (lexemes rest) e [] → IsTreeOf (lexemes xs) (between_arguments f a e)
pair_tree xs after rest x y c f a e is then sign function first last =
    subst (λ (us : List Spanned). IsTreeOf (lexemes us) (between_arguments f a e)) (sym (is ∙ ap (λ (us : List Spanned). x ∷ us) then))
    (subst (λ (l : Lexeme). IsExpr (lexeme x.token ∷ l ∷ lexemes rest) (between_arguments f a e) []) (sym sign) (duo (first _) (plain2 function) (operand last)))
