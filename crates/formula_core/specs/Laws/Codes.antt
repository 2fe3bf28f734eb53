-- Literals can be written as numbers.
use Rattle.std.{specs.Prelude.{◌≡◌, ℕ, ℤ, List, ◌⊎◌, refl}, proofs.Common.{inl, inr}, specs.Coded.{Coded, code_by, coded_list, coded_ℕ, coded_ℤ, coded⊎}}
use Rattle.apl_expr.specs.Trees.{Literal, Numbers, Text}

abbrev parted : Literal → List ℤ ⊎ List ℕ
parted (Numbers ns) = inl ns
parted (Text cs) = inr cs

abbrev joined : List ℤ ⊎ List ℕ → Literal
joined (inl ns) = Numbers ns
joined (inr cs) = Text cs

pub joined_again : (l : Literal) → joined (parted l) ≡ l
joined_again (Numbers ns) = refl
joined_again (Text cs) = refl

abbrev pub coded_literal : Coded Literal
coded_literal = code_by (List ℤ ⊎ List ℕ) (coded⊎ (coded_list coded_ℤ) (coded_list coded_ℕ)) parted joined joined_again
