-- A binding is given by its array or its tree.
use Rattle.std.{specs.Prelude.{◌≡◌, ◌⊎◌, refl}, proofs.Common.{inl, inr}, specs.Coded.{Coded, code_by, coded⊎}}
use Rattle.apl_expr.specs.Trees.{Tree}
use Rattle.arrays_core.specs.Arrays.{ArrayValue}
use Rattle.sheet_recalc.specs.Names.{Binding, Data, Formula}

-- the array or the tree of a binding
abbrev sides : Binding → ArrayValue ⊎ Tree
sides (Data a) = inl a
sides (Formula t) = inr t

-- the binding to an array or to a tree
abbrev binding_from : ArrayValue ⊎ Tree → Binding
binding_from (inl a) = Data a
binding_from (inr t) = Formula t

-- the two are inverse
pub binding_again : (b : Binding) → binding_from (sides b) ≡ b
binding_again (Data a) = refl
binding_again (Formula t) = refl

-- a binding is coded as its array or its tree
abbrev pub coded_binding : Coded ArrayValue → Coded Tree → Coded Binding
coded_binding array tree = code_by (ArrayValue ⊎ Tree) (coded⊎ array tree) sides binding_from binding_again
