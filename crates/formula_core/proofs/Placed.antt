-- The node at a place of a table stands for the tree at that place.
use Rattle.std.{proofs.Common.{◌≡◌, ℕ, zero, suc, ◌+◌, ◌<◌, List, [], ◌∷◌, ◌++◌, length, map, get_or, refl, sym, ap, ◌∙◌, subst, arith, append_assoc}, specs.Option.{option_map}, proofs.lemmas.List.{length-append, append-nil}}
use Rattle.apl_expr.specs.Trees.{Tree, Index, before_argument, between_arguments, positions_of}
use Rattle.formula_core.{specs.declared.table.Node.{Node}, specs.Tables.{tree_at, tree_of_operand, tree_of_node, trees_after, IsNode, IsTable}, proofs.Tabled.{at_last, operand_front, operands_front}}
use Rattle.formula_core.specs.declared.table.Operand.TheVariants as operand
use Rattle.formula_core.specs.declared.table.Node.TheVariants as node

-- a node stands for the same tree if more trees follow
node_front : (names : List (List ℕ)) (count : ℕ) (ts us : List Tree) (n : Node) → IsNode count (length ts) n → tree_of_node names (ts ++ us) n ≡ tree_of_node names ts n
node_front names count ts us (node.Constant l) h = refl
node_front names count ts us (node.Name k) h = refl
node_front names count ts us (node.Monad f b) h = ap (λ t. before_argument f t) (operand_front names count ts us b h)
node_front names count ts us (node.Dyad f a b) h =
    ap (λ t. between_arguments f t (tree_of_operand names (ts ++ us) b)) (operand_front names count ts us a h.0) ∙ ap (λ t. between_arguments f (tree_of_operand names ts a) t) (operand_front names count ts us b h.1)
node_front names count ts us (node.Index a os) h =
    ap (λ t. Index t (positions_of (map (option_map (tree_of_operand names (ts ++ us))) os.items))) (operand_front names count ts us a h.0)
    ∙ ap (λ xs. Index (tree_of_operand names ts a) (positions_of xs)) (operands_front names count ts us os.items h.1)

-- the trees after further nodes begin with those before
begins : (names : List (List ℕ)) (ts : List Tree) (nodes : List Node) → (us : List Tree) × (trees_after names ts nodes ≡ ts ++ us)
begins names ts [] = ([], sym (append-nil ts))
begins names ts (n ∷ nodes) =
    let t = tree_of_node names ts n in
    let rest = begins names (ts ++ t ∷ []) nodes in
    (t ∷ rest.0, rest.1 ∙ append_assoc ts (t ∷ []) rest.0)

placed : (names : List (List ℕ)) (ts : List Tree) (nodes : List Node) → IsTable (length names) (length ts) nodes → (k : ℕ) → k < length nodes → (n : Node) → get_or nodes k n ≡ n
    → tree_at (trees_after names ts nodes) (length ts + k) ≡ tree_of_node names (trees_after names ts nodes) n
placed names ts [] table k below n is = absurd (omega (arith, below))
placed names ts (m ∷ nodes) table zero below n is =
    let t = tree_of_node names ts m in
    let rest = begins names (ts ++ t ∷ []) nodes in
    let all : trees_after names (ts ++ t ∷ []) nodes ≡ ts ++ t ∷ rest.0 = rest.1 ∙ append_assoc ts (t ∷ []) rest.0 in
    let here : tree_at (ts ++ t ∷ rest.0) (length ts + 0) ≡ t = ap (λ k. tree_at (ts ++ t ∷ rest.0) k) (omega arith) ∙ at_last _ ts t rest.0 in
    let front : tree_of_node names (ts ++ t ∷ rest.0) m ≡ t = node_front names (length names) ts (t ∷ rest.0) m table.0 in
    ap (λ us. tree_at us (length ts + 0)) all ∙ (here ∙ (sym front ∙ (ap (λ us. tree_of_node names us m) (sym all) ∙ ap (tree_of_node names (trees_after names (ts ++ t ∷ []) nodes)) is)))
placed names ts (m ∷ nodes) table (suc k) below n is =
    let t = tree_of_node names ts m in
    let long : length (ts ++ t ∷ []) ≡ suc (length ts) = length-append ts (t ∷ []) ∙ omega arith in
    ap (λ i. tree_at (trees_after names (ts ++ t ∷ []) nodes) i) (omega (arith, long))
    ∙ placed names (ts ++ t ∷ []) nodes (subst (λ (i : ℕ). IsTable (length names) i nodes) (sym long) table.1) k (omega (arith, below)) n is

pub tree_next : (names : List (List ℕ)) (nodes : List Node) → IsTable (length names) 0 nodes → (k : ℕ) → k < length nodes → (n : Node) → get_or nodes k n ≡ n
    → tree_at (trees_after names [] nodes) k ≡ tree_of_node names (trees_after names [] nodes) n
tree_next names nodes table k below n is = ap (λ i. tree_at (trees_after names [] nodes) i) (omega arith) ∙ placed names [] nodes table k below n is

-- the arguments of the node at a place come before it
pub node_at : (names place : ℕ) (nodes : List Node) → IsTable names place nodes → (k : ℕ) → k < length nodes → (n : Node) → get_or nodes k n ≡ n → IsNode names (place + k) n
node_at names place [] table k below n is = absurd (omega (arith, below))
node_at names place (m ∷ nodes) table zero below n is = subst (λ (x : Node). IsNode names (place + 0) x) is (subst (λ (i : ℕ). IsNode names i m) (omega arith) table.0)
node_at names place (m ∷ nodes) table (suc k) below n is = subst (λ (i : ℕ). IsNode names i n) (omega arith) (node_at names (suc place) nodes table.1 k (omega (arith, below)) n is)
