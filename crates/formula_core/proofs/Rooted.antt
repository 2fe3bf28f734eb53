-- A formula and its table.
use Rattle.std.{proofs.Common.{◌≡◌, ℕ, ◌+◌, ◌-◌, ◌<◌, true, false, Box, Global, List, [], ◌∷◌, ◌++◌, length, map, take, get_or, refl, sym, ap, ◌∙◌, subst, arith, append_assoc, cond}, specs.List.{count_by}, proofs.lemmas.List.{length-append, map-append}}
use Rattle.std.{proofs.lemmas.List.Elements.{All-nil, All-push, All-head, All-tail}, proofs.lemmas.List.Sums.{sum_by-append, count_by_more_yes, count_by_more_no}}
use Rattle.apl_expr.specs.Trees.{Tree, Const, Name, Monad, Dyad, Index, Reduce, Scan, Outer, Inner, Numbers}
use Rattle.formula_core.{specs.declared.constant.Constant.{Constant}, specs.declared.table.Operand.{Operand}, specs.declared.table.Node.{Node}, specs.Meaning.{names_in}, specs.Tables.{inside, inside_positions, subtrees, tree_at, tree_of_node, tree_of_operand, trees_after, applies, IsNode, IsTable, IsLowered}}
use Rattle.formula_core.{specs.declared.kept.Kept.{Kept}, specs.Holdings.{Holding, holding, holdings_of, nodes_of, not_worked_out, AreNotWorkedOut}, specs.Formulas.{root_of, IsTableOf, is_operation, operations}, proofs.Applied.{operation_before, operation_between}}
use Rattle.formula_core.proofs.Tabled.{trees_long, trees_more, table_more, at_last}
use Rattle.formula_core.specs.declared.table.Operand.TheVariants as operand
use Rattle.formula_core.specs.declared.table.Node.TheVariants as node

-- the subtrees before the tree itself, which comes last
abbrev pub before_root : Tree → List Tree
before_root (Const c) = []
before_root (Name x) = []
before_root (Monad f b) = inside b
before_root (Dyad f a b) = inside a ++ inside b
before_root (Index a ps) = inside a ++ inside_positions ps
before_root (Reduce f k b) = inside b
before_root (Scan f k b) = inside b
before_root (Outer f a b) = inside a ++ inside b
before_root (Inner f g a b) = inside a ++ inside b

pub root_last : (t : Tree) → subtrees t ≡ before_root t ++ t ∷ []
root_last (Const c) = refl
root_last (Name x) = refl
root_last (Monad f b) = refl
root_last (Dyad f a b) = sym (append_assoc (inside a) (inside b) (Dyad f a b ∷ []))
root_last (Index a ps) = sym (append_assoc (inside a) (inside_positions ps) (Index a ps ∷ []))
root_last (Reduce f k b) = refl
root_last (Scan f k b) = refl
root_last (Outer f a b) = sym (append_assoc (inside a) (inside b) (Outer f a b ∷ []))
root_last (Inner f g a b) = sym (append_assoc (inside a) (inside b) (Inner f g a b ∷ []))

pub root_found : (names : List (List ℕ)) (nodes : List Node) (t : Tree) → trees_after names [] nodes ≡ subtrees t → root_of names nodes ≡ t
root_found names nodes t is =
    let long : length nodes - 1 ≡ length (before_root t) = omega (arith, trees_long names [] nodes, ap (λ ts. length ts) (is ∙ root_last t), length-append (before_root t) (t ∷ [])) in
    ap (λ ts. tree_at ts (length nodes - 1)) (is ∙ root_last t) ∙ (ap (λ k. tree_at (before_root t ++ t ∷ []) k) long ∙ at_last (Const (Numbers [])) (before_root t) t [])

append_none : {X : Type 0} (xs : List X) → xs ++ [] ≡ xs
append_none [] = refl
append_none (x ∷ xs) = ap (λ rest. x ∷ rest) (append_none xs)

table_made : (names : List (List ℕ)) (nodes : List Node) (t : Tree) → names ≡ names_in t → trees_after names [] nodes ≡ subtrees t → IsTable (length names) 0 nodes → IsTableOf names nodes t
table_made names nodes t named is table = record { root = root_found names nodes t is; named = named; trees = is; table = table }

-- the trees if no further names follow
plain : (names : List (List ℕ)) (nodes : List Node) (ts : List Tree) → trees_after (names ++ []) [] nodes ≡ ts → trees_after names [] nodes ≡ ts
plain names nodes ts is = ap (λ ns. trees_after ns [] nodes) (sym (append_none names)) ∙ is

below_none : (names : List (List ℕ)) (nodes : List Node) (k : ℕ) → trees_after (names ++ []) [] nodes ≡ [] → k < length nodes → ⊥
below_none names nodes k is below = omega (arith, below, trees_long (names ++ []) [] nodes, ap (λ ts. length ts) is)

pub rooted_node : (names : List (List ℕ)) (nodes : List Node) (t : Tree) (k : ℕ) → IsLowered [] names [] nodes t (operand.Node k) → IsTableOf names nodes t
rooted_node names nodes (Name x) k l = absurd (below_none names nodes k (l.trees []) (l.below (length names) (omega arith)))
rooted_node names nodes (Const c) k l = absurd (below_none names nodes k (l.trees []) (l.below (length names) (omega arith)))
rooted_node names nodes (Monad f b) k l = table_made names nodes (Monad f b) l.named (plain names nodes (inside (Monad f b)) (l.trees [])) (l.table (length names) (omega arith) tt)
rooted_node names nodes (Dyad f a b) k l = table_made names nodes (Dyad f a b) l.named (plain names nodes (inside (Dyad f a b)) (l.trees [])) (l.table (length names) (omega arith) tt)
rooted_node names nodes (Index a ps) k l = table_made names nodes (Index a ps) l.named (plain names nodes (inside (Index a ps)) (l.trees [])) (l.table (length names) (omega arith) tt)
rooted_node names nodes (Reduce f i b) k l = table_made names nodes (Reduce f i b) l.named (plain names nodes (inside (Reduce f i b)) (l.trees [])) (l.table (length names) (omega arith) tt)
rooted_node names nodes (Scan f i b) k l = table_made names nodes (Scan f i b) l.named (plain names nodes (inside (Scan f i b)) (l.trees [])) (l.table (length names) (omega arith) tt)
rooted_node names nodes (Outer f a b) k l = table_made names nodes (Outer f a b) l.named (plain names nodes (inside (Outer f a b)) (l.trees [])) (l.table (length names) (omega arith) tt)
rooted_node names nodes (Inner f g a b) k l = table_made names nodes (Inner f g a b) l.named (plain names nodes (inside (Inner f g a b)) (l.trees [])) (l.table (length names) (omega arith) tt)

-- an appended node
pub nodes_pushed : (old new : List Kept) (k : Kept) (n : Node) → new ≡ old ++ k ∷ [] → k.node ≡ n → nodes_of new ≡ nodes_of old ++ n ∷ []
nodes_pushed old new k n is node_is = ap nodes_of is ∙ (map-append (λ (x : Kept). x.node) old (k ∷ []) ∙ ap (λ (m : Node). nodes_of old ++ m ∷ []) node_is)

pub none_worked_out : (nodes : List Kept) → nodes ≡ [] → AreNotWorkedOut nodes
none_worked_out nodes none = subst AreNotWorkedOut (sym none) (All-nil (λ (k : Kept). holding k ≡ not_worked_out))

pub new_pushed : (old new : List Kept) (k : Kept) → new ≡ old ++ k ∷ [] → holding k ≡ not_worked_out → AreNotWorkedOut old → AreNotWorkedOut new
new_pushed old new k is one all = subst AreNotWorkedOut (sym is) (All-push (λ (x : Kept). holding x ≡ not_worked_out) old k all one)

-- the holdings of new nodes
pub new_holdings : (nodes : List Kept) → AreNotWorkedOut nodes → holdings_of nodes ≡ map (λ (n : Node). not_worked_out) (nodes_of nodes)
new_holdings [] all = refl
new_holdings (k ∷ nodes) all =
    ap (λ (h : Holding). h ∷ holdings_of nodes) (All-head (λ (x : Kept). holding x ≡ not_worked_out) k nodes all)
    ∙ ap (λ (hs : List Holding). not_worked_out ∷ hs) (new_holdings nodes (All-tail (λ (x : Kept). holding x ≡ not_worked_out) k nodes all))

-- a leaf that is the whole tree has the only node
rooted_leaf : (names : List (List ℕ)) (nodes new : List Node) (t leaf : Tree) (n : Node) (o : Operand) → IsLowered [] names [] nodes t o → t ≡ leaf → inside leaf ≡ [] → subtrees leaf ≡ leaf ∷ []
    → tree_of_node names [] n ≡ leaf → IsNode (length names) 0 n → new ≡ nodes ++ n ∷ [] → IsTableOf names new t
rooted_leaf names nodes new t leaf n o l whole empty alone stands within is =
    let none : trees_after names [] nodes ≡ [] = plain names nodes (inside t) (l.trees []) ∙ (ap inside whole ∙ empty) in
    let long : length nodes ≡ 0 = omega (arith, trees_long names [] nodes, ap (λ ts. length ts) none) in
    table_made names new t l.named
    (ap (λ ns. trees_after names [] ns) is ∙ (trees_more names [] nodes (n ∷ []) ∙ (ap (λ ts. ts ++ tree_of_node names ts n ∷ []) none ∙ (ap (λ u. u ∷ []) stands ∙ (sym alone ∙ ap subtrees (sym whole))))))
    (subst (λ (ns : List Node). IsTable (length names) 0 ns) (sym is) (table_more (length names) 0 nodes n (l.table (length names) (omega arith) tt) (subst (λ (k : ℕ). IsNode (length names) k n) (omega (arith, long)) within)))

pub rooted_literal : (names : List (List ℕ)) (nodes new : List Node) (t : Tree) (c : Box Constant Global) → IsLowered [] names [] nodes t (operand.Literal c) → new ≡ nodes ++ node.Constant c ∷ [] → IsTableOf names new t
rooted_literal names nodes new t c l is = rooted_leaf names nodes new t (Const c.value) (node.Constant c) (operand.Literal c) l (sym (l.stands [])) refl refl refl tt is

pub rooted_name : (names : List (List ℕ)) (nodes new : List Node) (t : Tree) (k : ℕ) → IsLowered [] names [] nodes t (operand.Name k) → new ≡ nodes ++ node.Name k ∷ [] → IsTableOf names new t
rooted_name names nodes new t k l is =
    let x = get_or names k [] in
    let name : t ≡ Name x = sym (ap (λ ns. Name (get_or ns k [])) (sym (append_none names)) ∙ l.stands []) in
    rooted_leaf names nodes new t (Name x) (node.Name k) (operand.Name k) l name refl refl refl (l.below (length names) (omega arith)) is

-- a node applies a function if and only if its tree does
node_applies : (names : List (List ℕ)) (trees : List Tree) (n : Node) → is_operation (tree_of_node names trees n) ≡ applies n
node_applies names trees (node.Constant l) = refl
node_applies names trees (node.Name k) = refl
node_applies names trees (node.Monad f b) = operation_before f (tree_of_operand names trees b)
node_applies names trees (node.Dyad f a b) = operation_between f (tree_of_operand names trees a) (tree_of_operand names trees b)
node_applies names trees (node.Index a ps) = refl

applying : (names : List (List ℕ)) (trees : List Tree) (nodes : List Node) → count_by is_operation (trees_after names trees nodes) ≡ count_by is_operation trees + count_by applies nodes
applying names trees [] = omega arith
applying names trees (n ∷ nodes) =
    let t = tree_of_node names trees n in
    omega (
      arith,
      applying names (trees ++ t ∷ []) nodes,
      sum_by-append (λ u. cond (is_operation u) 1 0) trees (t ∷ []),
      sum_by-append (λ m. cond (applies m) 1 0) (n ∷ []) nodes,
      ap (λ b. 0 + cond b 1 0) (node_applies names trees n),
    )

of_nodes : (nodes : List Kept) → count_by (λ k. applies k.node) nodes ≡ count_by applies (nodes_of nodes)
of_nodes [] = refl
of_nodes (k ∷ nodes) = omega (arith, of_nodes nodes, sum_by-append (λ (x : Kept). cond (applies x.node) 1 0) (k ∷ []) nodes, sum_by-append (λ m. cond (applies m) 1 0) (k.node ∷ []) (nodes_of nodes))

pub operations_counted : (names : List (List ℕ)) (nodes : List Kept) (t : Tree) → IsTableOf names (nodes_of nodes) t → count_by (λ k. applies k.node) nodes ≡ operations t
operations_counted names nodes t table = omega (arith, of_nodes nodes, applying names [] (nodes_of nodes), ap (count_by is_operation) table.trees)

-- one more node is counted, or not
pub counted_yes : (nodes : List Kept) (k c : ℕ) (n : Kept) → c ≡ count_by (λ k. applies k.node) (take k nodes) → k < length nodes → n ≡ get_or nodes k n → applies n.node ≡ true → c + 1 ≡ count_by (λ k. applies k.node) (take (k + 1) nodes)
counted_yes nodes k c n is below at true_then = ap (λ m. m + 1) is ∙ sym (count_by_more_yes (λ (x : Kept). applies x.node) nodes k n below (ap (λ (x : Kept). applies x.node) (sym at) ∙ true_then))

pub counted_no : (nodes : List Kept) (k c : ℕ) (n : Kept) → c ≡ count_by (λ k. applies k.node) (take k nodes) → k < length nodes → n ≡ get_or nodes k n → applies n.node ≡ false → c ≡ count_by (λ k. applies k.node) (take (k + 1) nodes)
counted_no nodes k c n is below at false_then = is ∙ sym (count_by_more_no (λ (x : Kept). applies x.node) nodes k n below (ap (λ (x : Kept). applies x.node) (sym at) ∙ false_then))
