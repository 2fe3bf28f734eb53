-- The trees of a table while names and nodes are appended.
use Rattle.std.{proofs.Common.{◌≡◌, ℕ, suc, ◌+◌, ◌<◌, ◌≤◌, List, [], ◌∷◌, ◌++◌, length, map, take, get_or, add-one, Option, Some, None, refl, sym, ap, ◌∙◌, subst, arith, append_assoc}, specs.Prelude.{Result, Ok, Err, OnOk, IfOk}, specs.Option.{option_map}}
use Rattle.std.{proofs.lemmas.List.{length-append, map-append, get_or_append_left}, proofs.Math.Seq.{take-suc}, specs.Global.{Vec}}
use Rattle.apl_expr.{specs.declared.expr.Expr.{Expr}, specs.Trees.{Tree, Const, Name, Index, before_argument, between_arguments, Numbers, position_of, positions_of, Literal}, specs.declared.functions.Function1.{Function1}, specs.declared.functions.Function2.{Function2}}
use Rattle.formula_core.{specs.declared.table.Operand.{Operand}, specs.declared.table.Node.{Node}, specs.Meaning.{names_in, names_in_positions}, specs.Tables.{inside, inside_positions, tree_at, tree_of_operand, tree_of_node, trees_after, IsOperand, AreOperands, IsNode, IsTable, IsLowered, ArePositionsLowered}}
use Rattle.formula_core.proofs.Applied.{inside_before, inside_between, names_before, names_between}
use Rattle.formula_core.specs.declared.table.Operand.TheVariants as operand
use Rattle.formula_core.specs.declared.table.Node.TheVariants as node

pub trees_more : (names : List (List ℕ)) (trees : List Tree) (xs ys : List Node) → trees_after names trees (xs ++ ys) ≡ trees_after names (trees_after names trees xs) ys
trees_more names trees [] ys = refl
trees_more names trees (x ∷ xs) ys = trees_more names (trees ++ tree_of_node names trees x ∷ []) xs ys

pub trees_long : (names : List (List ℕ)) (trees : List Tree) (nodes : List Node) → length (trees_after names trees nodes) ≡ length trees + length nodes
trees_long names trees [] = omega arith
trees_long names trees (x ∷ xs) = let rest = trees_long names (trees ++ tree_of_node names trees x ∷ []) xs in omega (arith, rest, length-append trees (tree_of_node names trees x ∷ []))

module _ {X : Type 0} (d : X) where
  pub at_last : (xs : List X) (x : X) (ys : List X) → get_or (xs ++ x ∷ ys) (length xs) d ≡ x
  at_last [] x ys = refl
  at_last (y ∷ xs) x ys = at_last xs x ys

-- a table with one more node
pub table_more : (names place : ℕ) (nodes : List Node) (n : Node) → IsTable names place nodes → IsNode names (place + length nodes) n → IsTable names place (nodes ++ n ∷ [])
table_more names place [] n t h = (subst (λ (k : ℕ). IsNode names k n) (omega arith) h, tt)
table_more names place (m ∷ nodes) n t h = (t.0, table_more names (suc place) nodes n t.1 (subst (λ (k : ℕ). IsNode names k n) (omega arith) h))

-- an operand stands for the same tree if more trees follow
pub operand_front : (names : List (List ℕ)) (count : ℕ) (ts us : List Tree) (o : Operand) → IsOperand count (length ts) o → tree_of_operand names (ts ++ us) o ≡ tree_of_operand names ts o
operand_front names count ts us (operand.Literal l) below = refl
operand_front names count ts us (operand.Name k) below = refl
operand_front names count ts us (operand.Node k) below = get_or_append_left ts us (Const (Numbers [])) k below

pub operands_front : (names : List (List ℕ)) (count : ℕ) (ts us : List Tree) (os : List (Option Operand)) → AreOperands count (length ts) os
    → map (option_map (tree_of_operand names (ts ++ us))) os ≡ map (option_map (tree_of_operand names ts)) os
operands_front names count ts us [] below = refl
operands_front names count ts us (None ∷ os) below = ap (λ rest. None ∷ rest) (operands_front names count ts us os below)
operands_front names count ts us (Some o ∷ os) below =
    ap (λ t. Some t ∷ map (option_map (tree_of_operand names (ts ++ us))) os) (operand_front names count ts us o below.0)
    ∙ ap (λ rest. Some (tree_of_operand names ts o) ∷ rest) (operands_front names count ts us os below.1)

pub operand_wider : (count place more : ℕ) (o : Operand) → place ≤ more → IsOperand count place o → IsOperand count more o
operand_wider count place more (operand.Literal l) h below = tt
operand_wider count place more (operand.Name k) h below = below
operand_wider count place more (operand.Node k) h below = omega (arith, h, below)

pub operands_wider : (count place more : ℕ) (os : List (Option Operand)) → place ≤ more → AreOperands count place os → AreOperands count more os
operands_wider count place more [] h below = tt
operands_wider count place more (None ∷ os) h below = operands_wider count place more os h below
operands_wider count place more (Some o ∷ os) h below = (operand_wider count place more o h below.0, operands_wider count place more os h below.1)

operands_more : (count place : ℕ) (os : List (Option Operand)) (o : Option Operand) → AreOperands count place os → AreOperands count place (o ∷ []) → AreOperands count place (os ++ o ∷ [])
operands_more count place [] o below one = one
operands_more count place (None ∷ os) o below one = operands_more count place os o below one
operands_more count place (Some x ∷ os) o below one = (below.0, operands_more count place os o below.1 one)

-- the positions with one more
names_more : (ps : List (Option Tree)) (p : Option Tree) → names_in_positions (positions_of (ps ++ p ∷ [])) ≡ names_in_positions (positions_of ps) ++ names_in_positions (positions_of (p ∷ []))
names_more [] p = refl
names_more (None ∷ ps) p = names_more ps p
names_more (Some e ∷ ps) p = ap (λ ns. names_in e ++ ns) (names_more ps p) ∙ sym (append_assoc (names_in e) (names_in_positions (positions_of ps)) (names_in_positions (positions_of (p ∷ []))))

inside_more : (ps : List (Option Tree)) (p : Option Tree) → inside_positions (positions_of (ps ++ p ∷ [])) ≡ inside_positions (positions_of ps) ++ inside_positions (positions_of (p ∷ []))
inside_more [] p = refl
inside_more (None ∷ ps) p = inside_more ps p
inside_more (Some e ∷ ps) p = ap (λ ts. inside e ++ ts) (inside_more ps p) ∙ sym (append_assoc (inside e) (inside_positions (positions_of ps)) (inside_positions (positions_of (p ∷ []))))

append_none : {X : Type 0} (xs : List X) → xs ++ [] ≡ xs
append_none [] = refl
append_none (x ∷ xs) = ap (λ rest. x ∷ rest) (append_none xs)

-- nodes for more trees are more
module _ (names : List (List ℕ)) (old new : List Node) (us : List Tree) (is : trees_after names [] new ≡ trees_after names [] old ++ us) where
  grown : length old ≤ length new
  grown = omega (arith, trees_long names [] new, trees_long names [] old, ap (λ ts. length ts) is, length-append (trees_after names [] old) us)

-- a node appended after its arguments
module _ (names names' : List (List ℕ)) (old mid new : List Node) (n : Node) (t : Tree) (front : List Tree) where
  pub lowered_push : names' ≡ names ++ names_in t
      → front ++ t ∷ [] ≡ inside t
      → new ≡ mid ++ n ∷ []
      → ((later : List (List ℕ)) → trees_after (names' ++ later) [] mid ≡ trees_after (names' ++ later) [] old ++ front)
      → ((later : List (List ℕ)) → tree_of_node (names' ++ later) (trees_after (names' ++ later) [] mid) n ≡ t)
      → ((count : ℕ) → length names' ≤ count → IsTable count 0 old → IsTable count 0 mid)
      → ((count : ℕ) → length names' ≤ count → IsNode count (length mid) n)
      → IsLowered names names' old new t (operand.Node (length mid))
  lowered_push named whole is inner node_is table below =
      let pushed : (later : List (List ℕ)) → trees_after (names' ++ later) [] new ≡ trees_after (names' ++ later) [] mid ++ t ∷ [] =
      λ later. ap (λ ns. trees_after (names' ++ later) [] ns) is ∙ (trees_more (names' ++ later) [] mid (n ∷ []) ∙ ap (λ u. trees_after (names' ++ later) [] mid ++ u ∷ []) (node_is later)) in
      record {
        named = named;
        trees = λ later. pushed later ∙ (ap (λ ts. ts ++ t ∷ []) (inner later) ∙ (append_assoc (trees_after (names' ++ later) [] old) front (t ∷ []) ∙ ap (λ ts. trees_after (names' ++ later) [] old ++ ts) whole));
        stands = λ later.
            let long : length mid ≡ length (trees_after (names' ++ later) [] mid) = omega (arith, trees_long (names' ++ later) [] mid) in
            ap (λ ts. tree_at ts (length mid)) (pushed later) ∙ (ap (λ k. tree_at (trees_after (names' ++ later) [] mid ++ t ∷ []) k) long ∙ at_last (Const (Numbers [])) (trees_after (names' ++ later) [] mid) t []);
        table = λ count h old_table. subst (λ (ns : List Node). IsTable count 0 ns) (sym is) (table_more count 0 mid n (table count h old_table) (subst (λ (k : ℕ). IsNode count k n) (omega arith) (below count h)));
        below = λ count h. omega (arith, ap (λ ns. length ns) is, length-append mid (n ∷ []));
      }

pub lowered_monad : (names names' : List (List ℕ)) (old mid new : List Node) (f : Function1) (b : Tree) (right : Operand) → IsLowered names names' old mid b right → new ≡ mid ++ node.Monad f right ∷ []
    → IsLowered names names' old new (before_argument f b) (operand.Node (length mid))
lowered_monad names names' old mid new f b right r is =
    lowered_push names names' old mid new (node.Monad f right) (before_argument f b) (inside b) (r.named ∙ ap (λ ns. names ++ ns) (sym (names_before f b))) (sym (inside_before f b)) is r.trees (λ later. ap (λ t. before_argument f t) (r.stands later)) r.table r.below

-- a lowered tree stays lowered if more names and nodes follow
module _ (names names' names'' : List (List ℕ)) (old mid new : List Node) (more : List (List ℕ)) (us : List Tree)
    (named : names'' ≡ names' ++ more) (then : (later : List (List ℕ)) → trees_after (names'' ++ later) [] new ≡ trees_after (names'' ++ later) [] mid ++ us) where
  joined : (later : List (List ℕ)) → names'' ++ later ≡ names' ++ (more ++ later)
  joined later = ap (λ ns. ns ++ later) named ∙ append_assoc names' more later

  longer : (count : ℕ) → length names'' ≤ count → length names' ≤ count
  longer count h = omega (arith, h, ap (λ ns. length ns) named, length-append names' more)

  kept_trees : (ts : List Tree) → ((later : List (List ℕ)) → trees_after (names' ++ later) [] mid ≡ trees_after (names' ++ later) [] old ++ ts)
      → (later : List (List ℕ)) → trees_after (names'' ++ later) [] new ≡ trees_after (names'' ++ later) [] old ++ (ts ++ us)
  kept_trees ts first later =
      then later ∙ (ap (λ xs. xs ++ us) (ap (λ ns. trees_after ns [] mid) (joined later) ∙ (first (more ++ later) ∙ ap (λ ns. trees_after ns [] old ++ ts) (sym (joined later))))
      ∙ append_assoc (trees_after (names'' ++ later) [] old) ts us)

  kept_stands : (t : Tree) (o : Operand) → ((later : List (List ℕ)) → tree_of_operand (names' ++ later) (trees_after (names' ++ later) [] mid) o ≡ t) → IsOperand (length names') (length mid) o
      → (later : List (List ℕ)) → tree_of_operand (names'' ++ later) (trees_after (names'' ++ later) [] new) o ≡ t
  kept_stands t o stands below later =
      ap (λ ts. tree_of_operand (names'' ++ later) ts o) (then later)
      ∙ (operand_front (names'' ++ later) (length names') (trees_after (names'' ++ later) [] mid) us o (subst (λ (k : ℕ). IsOperand (length names') k o) (omega (arith, trees_long (names'' ++ later) [] mid)) below)
      ∙ (ap (λ ns. tree_of_operand ns (trees_after ns [] mid) o) (joined later) ∙ stands (more ++ later)))

  kept_stand : (ps : List (Option Tree)) (os : List (Option Operand)) → ((later : List (List ℕ)) → map (option_map (tree_of_operand (names' ++ later) (trees_after (names' ++ later) [] mid))) os ≡ ps) → AreOperands (length names') (length mid) os
      → (later : List (List ℕ)) → map (option_map (tree_of_operand (names'' ++ later) (trees_after (names'' ++ later) [] new))) os ≡ ps
  kept_stand ps os stand below later =
      ap (λ ts. map (option_map (tree_of_operand (names'' ++ later) ts)) os) (then later)
      ∙ (operands_front (names'' ++ later) (length names') (trees_after (names'' ++ later) [] mid) us os (subst (λ (k : ℕ). AreOperands (length names') k os) (omega (arith, trees_long (names'' ++ later) [] mid)) below)
      ∙ (ap (λ ns. map (option_map (tree_of_operand ns (trees_after ns [] mid))) os) (joined later) ∙ stand (more ++ later)))

  kept_below : (o : Operand) → ((count : ℕ) → length names' ≤ count → IsOperand count (length mid) o) → (count : ℕ) → length names'' ≤ count → IsOperand count (length new) o
  kept_below o below count h = operand_wider count (length mid) (length new) o (grown (names'' ++ []) mid new us (then [])) (below count (longer count h))

  kept_all_below : (os : List (Option Operand)) → ((count : ℕ) → length names' ≤ count → AreOperands count (length mid) os) → (count : ℕ) → length names'' ≤ count → AreOperands count (length new) os
  kept_all_below os below count h = operands_wider count (length mid) (length new) os (grown (names'' ++ []) mid new us (then [])) (below count (longer count h))

pub lowered_dyad : (names names' names'' : List (List ℕ)) (old mid last new : List Node) (f : Function2) (a b : Tree) (left right : Operand) → IsLowered names names' old mid a left → IsLowered names' names'' mid last b right
    → new ≡ last ++ node.Dyad f left right ∷ [] → IsLowered names names'' old new (between_arguments f a b) (operand.Node (length last))
lowered_dyad names names' names'' old mid last new f a b left right l r is =
    let trees = kept_trees names names' names'' old mid last (names_in b) (inside b) r.named r.trees (inside a) l.trees in
    let stands = kept_stands names names' names'' old mid last (names_in b) (inside b) r.named r.trees a left l.stands (l.below (length names') (omega arith)) in
    lowered_push names names'' old last new (node.Dyad f left right) (between_arguments f a b) (inside a ++ inside b)
    (r.named ∙ (ap (λ ns. ns ++ names_in b) l.named ∙ (append_assoc names (names_in a) (names_in b) ∙ ap (λ ns. names ++ ns) (sym (names_between f a b)))))
    (append_assoc (inside a) (inside b) (between_arguments f a b ∷ []) ∙ sym (inside_between f a b)) is trees
    (λ later. ap (λ t. between_arguments f t (tree_of_operand (names'' ++ later) (trees_after (names'' ++ later) [] last) right)) (stands later) ∙ ap (λ t. between_arguments f a t) (r.stands later))
    (λ count h t. r.table count h (l.table count (longer names names' names'' old mid last (names_in b) (inside b) r.named r.trees count h) t))
    (λ count h. (kept_below names names' names'' old mid last (names_in b) (inside b) r.named r.trees left l.below count h, r.below count h))

pub lowered_index : (names names' names'' : List (List ℕ)) (old mid last new : List Node) (a : Tree) (ps : List (Option Tree)) (array : Operand) (os : Vec (Option Operand)) → IsLowered names names' old mid a array
    → ArePositionsLowered names' names'' mid last ps os.items → new ≡ last ++ node.Index array os ∷ [] → IsLowered names names'' old new (Index a (positions_of ps)) (operand.Node (length last))
lowered_index names names' names'' old mid last new a ps array os l r is =
    let trees = kept_trees names names' names'' old mid last (names_in_positions (positions_of ps)) (inside_positions (positions_of ps)) r.named r.trees (inside a) l.trees in
    let stands = kept_stands names names' names'' old mid last (names_in_positions (positions_of ps)) (inside_positions (positions_of ps)) r.named r.trees a array l.stands (l.below (length names') (omega arith)) in
    lowered_push names names'' old last new (node.Index array os) (Index a (positions_of ps)) (inside a ++ inside_positions (positions_of ps))
    (r.named ∙ (ap (λ ns. ns ++ names_in_positions (positions_of ps)) l.named ∙ append_assoc names (names_in a) (names_in_positions (positions_of ps))))
    (append_assoc (inside a) (inside_positions (positions_of ps)) (Index a (positions_of ps) ∷ [])) is trees
    (λ later. ap (λ t. Index t (positions_of (map (option_map (tree_of_operand (names'' ++ later) (trees_after (names'' ++ later) [] last))) os.items))) (stands later) ∙ ap (λ qs. Index a (positions_of qs)) (r.stand later))
    (λ count h t. r.table count h (l.table count (longer names names' names'' old mid last (names_in_positions (positions_of ps)) (inside_positions (positions_of ps)) r.named r.trees count h) t))
    (λ count h. (kept_below names names' names'' old mid last (names_in_positions (positions_of ps)) (inside_positions (positions_of ps)) r.named r.trees array l.below count h, r.below count h))

pub no_positions : (names : List (List ℕ)) (nodes : List Node) → ArePositionsLowered names names nodes nodes [] []
no_positions names nodes = record {
  named = sym (append_none names);
  trees = λ later. sym (append_none (trees_after (names ++ later) [] nodes));
  stand = λ later. refl;
  table = λ count h t. t;
  below = λ count h. tt;
}

pub empty_position : (names names' : List (List ℕ)) (old new : List Node) (ps : List (Option Tree)) (os : List (Option Operand)) → ArePositionsLowered names names' old new ps os
    → ArePositionsLowered names names' old new (ps ++ None ∷ []) (os ++ None ∷ [])
empty_position names names' old new ps os l = record {
  named = l.named ∙ ap (λ ns. names ++ ns) (sym (names_more ps None ∙ append_none (names_in_positions (positions_of ps))));
  trees = λ later. l.trees later ∙ ap (λ ts. trees_after (names' ++ later) [] old ++ ts) (sym (inside_more ps None ∙ append_none (inside_positions (positions_of ps))));
  stand = λ later. map-append (option_map (tree_of_operand (names' ++ later) (trees_after (names' ++ later) [] new))) os (None ∷ []) ∙ ap (λ ts. ts ++ None ∷ []) (l.stand later);
  table = l.table;
  below = λ count h. operands_more count (length new) os None (l.below count h) tt;
}

pub filled_position : (names names' names'' : List (List ℕ)) (old mid new : List Node) (ps : List (Option Tree)) (os : List (Option Operand)) (e : Tree) (o : Operand) → ArePositionsLowered names names' old mid ps os
    → IsLowered names' names'' mid new e o → ArePositionsLowered names names'' old new (ps ++ Some e ∷ []) (os ++ Some o ∷ [])
filled_position names names' names'' old mid new ps os e o l r =
    let trees = kept_trees names names' names'' old mid new (names_in e) (inside e) r.named r.trees (inside_positions (positions_of ps)) l.trees in
    let stand = kept_stand names names' names'' old mid new (names_in e) (inside e) r.named r.trees ps os l.stand (l.below (length names') (omega arith)) in
    record {
      named = r.named ∙ (ap (λ ns. ns ++ names_in e) l.named ∙ (append_assoc names (names_in_positions (positions_of ps)) (names_in e)
          ∙ ap (λ ns. names ++ ns) (sym (names_more ps (Some e) ∙ ap (λ ns. names_in_positions (positions_of ps) ++ ns) (append_none (names_in e))))));
      trees = λ later. trees later ∙ ap (λ ts. trees_after (names'' ++ later) [] old ++ ts) (sym (inside_more ps (Some e) ∙ ap (λ ts. inside_positions (positions_of ps) ++ ts) (append_none (inside e))));
      stand = λ later. map-append (option_map (tree_of_operand (names'' ++ later) (trees_after (names'' ++ later) [] new))) os (Some o ∷ [])
          ∙ (ap (λ ts. ts ++ Some (tree_of_operand (names'' ++ later) (trees_after (names'' ++ later) [] new) o) ∷ []) (stand later) ∙ ap (λ t. ps ++ Some t ∷ []) (r.stands later));
      table = λ count h t. r.table count h (l.table count (longer names names' names'' old mid new (names_in e) (inside e) r.named r.trees count h) t);
      below = λ count h. operands_more count (length new) os (Some o) (kept_all_below names names' names'' old mid new (names_in e) (inside e) r.named r.trees os l.below count h) (r.below count h, tt);
    }

-- the result of appending a node
pub as_lowered : {E : Type 0} (names names' : List (List ℕ)) (old mid new : List Node) (n : Node) (t : Tree) (r : Result Operand E) → OnOk r (new ≡ mid ++ n ∷ []) → IfOk r (λ o. o ≡ operand.Node (length mid))
    → (new ≡ mid ++ n ∷ [] → IsLowered names names' old new t (operand.Node (length mid))) → IfOk r (λ o. IsLowered names names' old new t o)
as_lowered names names' old mid new n t (Ok o) pushed place made = subst (λ (x : Operand). IsLowered names names' old new t x) (sym place) (made pushed)
as_lowered names names' old mid new n t (Err e) pushed place made = tt

-- a property of all nodes before a push, and of all after it
pub pushed_anew : {T E : Type 0} (r : Result T E) (P Q O : Type 0) → (O → P) → OnOk r (P → Q) → OnOk r (O → Q)
pushed_anew (Ok t) P Q O before then = λ o. then (before o)
pushed_anew (Err e) P Q O before then = tt

-- one more position in memory
pub position_more : (names names' : List (List ℕ)) (old new : List Node) (xs : List (Option Expr)) (k : ℕ) (x : Option Expr) (os os' : List (Option Operand)) (o : Option Operand)
    → k < length xs → x ≡ get_or xs k x → os' ≡ os ++ o ∷ []
    → ArePositionsLowered names names' old new (map position_of (take k xs) ++ position_of x ∷ []) (os ++ o ∷ []) → ArePositionsLowered names names' old new (map position_of (take (k + 1) xs)) os'
position_more names names' old new xs k x os os' o below is pushed l =
    let longer : take (k + 1) xs ≡ take k xs ++ x ∷ [] = ap (λ n. take n xs) (add-one k) ∙ (take-suc xs k x below ∙ ap (λ y. take k xs ++ y ∷ []) (sym is)) in
    let mapped : map position_of (take (k + 1) xs) ≡ map position_of (take k xs) ++ position_of x ∷ [] = ap (λ ys. map position_of ys) longer ∙ map-append position_of (take k xs) (x ∷ []) in
    subst (λ (qs : List (Option Operand)). ArePositionsLowered names names' old new (map position_of (take (k + 1) xs)) qs) (sym pushed)
    (subst (λ (ps : List (Option Tree)). ArePositionsLowered names names' old new ps (os ++ o ∷ [])) (sym mapped) l)
